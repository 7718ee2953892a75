use Rattle.std.proofs.Common.{List, Bool, Vec, Global, sym, subst}
use Rattle.std.specs.List.{All}
use Rattle.std.specs.Prelude.{MatchOption}
use Rattle.occ_tree.specs.Places.{forest}
use Rattle.joined.specs.Shifting.{SparesClass}
use Rattle.bearing.specs.declared.loose_tokens.Shift.{Shift}
use Rattle.bearing.specs.Fast.{is_out}
use Rattle.bearing.specs.Shifts.{ShiftHasBoth, AreShifts}
use Rattle.marking.proofs.class_points_moved.is_spared.Goals as goal
use Rattle.marking.proofs.class_points_moved.is_spared.Goals.{In-Some}

-- the loose tokens that are told
told : (c : In-Some) → AreShifts c.args.net.now (forest c.args.tree.now) (is_out c.args.moves.now.fast.items) c.args.of_class.now.class c.in-Some.shifts.items
told c =
    subst (λ o. MatchOption o (Unit {0}) (λ (list : Vec Shift Global). AreShifts c.args.net.now (forest c.args.tree.now) (is_out c.args.moves.now.fast.items) c.args.of_class.now.class list.items)) c.in-Some.is
    c.requires.class.shifts

pub spares-requires-clause-shifts : goal.spares-requires-clause-shifts
spares-requires-clause-shifts c = subst (All (ShiftHasBoth c.args.net.now)) (sym c.deref-in-Some.ensures.value) (told (goal.at.spares-requires-clause-shifts c).In-Some).have

pub returns-in-Some : goal.returns-in-Some
returns-in-Some c is =
    let nets = c.args.net.now in
    let f = forest c.args.tree.now in
    let fast = c.args.moves.now.fast.items in
    let class = c.args.of_class.now.class in
    let are = told (goal.at.returns-in-Some c).In-Some in
    subst (λ (l : List Bool). SparesClass nets f (is_out l) class c.args.x) c.deref.ensures.value
    (c.spares.ensures is class
    (subst (λ (l : List Bool). AreShifts nets f (is_out l) class c.deref-in-Some.result.now) (sym c.deref.ensures.value)
    (subst (AreShifts nets f (is_out fast) class) (sym c.deref-in-Some.ensures.value) are)))
