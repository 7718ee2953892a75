use Rattle.std.proofs.Common.{◌∙◌, ◌<◌, ℕ, List, false, true, length, set, sym, subst, arith}
use Rattle.std.specs.List.{Contains}
use Rattle.std.proofs.lemmas.List.{get_or_default}
use Rattle.std.proofs.lemmas.List.Elements.{Contains-push}
use Rattle.dist_net.specs.Changes.{ArePoints, AreMarks}
use Rattle.dist_net.proofs.Marks.{ArePoints-push, AreMarks-push, points_room, absent_unmarked}
use Rattle.dist_net.proofs.numbers.Numbers.add.Goals as goal

pub push_reserved-requires : goal.push_reserved-requires
push_reserved-requires c =
    let inside = c.self.inside in
    let absent : Contains inside.list.items c.args.p → ⊥ = absent_unmarked inside.list.items inside.marks.items c.args.p c.self.invariant.1 (get_or_default inside.marks.items c.args.p false c.index.result.now (omega (arith, c.requires.point, c.self.invariant.1.places)) ∙ (sym c.index.ensures ∙ c.if-index.false)) in
    let room : length inside.list.items < 256 = points_room inside.list.items c.args.p c.self.invariant.0 c.requires.point absent in
    omega (arith, inside.list.ok.0, room, c.self.invariant.2)

pub invariant_of-self : goal.invariant_of-self
invariant_of-self c =
    let inside = c.self.inside in
    let absent : Contains inside.list.items c.args.p → ⊥ = absent_unmarked inside.list.items inside.marks.items c.args.p c.self.invariant.1 (get_or_default inside.marks.items c.args.p false c.index.result.now (omega (arith, c.requires.point, c.self.invariant.1.places)) ∙ (sym c.index.ensures ∙ c.if-index.false)) in (
      subst ArePoints (sym c.push_reserved.ensures.items) (ArePoints-push inside.list.items c.args.p c.self.invariant.0 c.requires.point absent),
      subst (λ (t : List ℕ). AreMarks t (set inside.marks.items c.args.p true)) (sym c.push_reserved.ensures.items) (AreMarks-push inside.list.items inside.marks.items c.args.p c.requires.point c.self.invariant.1),
      omega (arith, c.push_reserved.ensures.capacity, c.self.invariant.2),
    )

pub returns-clause-listed : goal.returns-clause-listed
returns-clause-listed c = subst (λ (t : List ℕ). Contains t c.args.p) (sym c.push_reserved.ensures.items) (Contains-push c.self.inside.list.items c.args.p)
