use Rattle.std.proofs.Common.{◌≡◌, ◌∙◌, get_or, sym, ap, subst, inl, inr, arith}
use Rattle.std.proofs.lemmas.Bool.{cases_order}
use Rattle.std.proofs.lemmas.List.{get_or_default}
use Rattle.occ_tree.specs.Places.{forest}
use Rattle.bearing.specs.declared.loose_tokens.Shift.{Shift}
use Rattle.bearing.specs.Shifts.{IsSparedBy, ShiftHasBoth}
use Rattle.bearing.proofs.Shifted.{all_spared}
use Rattle.bearing.proofs.loose_tokens.spares.Goals as goal

pub is_spared-requires-clause-shift : goal.is_spared-requires-clause-shift
is_spared-requires-clause-shift c = subst (ShiftHasBoth c.args.net.now) (sym c.index-shifts-i.is) (c.requires.shifts c.loop-i.i c.index-shifts-i.result c.loop-i-test.true)

pub is_spared-requires-clause-event : goal.is_spared-requires-clause-event
is_spared-requires-clause-event c = c.requires.fast c.place_of-event.result.base (sym c.is_in.ensures ∙ c.if-not-is_in.false)

pub loop-i-init : goal.loop-i-init
loop-i-init c k shift less = absurd (omega (arith, less))

pub loop-i-preserved : goal.loop-i-preserved
loop-i-preserved c k shift less is = elim (cases_order k c.loop-i.i) [
  | inl same ↦
      let one : shift ≡ c.index-shifts-i.result =
      is ∙ ap (λ j. get_or c.args.shifts.now j shift) same ∙ get_or_default c.args.shifts.now c.loop-i.i shift c.index-shifts-i.result c.loop-i-test.true ∙ sym c.index-shifts-i.is in
      subst (λ (s : Shift). IsSparedBy c.args.net.now.committed s.place s.before.items c.place_of-event.result × IsSparedBy c.args.net.now.present s.place s.after.items c.place_of-event.result) (sym one)
      (c.is_spared.ensures.before c.if-not-is_spared.false, c.is_spared.ensures.after c.if-not-is_spared.false)
  | inr other ↦ elim other [ inl below ↦ c.loop-i.invariant k shift below is | inr above ↦ absurd (omega (arith, less, above)) ]
]

pub returns : goal.returns
returns c is class are =
    all_spared c.args.net.now (forest c.args.tree.now) c.args.fast.now c.args.shifts.now c.args.x c.place_of-event.result c.place_of-event.ensures (sym c.is_in.ensures ∙ c.if-not-is_in.false)
    (λ shift (k, less, at). c.loop-i.invariant k shift (omega (arith, less)) (sym at)) class are
