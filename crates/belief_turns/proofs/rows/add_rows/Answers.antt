use Rattle.std.proofs.Common.{◌≡◌, [], ◌∷◌, take, sym, subst, w64, to_z, of_z, rules, arith}
use Rattle.std.specs.Prelude.{Some, slice_get, FitsSigned}
use Rattle.std.specs.List.{filter_map}
use Rattle.std.proofs.lemmas.Int.{to_z-of_z}
use Rattle.std.proofs.lemmas.List.{take_all}
use Rattle.tmm_model.specs.Beliefs.{on_kind}
use Rattle.spots.proofs.Grown.{stands}
use Rattle.projection.proofs.OnKinds.{next_rules}
use Rattle.belief_table.specs.Decided.{AddsRows}
use Rattle.belief_turns.proofs.Entered.{adds_more}
use Rattle.belief_turns.proofs.OnKinds.{rules_apart}
use Rattle.belief_table.proofs.Named.{last_on}
use Rattle.belief_turns.proofs.rows.add_rows.Goals as goal

pub add_premise-requires-clause-stands : goal.add_premise-requires-clause-stands
add_premise-requires-clause-stands c = stands c.args.standing.now.present.premises c.loop-place.place c.in-Some.premise.now (sym c.in-Some.ensures)

pub loop-place-preserved : goal.loop-place-preserved
loop-place-preserved c =
    let s = c.args.standing.now.present in
    let premise = c.in-Some.premise.now in
    let place = c.loop-place.place in
    let at : slice_get s.premises place ≡ Some premise = sym c.in-Some.ensures in
    let old = c.args.decisions.now in
    let mid = c.loop-place.decisions in
    let new = c.add_premise.new.decisions in
    record {
      adds = subst (λ l. AddsRows l c.args.event (to_z w64 (of_z w64 c.args.date)) old new) (sym (next_rules c.args.kind s.premises place premise at))
          (adds_more s c.args.event (to_z w64 (of_z w64 c.args.date)) (filter_map (on_kind c.args.kind) (take place s.premises)) (filter_map (on_kind c.args.kind) (premise ∷ [])) old mid new c.loop-place.invariant.under
          c.in_ok-add_premise.ensures.last c.loop-place.invariant.adds c.in_ok-add_premise.ensures.adds (rules_apart c.args.kind s.premises place premise at c.requires.once));
      under = c.in_ok-add_premise.ensures.under;
      last = last_on old mid new c.loop-place.invariant.last c.in_ok-add_premise.ensures.last;
    }

pub returns-clause-adds : goal.returns-clause-adds
returns-clause-adds c =
    let s = c.args.standing.now.present in
    let fits : FitsSigned w64 c.args.date = search rules in
    let all : take c.loop-place.place s.premises ≡ s.premises = take_all c.loop-place.place s.premises (omega (arith, c.loop-place-test.false, c.len-place-end.ensures.value)) in
    subst (λ l. AddsRows (filter_map (on_kind c.args.kind) l) c.args.event c.args.date c.args.decisions.now c.loop-place.decisions) all
    (subst (λ z. AddsRows (filter_map (on_kind c.args.kind) (take c.loop-place.place s.premises)) c.args.event z c.args.decisions.now c.loop-place.decisions) (to_z-of_z w64 c.args.date fits) c.loop-place.invariant.adds)
