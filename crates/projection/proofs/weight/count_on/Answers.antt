use Rattle.std.proofs.Common.{◌≡◌, ◌∙◌, [], ◌∷◌, take, length, sym, ap, arith}
use Rattle.std.proofs.lemmas.List.{length-append, take_all}
use Rattle.std.specs.Prelude.{Some, slice_get}
use Rattle.std.specs.List.{filter_map}
use Rattle.tmm_model.specs.Beliefs.{on_kind}
use Rattle.projection.proofs.OnKinds.{next_rules}
use Rattle.projection.proofs.weight.count_on.Goals as goal

pub loop-place-preserved : goal.loop-place-preserved
loop-place-preserved c =
    let premises = c.args.standing.now.present.premises in
    let premise = c.in-Some.premise.now in
    let place = c.loop-place.place in
    let at : slice_get premises place ≡ Some premise = sym c.in-Some.ensures in
    let told = filter_map (on_kind c.args.kind) in
    let long = ap length (next_rules c.args.kind premises place premise at) ∙ length-append (told (take place premises)) (told (premise ∷ [])) in
    let before = c.loop-place.invariant.value in
    let one = c.count_one-count.ensures.value in
    let few = c.loop-place.invariant.few in
    let few_one = c.count_one-count.ensures.few in
    record { value = omega (arith, long, before, one); few = omega (arith, few, few_one) }

pub returns-clause-value : goal.returns-clause-value
returns-clause-value c =
    let premises = c.args.standing.now.present.premises in
    c.loop-place.invariant.value ∙ ap (λ l. length (filter_map (on_kind c.args.kind) l)) (take_all c.loop-place.place premises (omega (arith, c.loop-place-test.false, c.len-place-end.ensures.value)))
