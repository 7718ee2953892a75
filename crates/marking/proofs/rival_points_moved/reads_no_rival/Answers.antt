use Rattle.std.proofs.Common.{◌≡◌, ◌∙◌, ℕ, List, Some, false, sym, ap, subst, arith}
use Rattle.std.specs.Prelude.{slice_get}
use Rattle.std.proofs.lemmas.List.{take_all}
use Rattle.std.proofs.lemmas.Option.{slice_get-get_or}
use Rattle.tmm_model.specs.Beliefs.{are_rivals}
use Rattle.list_theory.proofs.Elements.{In}
use Rattle.premise_list.proofs.PairsOfFacts.{each_taken}
use Rattle.marking.proofs.rival_points_moved.reads_no_rival.Goals as goal

pub loop-i-init : goal.loop-i-init
loop-i-init c = λ f at. absurd at

pub loop-i-preserved : goal.loop-i-preserved
loop-i-preserved c =
    let old = c.args.standing.now.committed in
    let s = c.args.standing.now.present in
    let facts = c.as_slice-facts.result.now in
    let fact = c.index-facts-i.result in
    let at : slice_get facts c.loop-i.i ≡ Some fact = slice_get-get_or facts c.loop-i.i fact c.loop-i-test.true ∙ ap Some (sym c.index-facts-i.is) in
    let plain = λ (f : List ℕ). (g : List ℕ) → (are_rivals old f g ≡ false) × (are_rivals s f g ≡ false) in
    each_taken plain plain facts c.loop-i.i fact at (λ f is. is) (c.has_or_had_rivals.ensures.none c.if-has_or_had_rivals.false) c.loop-i.invariant

pub returns : goal.returns
returns c = λ _ f at g.
    let facts = c.as_slice-facts.result.now in
    let on = subst (In f) (sym (c.as_slice-facts.ensures.value ∙ c.read_of-read.ensures)) at in
    c.loop-i.invariant f (subst (In f) (sym (take_all c.loop-i.i facts (omega (arith, c.loop-i-test.false)))) on) g
