use Rattle.std.proofs.Common.{◌≡◌, ◌∙◌, ℕ, List, true, Some, sym, ap, subst, arith}
use Rattle.std.specs.Prelude.{slice_get}
use Rattle.std.proofs.lemmas.List.{take_all}
use Rattle.std.proofs.lemmas.Option.{slice_get-get_or}
use Rattle.list_theory.proofs.Elements.{In}
use Rattle.premise_list.specs.Rivalries.{is_pair_of}
use Rattle.premise_list.proofs.PairsOfFacts.{each_taken}
use Rattle.marking.specs.Contradicted.{AreAlike}
use Rattle.marking.proofs.Unlike.{all_alike}
use Rattle.marking.proofs.contradictions_changed.is_unlike.Goals as goal

pub loop-i-init : goal.loop-i-init
loop-i-init c = λ pair at. absurd at

pub loop-i-preserved : goal.loop-i-preserved
loop-i-preserved c =
    let old = c.args.standing.now.committed in
    let s = c.args.standing.now.present in
    let pairs = c.args.changed.now in
    let pair = c.index-changed-i.result in
    let at : slice_get pairs c.loop-i.i ≡ Some pair = slice_get-get_or pairs c.loop-i.i pair c.loop-i-test.true ∙ ap Some (sym c.index-changed-i.is) in
    each_taken (λ p. (g : List ℕ) → is_pair_of c.args.fact g p ≡ true → AreAlike old s c.args.fact g) (λ p. (g : List ℕ) → is_pair_of c.args.fact g p ≡ true → AreAlike old s c.args.fact g)
    pairs c.loop-i.i pair at (λ p alike. alike) (c.is_unlike_by.ensures.no c.if-is_unlike_by.false) c.loop-i.invariant

pub returns-clause-no : goal.returns-clause-no
returns-clause-no c = λ _.
    let pairs = c.args.changed.now in
    let old = c.args.standing.now.committed in
    let s = c.args.standing.now.present in
    let fact = c.args.fact in
    all_alike old s pairs c.requires fact
    (λ pair on g of. c.loop-i.invariant pair (subst (In pair) (sym (take_all c.loop-i.i pairs (omega (arith, c.loop-i-test.false)))) on) g of)
