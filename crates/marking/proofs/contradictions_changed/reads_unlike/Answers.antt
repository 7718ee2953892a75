use Rattle.std.proofs.Common.{◌≡◌, ◌∙◌, ℕ, List, Some, sym, ap, subst, arith}
use Rattle.std.specs.Prelude.{slice_get}
use Rattle.std.proofs.lemmas.List.{take_all}
use Rattle.std.proofs.lemmas.Option.{slice_get-get_or}
use Rattle.list_theory.proofs.Elements.{In}
use Rattle.premise_list.proofs.PairsOfFacts.{each_taken, In-slice_get}
use Rattle.marking.specs.Contradicted.{AreAlike}
use Rattle.marking.proofs.contradictions_changed.reads_unlike.Goals as goal

pub loop-i-init : goal.loop-i-init
loop-i-init c = λ f at. absurd at

pub loop-i-preserved : goal.loop-i-preserved
loop-i-preserved c =
    let old = c.args.standing.now.committed in
    let s = c.args.standing.now.present in
    let facts = c.as_slice-facts.result.now in
    let fact = c.index-facts-i.result in
    let at : slice_get facts c.loop-i.i ≡ Some fact = slice_get-get_or facts c.loop-i.i fact c.loop-i-test.true ∙ ap Some (sym c.index-facts-i.is) in
    each_taken (λ f. (g : List ℕ) → AreAlike old s f g) (λ f. (g : List ℕ) → AreAlike old s f g) facts c.loop-i.i fact at (λ f alike. alike) (c.is_unlike.ensures.no c.if-is_unlike.false) c.loop-i.invariant

pub returns-then-is_unlike-clause-yes : goal.returns-then-is_unlike-clause-yes
returns-then-is_unlike-clause-yes c = λ _.
    let facts = c.as_slice-facts.result.now in
    let fact = c.index-facts-i.result in
    let at : slice_get facts c.loop-i.i ≡ Some fact = slice_get-get_or facts c.loop-i.i fact c.loop-i-test.true ∙ ap Some (sym c.index-facts-i.is) in
    let (g, unlike) = c.is_unlike.ensures.yes c.if-is_unlike.true in
    (fact, g, subst (In fact) (c.as_slice-facts.ensures.value ∙ c.read_of-read.ensures) (In-slice_get facts c.loop-i.i fact at), unlike)

pub returns-clause-no : goal.returns-clause-no
returns-clause-no c = λ _ f at g.
    let facts = c.as_slice-facts.result.now in
    let on = subst (In f) (sym (c.as_slice-facts.ensures.value ∙ c.read_of-read.ensures)) at in
    c.loop-i.invariant f (subst (In f) (sym (take_all c.loop-i.i facts (omega (arith, c.loop-i-test.false)))) on) g
