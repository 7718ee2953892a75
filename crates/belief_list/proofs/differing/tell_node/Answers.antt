use Rattle.std.proofs.Common.{◌≡◌, ◌<◌, true, false, length, sym, ◌∙◌, subst, arith, inl, inr}
use Rattle.std.specs.Prelude.{None}
use Rattle.std.proofs.lemmas.List.{get_or_default}
use Rattle.std.proofs.lemmas.Result.{on_ok_weaker}
use Rattle.belief_list.specs.Finding.{IsNowUnder, mark_under}
use Rattle.belief_list.proofs.Finding.{unmarked_within}
use Rattle.belief_list.proofs.differing.tell_node.Goals as goal

pub returns-clause-found : goal.returns-clause-found
returns-clause-found c =
    let s = c.args.standing.now.present in
    let tree = c.args.tree.now in
    let x = c.args.x in
    let kept = c.args.kept.now in
    let now = c.row_now-now.result in
    let marks = c.args.found.now.marks.items in
    let free : mark_under marks x ≡ false = sym c.is_marked.ensures ∙ c.if-is_marked.false in
    let within : x < length kept = (let lt = unmarked_within marks x free in omega (arith, lt, c.requires.long)) in
    on_ok_weaker c.tell.result
    (λ told net nodes classes there settled w.
    told s net tree classes w
    (subst (λ o. IsNowUnder s net tree classes o x now) (get_or_default kept x _ None within)
    (c.row_now-now.ensures.now net classes
    (λ m class here of among. elim (settled class among x m here of) [
      | inl marked ↦ (let no : true ≡ false = sym marked ∙ free in absurd (cc no))
      | inr keeps ↦ keeps.own there
    ]))))
    c.tell.ensures.found
