use Rattle.std.proofs.Common.{◌∙◌, List, sym, ap, subst}
use Rattle.std.specs.List.Sorted.{IsPermutation}
use Rattle.std.proofs.lemmas.List.Sorted.{IsPermutation-map, All-permutation}
use Rattle.occ_tree.specs.Standing.{present}
use Rattle.belief_list.specs.declared.kept_rows.Difference.{Difference}
use Rattle.belief_list.specs.declared.told_changes.Headed.{Headed}
use Rattle.belief_list.specs.Heads.{told_in, IsHeaded}
use Rattle.belief_list.specs.Told.{AreRanked}
use Rattle.belief_list.proofs.Heads.{heads_ranked}
use Rattle.belief_list.proofs.told_changes.present_in_order.Goals as goal

pub returns-clause-same : goal.returns-clause-same
returns-clause-same c =
    let headed = c.in_ok-headed.headed.items in
    let sorted = c.sort_headed.new.headed.items in
    subst (λ (l : List Difference). IsPermutation l c.in_ok-told.told.items) c.in_ok-headed.ensures.same
    (subst (IsPermutation (told_in headed)) (sym (c.in_ok-told.ensures ∙ ap told_in c.deref.ensures.value)) (IsPermutation-map (λ (h : Headed). h.difference.now) headed sorted c.sort_headed.ensures.same))

pub returns-clause-in_order : goal.returns-clause-in_order
returns-clause-in_order c = λ s net seen dated.
    let k = present c.args.tree.now in
    let headed = c.in_ok-headed.headed.items in
    let sorted = c.sort_headed.new.headed.items in
    subst (AreRanked k) (sym (c.in_ok-told.ensures ∙ ap told_in c.deref.ensures.value))
    (heads_ranked s net k seen dated sorted (All-permutation (IsHeaded k) headed sorted c.sort_headed.ensures.same c.in_ok-headed.ensures.headed) c.sort_headed.ensures.in_order)
