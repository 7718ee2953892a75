use Rattle.std.proofs.Common.{◌≡◌, ◌∙◌, List, ℕ, sym, ap, subst}
use Rattle.occ_tree.specs.Classes.{HaveMore}
use Rattle.occ_tree.proofs.Numbered.{no_more}
use Rattle.belief_table.specs.declared.state.Beliefs.{Beliefs}
use Rattle.belief_table.specs.Waiting.{dates_in}
use Rattle.belief_net.specs.Copying.{CopiesKept}
use Rattle.belief_net.proofs.KeptAgain.{kept_again}
use Rattle.belief_net.proofs.state.BeliefNet.copy.Goals as goal

-- names that are the same are no fewer
same_more : (old new : List (List ℕ)) → new ≡ old → HaveMore old new
same_more old new same = subst (λ (names : List (List ℕ)). HaveMore old names) (sym same) (no_more old)

pub returns-clause-kept : goal.returns-clause-kept
returns-clause-kept c =
    let old = c.self.inside.beliefs in
    let new : Beliefs = record { tree = c.in_ok-copy.field-0; decisions = c.in_ok-copy-2.field-0 } in
    let tree = c.in_ok-copy.ensures.stays in
    let copied = c.in_ok-copy-2.ensures in
    subst (λ (z : Beliefs). CopiesKept z new) c.self.view_is
    (λ s net kept.
    kept_again s net old new kept.fit kept.current kept.none_waits tree.present_is copied.rows.present
    (same_more old.decisions.rules new.decisions.rules copied.rules) (same_more old.decisions.classes new.decisions.classes copied.classes)
    (λ i. ap (λ l. dates_in l i) copied.waiting ∙ kept.none_waits i)
    (tree.committed_is ∙ kept.tree ∙ sym tree.present_is) (copied.rows.committed ∙ kept.rows ∙ sym copied.rows.present))
