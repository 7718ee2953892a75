use Rattle.std.proofs.Common.{◌∙◌, sym, subst}
use Rattle.occ_tree.proofs.Numbered.{no_more}
use Rattle.belief_table.specs.declared.state.Beliefs.{Beliefs}
use Rattle.belief_net.specs.Updating.{CommitsKept}
use Rattle.belief_net.proofs.KeptAgain.{kept_again}
use Rattle.belief_net.proofs.state.BeliefNet.commit.Goals as goal

pub returns-clause-kept : goal.returns-clause-kept
returns-clause-kept c =
    let old = c.self.inside.beliefs in
    let new : Beliefs = record { tree = c.commit.new.self; decisions = record old.decisions { rows = c.commit-2.new.self } } in
    subst (λ (b : Beliefs). CommitsKept b new) c.self.view_is
    (λ s net fit current rested.
    kept_again s net old new fit current rested c.commit.ensures.present c.commit-2.ensures.present (no_more old.decisions.rules) (no_more old.decisions.classes) rested
    (c.commit.ensures.committed ∙ sym c.commit.ensures.present) (c.commit-2.ensures.committed ∙ sym c.commit-2.ensures.present))
