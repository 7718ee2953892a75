use Rattle.std.proofs.Common.{◌∙◌, sym, ap, subst}
use Rattle.belief_table.specs.declared.state.Beliefs.{Beliefs}
use Rattle.belief_table.specs.Waiting.{dates_in}
use Rattle.belief_net.specs.Updating.{LeadsBack}
use Rattle.belief_net.proofs.KeptAgain.{kept_again}
use Rattle.belief_net.proofs.state.BeliefNet.rollback.Goals as goal

pub returns-clause-kept : goal.returns-clause-kept
returns-clause-kept c =
    let old = c.self.inside.beliefs in
    let new : Beliefs = record { tree = c.rollback.new.self; decisions = record old.decisions { rows = c.rollback-2.new.self; waiting = c.clear.new.self } } in
    subst (λ (z : Beliefs). LeadsBack z new) c.self.view_is
    (λ s net b kept last.
    kept_again s net b new kept.fit kept.current kept.none_waits (c.rollback.ensures.present ∙ last.tree ∙ kept.tree) (c.rollback-2.ensures.present ∙ last.decisions.rows ∙ kept.rows)
    last.decisions.rules last.decisions.classes (λ i. ap (λ l. dates_in l i) c.clear.ensures)
    (c.rollback.ensures.committed ∙ sym c.rollback.ensures.present) (c.rollback-2.ensures.committed ∙ sym c.rollback-2.ensures.present))
