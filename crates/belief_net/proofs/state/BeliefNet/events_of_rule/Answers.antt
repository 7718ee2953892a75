use Rattle.std.proofs.lemmas.Result.{IfOk-weaker}
use Rattle.std.proofs.Common.{sym, subst}
use Rattle.list_theory.proofs.Elements.{Contains-from_In}
use Rattle.belief_table.specs.declared.state.Beliefs.{Beliefs}
use Rattle.belief_table.specs.Decided.{AreUnder}
use Rattle.belief_net.specs.KindEvents.{HasRowAt}
use Rattle.belief_net.proofs.KindEvents.{row_at}
use Rattle.belief_table.proofs.Parted.{in_on}
use Rattle.belief_net.proofs.state.BeliefNet.events_of_rule.Goals as goal

pub events_with-requires : goal.events_with-requires
events_with-requires c = let (s, net, fit) = c.requires in (s, subst (λ (b : Beliefs). AreUnder s b.decisions) (sym c.self.view_is) fit.under)

pub returns : goal.returns
returns c =
    IfOk-weaker c.events_with.result _ _ (λ found all s net x current live stands.
    Contains-from_In found.items x (in_on found.items x (all x
    (subst (λ (b : Beliefs). HasRowAt b.decisions x c.args.rule) (sym c.self.view_is) (row_at c.args.self.now x c.args.rule (current.rows_are.each x c.args.rule live stands)))))) c.events_with.ensures.all
