use Rattle.belief_net.proofs.Nothing.{nothing_kept}
use Rattle.belief_net.proofs.state.BeliefNet.make.Goals as goal

pub returns-clause-kept : goal.returns-clause-kept
returns-clause-kept c =
    nothing_kept
    (record { tree = c.make.result; decisions = record { rows = c.make-2.result; rules = c.make-3.result; classes = c.make-4.result; waiting = c.make-5.result } })
    c.make.ensures.none c.make-2.ensures.row c.make-5.ensures c.make.ensures.committed c.make-2.ensures.committed
