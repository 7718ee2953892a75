use Rattle.std.proofs.Common.{◌∙◌}
use Rattle.neg_cycle.proofs.Linked.{zeros}
use Rattle.neg_cycle.proofs.ends.Ends.make.Goals as goal

pub link-requires-clause-none : goal.link-requires-clause-none
link-requires-clause-none c p = zeros 256 p c.deref_mut.result.now (c.deref_mut.ensures.value ∙ c.in_ok-last.ensures.items_if_clones_equal (λ y e. e))
