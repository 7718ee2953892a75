use Rattle.belief_net.proofs.Cleared.{cleared, seen_after, told_first}
use Rattle.belief_net.proofs.beginning_laws.erased_are_cleared.Goals as goal

pub returns : goal.returns
returns c = λ old edit net b e all names sound fit current out sheds spares free. (
  cleared old edit net b e all names sound fit current out sheds spares free,
  seen_after old edit net b e all names sound fit current out sheds spares free,
  told_first old edit net b e all names sound fit current out sheds spares free,
)
