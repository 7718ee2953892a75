use Rattle.agents.proofs.Orders.{commits_decide}
use Rattle.agents.proofs.laws.order_of_commits_decides.Goals as goal

pub returns : goal.returns
returns c = commits_decide
