use Rattle.std.proofs.Common.{subst}
use Rattle.belief_table.specs.Numbers.{HaveOwnNumbers}
use Rattle.belief_table.proofs.Named.{own_numbers}
use Rattle.belief_table.proofs.numbers.Numbers.have_own.Goals as goal

pub returns : goal.returns
returns c = subst HaveOwnNumbers c.self.view_is (own_numbers c.self.inside.names.keys c.len.ensures.unique)
