use Rattle.std.proofs.Common.{subst}
use Rattle.belief_table.specs.Numbers.{HaveOwnNumbers}
use Rattle.belief_table.proofs.Named.{own_numbers}
use Rattle.belief_table.proofs.numbers.Numbers.find.Goals as goal

pub returns-in_err-get_index_of-clause-own : goal.returns-in_err-get_index_of-clause-own
returns-in_err-get_index_of-clause-own c = subst HaveOwnNumbers c.self.view_is (own_numbers c.self.inside.names.keys c.len.ensures.unique)

pub returns-clause-own : goal.returns-clause-own
returns-clause-own c = subst HaveOwnNumbers c.self.view_is (own_numbers c.self.inside.names.keys c.len.ensures.unique)
