use Rattle.std.proofs.lemmas.List.Sorted.{length_permutation}
use Rattle.occ_tree.proofs.sorting.sort_nodes.Goals as goal

pub returns-clause-same : goal.returns-clause-same
returns-clause-same c = c.sort_unstable_by.ensures.permutation

pub returns-clause-long : goal.returns-clause-long
returns-clause-long c = length_permutation c.args.numbers.now.items c.sort_unstable_by.new.self.items c.sort_unstable_by.ensures.permutation
