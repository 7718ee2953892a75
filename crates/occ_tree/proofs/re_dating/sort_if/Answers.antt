use Rattle.std.proofs.lemmas.List.Sorted.{IsPermutation-refl}
use Rattle.occ_tree.proofs.re_dating.sort_if.Goals as goal

pub returns-else-several-clause-same : goal.returns-else-several-clause-same
returns-else-several-clause-same c = IsPermutation-refl c.args.numbers.now.items
