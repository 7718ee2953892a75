use Rattle.std.proofs.Common.{◌≡◌, rules}
use Rattle.std.specs.Ordering.{is_lt}
use Rattle.std.proofs.lemmas.Fn.{always_returns_same}
use Rattle.occ_tree.specs.Standing.{nodes_in, present_rows}
use Rattle.occ_tree.specs.Words.{rank_in}
use Rattle.occ_tree.proofs.SortedBelow.{rank_order, in_order, below_sorted}
use Rattle.occ_tree.proofs.sorting.sort_below.Goals as goal

pub returns-clause-below : goal.returns-clause-below
returns-clause-below c = λ x below.
    let node = nodes_in (present_rows c.args.nodes.now) in
    let s = c.sort_unstable_by.ensures in
    below_sorted node c.limit.ensures.stands.placed x c.args.numbers.now.items c.sort_unstable_by.new.self.items below s.permutation c.requires.dates
    (s.sorted (λ y z. is_lt (rank_in node y z)) (rank_order node c.limit.ensures.stands.placed)
    (always_returns_same _ (λ a r. is_lt r ≡ is_lt (rank_in node a.0.now a.1.0.now)) _ (λ a r q k. search rules)))

pub returns-clause-in_order : goal.returns-clause-in_order
returns-clause-in_order c =
    let node = nodes_in (present_rows c.args.nodes.now) in
    let s = c.sort_unstable_by.ensures in
    let (x, below) = c.requires.below in
    in_order node c.limit.ensures.stands.placed x c.args.numbers.now.items c.sort_unstable_by.new.self.items below s.permutation
    (s.sorted (λ y z. is_lt (rank_in node y z)) (rank_order node c.limit.ensures.stands.placed)
    (always_returns_same _ (λ a r. is_lt r ≡ is_lt (rank_in node a.0.now a.1.0.now)) _ (λ a r q k. search rules)))
