use Rattle.std.proofs.Common.{◌≡◌, ℕ, List, sym, subst, rules}
use Rattle.std.specs.Prelude.{nat_eq}
use Rattle.std.specs.List.{IsDistinct}
use Rattle.std.specs.List.Sorted.{IsPermutation}
use Rattle.std.specs.Ordering.{is_lt}
use Rattle.std.proofs.lemmas.Cmp.{nat_eq_equiv}
use Rattle.std.proofs.lemmas.Fn.{always_returns_same}
use Rattle.std.proofs.lemmas.List.Sorted.{IsPermutation-map, All-permutation}
use Rattle.std.proofs.lemmas.Map.Keys.{IsDistinct-IsPermutation}
use Rattle.occ_tree.specs.declared.ranks.Ranked.{Ranked}
use Rattle.occ_tree.specs.Places.{forest}
use Rattle.occ_tree.specs.Ranks.{IsRanked, nodes_of}
use Rattle.occ_tree.specs.Standing.{present}
use Rattle.occ_tree.proofs.Ordered.{rank_by, rank_order, in_order}
use Rattle.occ_tree.proofs.ranks.in_order.Goals as goal

pub returns-clause-same : goal.returns-clause-same
returns-clause-same c =
    subst (λ (l : List ℕ). IsPermutation l (nodes_of c.sort_unstable_by.new.self.items)) c.in_ok-ranked.ensures.nodes
    (IsPermutation-map (λ (p : Ranked). p.node) c.in_ok-ranked.ranked.items c.sort_unstable_by.new.self.items c.sort_unstable_by.ensures.permutation)

pub returns-clause-in_order : goal.returns-clause-in_order
returns-clause-in_order c =
    let net = c.args.order.now.net.now.present in
    let s = present c.args.order.now.tree.now in
    let f = forest c.args.order.now.tree.now in
    let old = c.in_ok-ranked.ranked.items in
    let new = c.sort_unstable_by.new.self.items in
    in_order net s c.requires.dates.list c.requires.dates.dated new
    (All-permutation (IsRanked net f) old new c.sort_unstable_by.ensures.permutation c.in_ok-ranked.ensures.ranked)
    (IsDistinct-IsPermutation nat_eq nat_eq_equiv.symm (nodes_of old) (nodes_of new)
    (IsPermutation-map (λ (p : Ranked). p.node) old new c.sort_unstable_by.ensures.permutation)
    (subst (IsDistinct nat_eq) (sym c.in_ok-ranked.ensures.nodes) c.requires.once))
    (c.sort_unstable_by.ensures.sorted (λ p q. is_lt (rank_by s p q)) (rank_order s)
    (always_returns_same _ (λ a r. is_lt r ≡ is_lt (rank_by s a.0.now a.1.0.now)) _ (λ a r q k. search rules)))
