use Rattle.std.proofs.Common.{◌≡◌, rules}
use Rattle.std.specs.Ordering.{is_lt}
use Rattle.std.proofs.lemmas.Fn.{always_returns_same}
use Rattle.std.proofs.lemmas.List.MinMax.{ranks_by}
use Rattle.occ_tree.specs.Standing.{present}
use Rattle.belief_list.specs.declared.told_changes.Headed.{Headed}
use Rattle.belief_list.specs.Heads.{headed_cmp}
use Rattle.belief_list.proofs.Heads.{headed_total}
use Rattle.belief_list.proofs.told_changes.sort_headed.Goals as goal

pub returns-clause-in_order : goal.returns-clause-in_order
returns-clause-in_order c =
    let s = present c.args.tree.now in
    c.sort_unstable_by.ensures.sorted (λ p q. is_lt (headed_cmp s p q)) (ranks_by (headed_total s) (λ (h : Headed). h))
    (always_returns_same _ (λ a r. is_lt r ≡ is_lt (headed_cmp s a.0.now a.1.0.now)) _ (λ a r q k. search rules))
