use Rattle.std.proofs.Common.{◌≡◌, rules}
use Rattle.std.specs.Ordering.{is_lt}
use Rattle.std.proofs.lemmas.Fn.{always_returns_same}
use Rattle.std.proofs.lemmas.List.MinMax.{ranks_by}
use Rattle.belief_list.specs.declared.told_changes.Told.{Told}
use Rattle.belief_list.specs.Told.{told_cmp}
use Rattle.belief_list.proofs.Told.{told_total}
use Rattle.belief_list.proofs.told_changes.sort.Goals as goal

pub returns-clause-in_order : goal.returns-clause-in_order
returns-clause-in_order c =
    c.sort_unstable_by.ensures.sorted (λ p q. is_lt (told_cmp p q)) (ranks_by told_total (λ (t : Told). t))
    (always_returns_same _ (λ a r. is_lt r ≡ is_lt (told_cmp a.0.now a.1.0.now)) _ (λ a r q k. search rules))
