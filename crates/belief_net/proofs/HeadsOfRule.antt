-- Rows of a rule at the events of its kind, after it and the classes that it reads have numbers.
use Rattle.std.proofs.Common.{ℕ, List, inl, inr}
use Rattle.occ_tree.specs.Standing.{Kept, present as nodes, early}
use Rattle.belief_table.specs.declared.state.Decisions.{Decisions}
use Rattle.belief_net.specs.Adding.{AddsRule}
use Rattle.belief_turns.specs.Heads.{NamesMore}
use Rattle.belief_turns.proofs.RuleHeads.{same_since, new_since, new_then}

module _ (old mid : Decisions) (more : NamesMore old mid) where
  -- the rows that a rule gets since are those that it gets then
  pub rule_since : (tree : Kept) (rule kind : List ℕ) (new : Decisions) → AddsRule tree rule kind mid new → AddsRule tree rule kind old new
  rule_since tree rule kind new adds = record {
    each = λ i. elim (adds.each i) [
      | inl same ↦ inl (same_since old mid more new i same)
      | inr added ↦ inr (added.0, added.1, added.2, new_since old mid more new added.0 (early (nodes tree) added.0) i added.1 added.3, added.4)
    ];
    all = λ x is. (let (i, row, at, named) = adds.all x is in (i, row, new_since old mid more new x (early (nodes tree) x) i row at, named));
    apart = λ x i j row other at there. adds.apart x i j row other (new_then old mid more new x (early (nodes tree) x) i row at) (new_then old mid more new x (early (nodes tree) x) j other there);
  }
