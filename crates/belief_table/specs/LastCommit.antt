-- What a rollback leads back to.
use Rattle.std.specs.Prelude.{◌≡◌}
use Rattle.occ_tree.specs.Standing.{committed}
use Rattle.belief_table.specs.declared.state.Beliefs.{Beliefs}
use Rattle.belief_table.specs.Decided.{KeepsLast}

-- what a rollback leads back to stays
pub record KeepLast (old new : Beliefs) : Type 0 where
  pub tree : committed new.tree ≡ committed old.tree
  pub decisions : KeepsLast old.decisions new.decisions
