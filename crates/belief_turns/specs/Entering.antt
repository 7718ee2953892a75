-- What a rule that fires brings about: its effect enters, with its rows, or rows wait that read it.
use Rattle.std.specs.Prelude.{◌≡◌, ℕ, List, [], ◌∷◌, Some, None}
use Rattle.tmm_model.specs.Beliefs.{rules_at}
use Rattle.tmm_model.specs.Moments.{After}
use Rattle.tmm_model.specs.Standing.{Standing}
use Rattle.dist_net.specs.Net.{Net}
use Rattle.spots.specs.Forest.{IsLive, moment_at}
use Rattle.spots.specs.Growing.{Adds}
use Rattle.occ_tree.specs.OfLists.{IsTreeOf}
use Rattle.occ_tree.specs.Places.{forest}
use Rattle.occ_tree.specs.Standing.{Kept, present, early}
use Rattle.undo_rows.specs.Tables.{AreListed}
use Rattle.belief_table.specs.declared.state.Beliefs.{Beliefs}
use Rattle.belief_table.specs.declared.state.Decisions.{Decisions}
use Rattle.belief_table.specs.Decided.{table_of, AreUnder, AddsRows}
use Rattle.marking.specs.TokenMarks.{MarksReaders}
use Rattle.belief_table.specs.Erasing.{class_at}

-- What becomes of rows with the effect at node y: a token marks those that read it, an event has a
-- row for each rule on it.
pub data Follows (s : Standing) (net : Net) (y : ℕ) (tree : Kept) (old new : Decisions) : Type 0 where
  a_token : (class : List ℕ) → class_at tree y ≡ Some class → MarksReaders s net tree (y ∷ []) y class old new → Follows s net y tree old new
  an_event : class_at tree y ≡ None → AddsRows (rules_at s (moment_at (forest tree) y)) y (early (present tree) y) old new → Follows s net y tree old new

-- the effect of the rule at the event enters as node x, and all else stays, with its dates
pub record EntersIn (s : Standing) (net : Net) (trigger : ℕ) (rule : List ℕ) (old new : Kept) (x : ℕ) : Type 0 where
  pub adds : Adds s net.names (forest old) (forest new) x (After (moment_at (forest old) trigger) rule)
  pub tree : IsTreeOf s net new
  pub dates : (y : ℕ) → IsLive (forest old) y → early (present new) y ≡ early (present old) y

-- the effect of the rule at the event enters, and rows follow
pub record Brings (s : Standing) (net : Net) (trigger : ℕ) (rule : List ℕ) (old new : Beliefs) : Type 0 where
  pub number : ℕ
  pub enters : EntersIn s net trigger rule old.tree new.tree number
  pub follows : Follows s net number new.tree old.decisions new.decisions
  pub under : AreUnder s new.decisions
  pub listed : AreListed (table_of old.decisions)
