-- What is declared anew: roots with their rows or marks, and rows of a rule.
use Rattle.std.specs.Prelude.{◌≡◌, ◌⊎◌, ℕ, pos, List, Some, None, MatchOption}
use Rattle.tmm_model.specs.declared.premise.Premise.{Premise}
use Rattle.tmm_model.specs.declared.premise.Premise.TheVariants.{Rule}
use Rattle.tmm_model.specs.Beliefs.{root_of, rules_at}
use Rattle.tmm_model.specs.Moments.{Moment}
use Rattle.tmm_model.specs.Standing.{Standing}
use Rattle.dist_net.specs.Net.{Net}
use Rattle.row_links.specs.Lists.{IsOn}
use Rattle.spots.specs.Forest.{Member, member, IsLive, moment_at}
use Rattle.spots.specs.Growing.{Adds}
use Rattle.undo_rows.specs.declared.row.Row.{Row as TableRow}
use Rattle.undo_rows.specs.Tables.{AreListed}
use Rattle.decision_rows.specs.declared.row.Pair.{Pair}
use Rattle.occ_tree.specs.Places.{forest}
use Rattle.occ_tree.specs.Standing.{Kept, present, committed, early, forest as forest_of}
use Rattle.belief_table.specs.declared.state.Beliefs.{Beliefs}
use Rattle.belief_table.specs.declared.state.Decisions.{Decisions}
use Rattle.belief_table.specs.Decided.{table_of, rule_in, IsNewRow, IsSameRow, AddsRows}
use Rattle.belief_table.specs.Erasing.{class_at}
use Rattle.marking.specs.TokenMarks.{what_at}
use Rattle.marking.specs.TokenMarks.{MarksToken}

-- ---- a root

-- What becomes of rows with the root at node x: a token marks all on which it may bear, an event
-- has a row for each rule on it.
pub data FollowsRoot (s : Standing) (x : ℕ) (tree : Kept) (old new : Decisions) : Type 0 where
  a_token : (class : List ℕ) → class_at tree x ≡ Some class → MarksToken s (present tree) class (what_at tree x) (pos 0) old new → FollowsRoot s x tree old new
  an_event : class_at tree x ≡ None → AddsRows (rules_at s (moment_at (forest tree) x)) x (early (present tree) x) old new → FollowsRoot s x tree old new

-- the root enters under a number that no node had at the last commit, with its rows or marks; all
-- else stays
pub record EntersAs (s : Standing) (net : Net) (k : Moment) (old new : Beliefs) : Type 0 where
  pub number : ℕ
  pub adds : Adds s net.names (forest old.tree) (forest new.tree) number k
  pub was_free : forest_of (committed old.tree) number ≡ None
  pub dates : (y : ℕ) → IsLive (forest old.tree) y → early (present new.tree) y ≡ early (present old.tree) y
  pub listed : AreListed (table_of old.decisions)
  pub follows : FollowsRoot s number new.tree old.decisions new.decisions

-- all stays
pub record StayAll (old new : Beliefs) : Type 0 where
  pub tree : new.tree ≡ old.tree
  pub decisions : new.decisions ≡ old.decisions

-- what the premise declares to occur enters; where it declares nothing, all stays
abbrev pub EntersRoot : Standing → Net → Premise → Beliefs → Beliefs → Type 0
EntersRoot s net premise old new = MatchOption (root_of premise) (StayAll old new) (λ k. EntersAs s net k old new)

-- ---- a rule

-- the node is an event of this kind
pub record IsEventOf (tree : Kept) (kind : List ℕ) (x : ℕ) : Type 0 where
  pub node : Member
  pub at : member (forest tree) x ≡ Some node
  pub event : node.class ≡ None
  pub kind_is : node.what ≡ kind

-- of these nodes each that is an event of the kind has a new row of the rule, which waits for its
-- date; all else stays
pub record AddsRuleAt (tree : Kept) (rule kind : List ℕ) (numbers : List ℕ) (old new : Decisions) : Type 0 where
  pub each : (i : ℕ) → IsSameRow old new i ⊎ ((x : ℕ) × (row : TableRow Pair 8) × IsOn numbers x × IsEventOf tree kind x × IsNewRow x (early (present tree) x) old new i row × (rule_in new row ≡ rule))
  pub all : (x : ℕ) → IsOn numbers x → IsEventOf tree kind x → (i : ℕ) × (row : TableRow Pair 8) × IsNewRow x (early (present tree) x) old new i row × (rule_in new row ≡ rule)
  pub apart : (x i j : ℕ) (row other : TableRow Pair 8) → IsNewRow x (early (present tree) x) old new i row → IsNewRow x (early (present tree) x) old new j other → i ≡ j

-- each event of the kind has a new row of the rule
pub record AddsRule (tree : Kept) (rule kind : List ℕ) (old new : Decisions) : Type 0 where
  pub each : (i : ℕ) → IsSameRow old new i ⊎ ((x : ℕ) × (row : TableRow Pair 8) × IsEventOf tree kind x × IsNewRow x (early (present tree) x) old new i row × (rule_in new row ≡ rule))
  pub all : (x : ℕ) → IsEventOf tree kind x → (i : ℕ) × (row : TableRow Pair 8) × IsNewRow x (early (present tree) x) old new i row × (rule_in new row ≡ rule)
  pub apart : (x i j : ℕ) (row other : TableRow Pair 8) → IsNewRow x (early (present tree) x) old new i row → IsNewRow x (early (present tree) x) old new j other → i ≡ j

-- a premise that is a rule has a new row at each event of its kind; else all stays
abbrev pub EntersRule : Standing → Premise → Beliefs → Beliefs → Type 0
EntersRule s (Rule name trigger lo hi effect given unless_facts) old new = (new.tree ≡ old.tree) × AddsRule old.tree name trigger old.decisions new.decisions
EntersRule s _ old new = StayAll old new
