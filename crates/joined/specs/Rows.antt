-- Rows of decisions by their numbers, and what they say of nodes.
use Rattle.std.specs.Prelude.{◌≡◌, ℕ, Bool, true, false, List, Option, Some}
use Rattle.std.specs.List.{Contains}
use Rattle.std.specs.Option.{option_map}
use Rattle.belief_theory.specs.Outcomes.{Outcome, fires, blocked, barred, beyond}
use Rattle.tmm_model.specs.Beliefs.{rules_at}
use Rattle.tmm_model.specs.Moments.{Moment}
use Rattle.tmm_model.specs.Standing.{Standing}
use Rattle.spots.specs.Forest.{Forest, IsLive, moment_at}
use Rattle.undo_rows.specs.declared.row.Row.{Row as TableRow}
use Rattle.undo_rows.specs.Tables.{Table}
use Rattle.decision_rows.specs.declared.row.Pair.{Pair}
use Rattle.decision_rows.specs.declared.row.Decision.{Decision}
use Rattle.decision_rows.specs.declared.row.Decision.TheVariants.{Fires, Blocked, Barred, Beyond}

-- a row: the node of its event, the name of its rule, what was decided last, and whether it waits
-- to be decided again
pub record Row : Type 0 where
  pub trigger : ℕ
  pub rule : List ℕ
  pub found : Decision
  pub waits : Bool

-- the row of each number, none where the number is of no row
abbrev pub Rows : Type 0
Rows = ℕ → Option Row

-- a row of a table, by the names of the rules that it numbers, which waits or not
abbrev pub as_row : (ℕ → List ℕ) → Bool → TableRow Pair 8 → Row
as_row name waits r = record { trigger = r.value.trigger; rule = name r.value.rule; found = r.value.decision; waits = waits }

-- the rows of a table, by the names of the rules that it numbers, where these wait
abbrev pub rows_in : Table Pair 8 → (ℕ → List ℕ) → (ℕ → Bool) → Rows
rows_in t name waits i = option_map (as_row name (waits i)) (t.row i)

-- ---- what a decision tells

-- whether it is that the rule fires
abbrev pub fires_by : Decision → Bool
fires_by Fires = true
fires_by (Blocked antecedent) = false
fires_by (Barred exception) = false
fires_by Beyond = false

-- what a row keeps of an outcome: all but which tokens support
abbrev pub decision_of : Outcome → Decision
decision_of (fires ks) = Fires
decision_of (blocked place) = Blocked place
decision_of (barred place) = Barred place
decision_of beyond = Beyond

-- ---- decisions of nodes

-- a row is of this rule at the node of this number
abbrev pub HasRow : Rows → ℕ → List ℕ → Type 0
HasRow rows x rule = (i : ℕ) × (q : Row) × (rows i ≡ Some q) × (q.trigger ≡ x) × (q.rule ≡ rule)

-- no row is of this rule at the node of this number
abbrev pub HasNoRow : Rows → ℕ → List ℕ → Type 0
HasNoRow rows x rule = (i : ℕ) (q : Row) → rows i ≡ Some q → q.trigger ≡ x → q.rule ≡ rule → ⊥

-- some row of this rule at this event waits
abbrev pub IsWaiting : Forest → Rows → Moment → List ℕ → Type 0
IsWaiting f rows t rule = (i : ℕ) × (q : Row) × (rows i ≡ Some q) × (q.waits ≡ true) × (moment_at f q.trigger ≡ t) × (q.rule ≡ rule)

-- no row waits
abbrev pub NoneWaits : Rows → Type 0
NoneWaits rows = (i : ℕ) (q : Row) → rows i ≡ Some q → q.waits ≡ true → ⊥

-- no two rows are of one rule at one node
abbrev pub AreApart : Rows → Type 0
AreApart rows = (i j : ℕ) (q o : Row) → rows i ≡ Some q → rows j ≡ Some o → q.trigger ≡ o.trigger → q.rule ≡ o.rule → i ≡ j

-- each decision of a node has one row
pub record AreRowsOf (s : Standing) (f : Forest) (rows : Rows) : Type 0 where
  pub each : (x : ℕ) (rule : List ℕ) → IsLive f x → Contains (rules_at s (moment_at f x)) rule → HasRow rows x rule
  pub own : (i : ℕ) (q : Row) → rows i ≡ Some q → IsLive f q.trigger × Contains (rules_at s (moment_at f q.trigger)) q.rule
  pub apart : AreApart rows
