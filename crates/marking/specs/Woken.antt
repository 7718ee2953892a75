-- Rows that wait since points moved, by the classes that they read.
use Rattle.std.specs.Prelude.{◌≡◌, ◌⊎◌, ◌↔◌, ℕ, ◌<◌, Bool, true, false, [], List, length, Option, Some, is_some, MatchOption}
use Rattle.std.specs.List.{Contains}
use Rattle.tmm_model.specs.Beliefs.{are_rivals}
use Rattle.tmm_model.specs.Moments.{read_by, rule_of}
use Rattle.tmm_model.specs.Standing.{Standing}
use Rattle.list_theory.proofs.Elements.{In}
use Rattle.dist_net.specs.Net.{Nets}
use Rattle.spots.specs.declared.spot.Spot.TheVariants.{Declared, Node}
use Rattle.spots.specs.Forest.{Forest}
use Rattle.spots.specs.Spots.{base_of}
use Rattle.undo_rows.specs.declared.row.Row.{Row as TableRow}
use Rattle.undo_rows.specs.Tables.{Table}
use Rattle.decision_rows.specs.declared.row.Pair.{Pair}
use Rattle.occ_tree.specs.Standing.{State, forest}
use Rattle.joined.specs.Gaps.{IsReadSpot, MovesAt}
use Rattle.joined.specs.Listed.{IsListedUnder}
use Rattle.joined.specs.Shifting.{IsSpotOf, MovesAmong, AreLoose, SparesClass, MayRest}
use Rattle.bearing.specs.declared.what_moved.Moves.{Moves}
use Rattle.belief_table.specs.declared.state.Decisions.{Decisions}
use Rattle.marking.specs.declared.class_points_moved.ClassMoves.{ClassMoves}
use Rattle.bearing.specs.Events.{is_event_of}
use Rattle.belief_table.specs.Decided.{table_of, rule_in}
use Rattle.bearing.specs.Fast.{AreInBoth, is_out}
use Rattle.belief_table.specs.Marks.{Wakes, WakesOf}
use Rattle.bearing.specs.MovedPairs.{is_moved}
use Rattle.belief_table.specs.Numbers.{name_in}
use Rattle.bearing.specs.PointSets.{has_pair, HaveOneOf}
use Rattle.bearing.specs.Shifts.{AreShifts}
use Rattle.belief_table.specs.Waiting.{Dates}

-- what is known of what moved: each pair has one of the points that the net lists, no point makes
-- one with itself, and the points that were there and those that stand fast are there now and were
-- at the last commit
pub record TellMoves (nets : Nets) (moves : Moves) : Type 0 where
  pub places : length moves.pairs.items ≡ 65536
  pub listed : HaveOneOf nets.moved moves.pairs.items
  pub itself : (a : ℕ) → a < 256 → has_pair moves.pairs.items a a ≡ false
  pub kept : AreInBoth nets moves.kept.items
  pub fast : AreInBoth nets moves.fast.items

-- ---- a class

-- points moved among `start`, the event of node x and the tokens of the class
abbrev pub MovesFor : Moves → Forest → List ℕ → ℕ → Type 0
MovesFor moves f class x = MovesAmong (has_pair moves.pairs.items) f (IsSpotOf f class) x

-- a decision at the event of node x may rest, as far as it reads the class: none moved, or what
-- moved is spared
abbrev pub RestsFor : Nets → Moves → Forest → List ℕ → ℕ → Type 0
RestsFor nets moves f class x = (MovesFor moves f class x → ⊥) ⊎ SparesClass nets f (is_out moves.fast.items) class x

-- what moved, as far as a class goes: the events at which something did, and the loose tokens, if
-- they are told
pub record AreMovesOf (nets : Nets) (moves : Moves) (s : State) (m : ClassMoves) : Type 0 where
  pub events : (x : ℕ) → (is_event_of m.events s x ≡ true) ↔ MovesFor moves (forest s) m.class x
  pub shifts : MatchOption m.shifts (Unit {0}) (λ list. AreShifts nets (forest s) (is_out moves.fast.items) m.class list.items)

-- some rows have been looked at: of these those that wait newly are at events for which points
-- moved, and others may rest
abbrev pub WakesFor : State → Table Pair 8 → Nets → Moves → List ℕ → (ℕ → Type 0) → Dates → Dates → Type 0
WakesFor s t nets moves class = WakesOf s t (MovesFor moves (forest s) class) (RestsFor nets moves (forest s) class)

-- ---- all rows

-- points moved of `start` and the event of node x
abbrev pub MovesFrom : Moves → Forest → ℕ → Type 0
MovesFrom moves f x = MovesAmong (has_pair moves.pairs.items) f (λ p. p ≡ Declared 0) x

-- the row may rest as far as it reads the first n classes
abbrev pub RestsForFirst : State → Nets → Moves → Decisions → ℕ → ℕ → TableRow Pair 8 → Type 0
RestsForFirst s nets moves d n i row = (k : ℕ) → k < n → IsListedUnder (table_of d) k i → RestsFor nets moves (forest s) (name_in d.classes k) row.value.trigger

-- points moved for what reads some class of the row
abbrev pub MovesForSome : State → Moves → Decisions → ℕ → TableRow Pair 8 → Type 0
MovesForSome s moves d i row = (k : ℕ) × (k < length d.classes) × IsListedUnder (table_of d) k i × MovesFor moves (forest s) (name_in d.classes k) row.value.trigger

-- all rows have been looked at that read one of the first n classes
abbrev pub WakesForAll : State → Nets → Moves → Decisions → ℕ → Dates → Dates → Type 0
WakesForAll s nets moves d n = Wakes s (table_of d) (MovesForSome s moves d) (RestsForFirst s nets moves d n)

-- `start` did not move, and all rows wait whose events begin at a point that moved
pub record AreAwake (nets : Nets) (f : Forest) (t : Table Pair 8) (dates : Dates) : Type 0 where
  pub start : Contains nets.moved 0 → ⊥
  pub rows : (i : ℕ) (row : TableRow Pair 8) → t.row i ≡ Some row → Contains nets.moved (base_of f (Node row.value.trigger)) → is_some (dates i) ≡ true

-- the event of the row is as far from `start` as it was, if its rule reads nothing
abbrev pub KeepsDate : Moves → Standing → Forest → Decisions → TableRow Pair 8 → Type 0
KeepsDate moves s f d row = read_by (rule_of s (rule_in d row)) ≡ [] → has_pair moves.pairs.items (base_of f (Node row.value.trigger)) 0 ≡ false

-- ---- rules that read what other facts contradict

-- points moved on which the decision of the rule at the event of node x depends
abbrev pub MovesByRule : Moves → Standing → Forest → List ℕ → ℕ → Type 0
MovesByRule moves s f r x = MovesAmong (has_pair moves.pairs.items) f (IsReadSpot s f r) x

-- no premise of either list says of a fact that the rule reads that another one contradicts it
abbrev pub IsPlainRule : Standing → Standing → List ℕ → Type 0
IsPlainRule old s r = (f : List ℕ) → In f (read_by (rule_of s r)) → (g : List ℕ) → (are_rivals old f g ≡ false) × (are_rivals s f g ≡ false)

-- so it is, or no such points moved
abbrev pub StaysByRule : Moves → Standing → Standing → Forest → List ℕ → ℕ → Type 0
StaysByRule moves old s f r x = IsPlainRule old s r ⊎ (MovesByRule moves s f r x → ⊥)

-- ---- at rest

-- no premise of either list says that another fact contradicts one that the rule reads, and what
-- moved of the classes that it reads is spared at the event of node x
abbrev pub IsSparedThere : Nets → Option (List ℕ) → Standing → Standing → Forest → List ℕ → ℕ → Type 0
IsSparedThere nets added old s f r x =
    IsPlainRule old s r × (loose : ℕ → Bool) × AreLoose (is_moved nets added) loose × MayRest (is_moved nets added) loose s nets f r x

-- the decision of the rule at the event of node x may rest though points moved: none moved on which
-- it depends, or what moved is spared
abbrev pub RestsAt : Nets → Option (List ℕ) → Standing → Standing → Forest → List ℕ → ℕ → Type 0
RestsAt nets added old s f r x = (MovesAt (is_moved nets added) s f r x → ⊥) ⊎ IsSparedThere nets added old s f r x

-- so the row may
abbrev pub IsRowAtRest : Nets → Option (List ℕ) → Standing → Standing → Forest → Decisions → TableRow Pair 8 → Type 0
IsRowAtRest nets added old s f d row = RestsAt nets added old s f (rule_in d row) row.value.trigger

-- points moved on which the decision of the row depends
abbrev pub IsRowMoved : Nets → Option (List ℕ) → Standing → Forest → Decisions → TableRow Pair 8 → Type 0
IsRowMoved nets added s f d row = MovesAt (is_moved nets added) s f (rule_in d row) row.value.trigger
