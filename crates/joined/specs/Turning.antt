-- One turn of the loop, over nodes and rows: the decision that is due first is made.
use Rattle.std.specs.Prelude.{◌≡◌, ◌≢◌, ◌⊎◌, ℕ, ◌≤ℤ◌, ◌<ℤ◌, true, false, List, ◌∷◌, Some, None, IsSome}
use Rattle.std.specs.List.{Contains}
use Rattle.tmm_model.specs.declared.premise.Edit.{Edit}
use Rattle.tmm_model.specs.Edits.{next_list}
use Rattle.tmm_model.specs.Maps.{built}
use Rattle.tmm_model.specs.Moments.{Moment, After}
use Rattle.list_theory.specs.WellNamed.{IsSound}
use Rattle.tmm_model.specs.Standing.{Standing}
use Rattle.dist_net.specs.Net.{Net}
use Rattle.net_theory.specs.Represents.{Names}
use Rattle.spots.specs.Forest.{Forest, Member, member, moment, moment_at, Withdraws, IsLive}
use Rattle.spots.specs.OfLists.{HasOccurrences}
use Rattle.spots.specs.Growing.{Adds}
use Rattle.decision_rows.specs.declared.row.Decision.{Decision}
use Rattle.decision_rows.specs.declared.row.Decision.TheVariants.{Beyond}
use Rattle.revisions.specs.Maps.{revision}
use Rattle.revisions.specs.Marks.{ReadsMoved}
use Rattle.revisions.specs.Revisions.{Revision}
use Rattle.revisions.specs.Steps.{IsUnder}
use Rattle.joined.specs.Netted.{IsNetted}
use Rattle.joined.specs.Rows.{Row, Rows, fires_by, decision_of, HasRow}

-- ---- nodes

-- the effect of the row's rule at its event
abbrev pub effect_of : Forest → Row → Moment
effect_of f p = After (moment_at f p.trigger) p.rule

-- What a turn does to the nodes: they stay where the rule fires as before; the effect enters where
-- it fires now; and where it fires no more, the effect is withdrawn with all below it.
pub data TreeTurns (s : Standing) (names : Names) (f g : Forest) (p : Row) (found : Decision) : Type 0 where
  stays : fires_by found ≡ fires_by p.found → g ≡ f → TreeTurns s names f g p found
  enters : fires_by found ≡ true → fires_by p.found ≡ false → (y : ℕ) → Adds s names f g y (effect_of f p) → TreeTurns s names f g p found
  withdraws : fires_by found ≡ false → fires_by p.found ≡ true → (m : Member) → moment m ≡ effect_of f p → Withdraws f g m → TreeTurns s names f g p found

-- y enters or is withdrawn in the turn
pub data Moved (f : Forest) (p : Row) (found : Decision) (y : Moment) : Type 0 where
  came : fires_by found ≡ true → fires_by p.found ≡ false → y ≡ effect_of f p → Moved f p found y
  went : fires_by found ≡ false → fires_by p.found ≡ true → (x : ℕ) (m : Member) → member f x ≡ Some m → moment m ≡ y → IsUnder (effect_of f p) y → Moved f p found y

-- ---- rows

-- the outcome of a decision is the same for the nodes before and after
abbrev pub SameOutcome : Revision → Forest → Forest → Moment → List ℕ → Type 0
SameOutcome r f g u rule = (b c : List Moment) → HasOccurrences b f → HasOccurrences c g → r.outcome c u rule ≡ r.outcome b u rule

-- the decision at u may wait after one at t: it is later, and touched if u is believed in the end
pub record MayWait (r : Revision) (t u : Moment) (rule : List ℕ) : Type 0 where
  pub after : r.early t <ℤ r.early u
  pub touched : Contains r.believed u → r.touched u rule ≡ true

-- How a row o that stays is marked, as q. It waits on where it waited. It waits where it reads what
-- moved, but where its outcome is the same; and no other row begins to wait but one that may.
pub record IsMarkedRow (r : Revision) (f g : Forest) (p : Row) (found : Decision) (o q : Row) : Type 0 where
  pub on : o.waits ≡ true → q.waits ≡ true
  pub all : ReadsMoved r (Moved f p found) (moment_at g q.trigger) q.rule → (q.waits ≡ true) ⊎ SameOutcome r f g (moment_at g q.trigger) q.rule
  pub only : q.waits ≡ true
      → (o.waits ≡ true) ⊎ (ReadsMoved r (Moved f p found) (moment_at g q.trigger) q.rule ⊎ MayWait r (moment_at f p.trigger) (moment_at g q.trigger) q.rule)

-- Where the row q of number i comes from. It is that of number x, which was decided; or another, as
-- it was, but that it may wait; or a new one, of what entered, which waits.
pub data ComesFrom (r : Revision) (f g : Forest) (rows : Rows) (x : ℕ) (p : Row) (found : Decision) (i : ℕ) (q : Row) : Type 0 where
  decided : i ≡ x → q ≡ record p { found = found; waits = false } → ComesFrom r f g rows x p found i q
  kept : (o : Row) → i ≢ x → rows i ≡ Some o → q ≡ record o { waits = q.waits } → IsMarkedRow r f g p found o q → ComesFrom r f g rows x p found i q
  new : rows i ≡ None → (IsLive f q.trigger → ⊥) → q.found ≡ Beyond → q.waits ≡ true → ComesFrom r f g rows x p found i q

-- a node that enters has one row for each rule on it
pub record HasNewRows (r : Revision) (f g : Forest) (after : Rows) : Type 0 where
  pub stands : (i : ℕ) (q : Row) → after i ≡ Some q → (IsLive f q.trigger → ⊥) → Contains (r.rules (moment_at g q.trigger)) q.rule
  pub all : (y : ℕ) (rule : List ℕ) → IsLive g y → (IsLive f y → ⊥) → Contains (r.rules (moment_at g y)) rule → HasRow after y rule
  pub apart : (i j : ℕ) (q o : Row) → after i ≡ Some q → after j ≡ Some o → (IsLive f q.trigger → ⊥) → q.trigger ≡ o.trigger → q.rule ≡ o.rule → i ≡ j

-- ---- the turn

-- the row p of number x waits, and its event is the earliest of those that wait
pub record IsDueFirst (r : Revision) (f : Forest) (rows : Rows) (x : ℕ) (p : Row) : Type 0 where
  pub row : rows x ≡ Some p
  pub waits : p.waits ≡ true
  pub least : (i : ℕ) (q : Row) → rows i ≡ Some q → q.waits ≡ true → r.early (moment_at f p.trigger) ≤ℤ r.early (moment_at f q.trigger)

-- the decision is right for the nodes as they are
abbrev pub IsFound : Revision → Forest → Row → Decision → Type 0
IsFound r f p found = (b : List Moment) → HasOccurrences b f → found ≡ decision_of (r.outcome b (moment_at f p.trigger) p.rule)

-- **A turn of the code**: the row p of number x, which is due first, is decided as `found`.
pub record IsCodeTurn (r : Revision) (s : Standing) (names : Names) (f g : Forest) (rows after : Rows) (x : ℕ) (p : Row) (found : Decision) : Type 0 where
  pub first : IsDueFirst r f rows x p
  pub right : IsFound r f p found
  pub tree : TreeTurns s names f g p found
  pub own : (i : ℕ) (q : Row) → after i ≡ Some q → ComesFrom r f g rows x p found i q
  -- the rows of nodes that were withdrawn are gone, and all others stay
  pub live : (i : ℕ) (q : Row) → after i ≡ Some q → IsLive g q.trigger
  pub stay : (i : ℕ) (o : Row) → rows i ≡ Some o → IsLive g o.trigger → IsSome (after i)
  pub entered : HasNewRows r f g after

-- **It keeps what nodes and rows say of the revision.**
abbrev pub CodeTurnsKeep : Type 0
CodeTurnsKeep =
    (old : Standing) (edit : Edit) (net : Net) (f g : Forest) (rows after : Rows) (taken : List (Moment × List ℕ)) (x : ℕ) (p : Row) (found : Decision)
    → IsSound old → IsSound (next_list old edit)
    → IsNetted old (next_list old edit) net f rows taken
    → IsCodeTurn (revision (built old) (built (next_list old edit))) (next_list old edit) net.names f g rows after x p found
    → IsNetted old (next_list old edit) net g after ((moment_at f p.trigger, p.rule) ∷ taken)
