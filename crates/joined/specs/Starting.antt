-- How nodes and rows begin, and what another horizon changes.
use Rattle.std.specs.Prelude.{◌≡◌, ◌⊎◌, ℕ, pos, int_le, true, false, List, [], Some, None, IsSome}
use Rattle.std.specs.List.{Contains}
use Rattle.tmm_model.specs.declared.point.PointName.{PointName}
use Rattle.tmm_model.specs.declared.premise.Edit.{Edit}
use Rattle.belief_theory.specs.Outcomes.{outcome}
use Rattle.tmm_model.specs.Beliefs.{due, roots, rules_at}
use Rattle.tmm_model.specs.Edits.{next_list, list_until}
use Rattle.tmm_model.specs.Maps.{built}
use Rattle.tmm_model.specs.Moments.{Moment, At, Distances}
use Rattle.list_theory.specs.WellNamed.{IsSound}
use Rattle.tmm_model.specs.Standing.{Standing, far_in}
use Rattle.belief_theory.specs.Right.{Occurs}
use Rattle.belief_theory.specs.Touched.{is_decision, is_touched}
use Rattle.dist_net.specs.Net.{Net}
use Rattle.spots.specs.Forest.{Forest, Member, member, moment, moment_at, IsLive}
use Rattle.spots.specs.OfLists.{IsForestOf, HasOccurrences, map_of}
use Rattle.decision_rows.specs.declared.row.Decision.TheVariants.{Beyond}
use Rattle.revisions.specs.Counted.{AreSeeds}
use Rattle.joined.specs.Netted.{IsNetted, IsCurrent}
use Rattle.joined.specs.Rows.{Row, Rows, decision_of, HasRow, HasNoRow, AreRowsOf}

-- What a row is at the beginning. A decision of the list before has what was found there; a new one
-- has nothing yet, and waits.
pub data StartsAs (old : Standing) (f : Forest) (q : Row) : Type 0 where
  stood : is_decision (built old) (moment_at f q.trigger, q.rule) ≡ true
      → q.found ≡ decision_of (outcome old (far_in old.premises) (built old).believed (moment_at f q.trigger) q.rule)
      → StartsAs old f q
  comes : is_decision (built old) (moment_at f q.trigger, q.rule) ≡ false → q.found ≡ Beyond → q.waits ≡ true → StartsAs old f q

-- What does not wait has its outcome still for the nodes as they are: that holds of what is not
-- touched as they are, and of what another horizon leaves in time or beyond. What waits is touched
-- as they are or in the end.
pub record AreMarked (old new : Standing) (b : List Moment) (f : Forest) (rows : Rows) : Type 0 where
  pub right : (i : ℕ) (q : Row) → rows i ≡ Some q → (q.waits ≡ true)
      ⊎ (outcome old (far_in old.premises) (built old).believed (moment_at f q.trigger) q.rule ≡ outcome new (far_in new.premises) b (moment_at f q.trigger) q.rule)
  pub touched : (i : ℕ) (q : Row) → rows i ≡ Some q → q.waits ≡ true
      → (is_touched (built old) (map_of new b) (moment_at f q.trigger, q.rule) ≡ true) ⊎ (is_touched (built old) (built new) (moment_at f q.trigger, q.rule) ≡ true)

-- **Nodes and rows begin so**, when what was erased is withdrawn, what is added has entered, and
-- what may be touched waits.
pub record IsStart (old new : Standing) (net : Net) (b : List Moment) (f : Forest) (rows : Rows) : Type 0 where
  pub seen : IsForestOf new net f
  pub holds : HasOccurrences b f
  pub seeds : AreSeeds old new b
  pub rows_are : AreRowsOf new f rows
  pub start_as : (i : ℕ) (q : Row) → rows i ≡ Some q → StartsAs old f q
  pub marked : AreMarked old new b f rows

-- **What begins so stands for the revision that the edit asks for**, of which no decision is made
-- yet.
abbrev pub StartsAreNetted : Type 0
StartsAreNetted =
    (old : Standing) (edit : Edit) (net : Net) (b : List Moment) (f : Forest) (rows : Rows)
    → IsSound old → IsSound (next_list old edit) → IsStart old (next_list old edit) net b f rows
    → IsNetted old (next_list old edit) net f rows []

-- ---- from nodes and rows of the list before

-- what occurs no longer is withdrawn, and what is newly declared has entered
pub record NodesBegin (new : Standing) (f g : Forest) : Type 0 where
  pub stay : (x : ℕ) (m : Member) → member f x ≡ Some m → Occurs new (moment m) → member g x ≡ Some m
  pub own : (x : ℕ) (m : Member) → member g x ≡ Some m → (member f x ≡ Some m) ⊎ ((member f x ≡ None) × Contains (roots new) (moment m))
  pub rooted : (p : PointName) → Contains (roots new) (At p) → (x : ℕ) × (m : Member) × (member g x ≡ Some m) × (moment m ≡ At p)

-- where the row q of number i comes from: it stood there, and may wait now; or it is of a decision
-- that had none, and waits
pub data BeginsFrom (rows : Rows) (i : ℕ) (q : Row) : Type 0 where
  was : (o : Row) → rows i ≡ Some o → q ≡ record o { waits = q.waits } → BeginsFrom rows i q
  is_new : rows i ≡ None → HasNoRow rows q.trigger q.rule → q.found ≡ Beyond → q.waits ≡ true → BeginsFrom rows i q

-- the rows of decisions that there are no longer are gone, and each new decision has one row
pub record RowsBegin (new : Standing) (g : Forest) (rows after : Rows) : Type 0 where
  pub from : (i : ℕ) (q : Row) → after i ≡ Some q → BeginsFrom rows i q
  pub own : (i : ℕ) (q : Row) → after i ≡ Some q → IsLive g q.trigger × Contains (rules_at new (moment_at g q.trigger)) q.rule
  pub stay : (i : ℕ) (o : Row) → rows i ≡ Some o → IsLive g o.trigger → Contains (rules_at new (moment_at g o.trigger)) o.rule → IsSome (after i)
  pub all : (x : ℕ) (rule : List ℕ) → IsLive g x → Contains (rules_at new (moment_at g x)) rule → HasNoRow rows x rule → HasRow after x rule
  pub apart : (i j : ℕ) (q o : Row) → after i ≡ Some q → after j ≡ Some o → rows i ≡ None → rows j ≡ None → q.trigger ≡ o.trigger → q.rule ≡ o.rule → i ≡ j

-- nodes f and rows are made ready for another list, as nodes g and rows after
pub record IsPrepared (old new : Standing) (net : Net) (f g : Forest) (rows after : Rows) : Type 0 where
  pub seen : IsForestOf new net g
  pub nodes_begin : NodesBegin new f g
  pub rows_begin : RowsBegin new g rows after
  pub marked : (b : List Moment) → HasOccurrences b g → AreSeeds old new b → AreMarked old new b g after

-- **So prepared, nodes and rows of the list before stand for the revision that the edit asks for.**
abbrev pub PreparedAreNetted : Type 0
PreparedAreNetted =
    (old : Standing) (edit : Edit) (net_before net : Net) (f g : Forest) (rows after : Rows)
    → IsSound old → IsSound (next_list old edit)
    → IsCurrent old net_before f rows → IsPrepared old (next_list old edit) net f g rows after
    → IsNetted old (next_list old edit) net g after []

-- ---- another horizon

-- **Another horizon changes the outcome only of what it brings into time or puts beyond.**
abbrev pub HorizonsKeep : Type 0
HorizonsKeep =
    (s : Standing) (n : ℕ) (far : Distances) (b : List Moment) (t : Moment) (r : List ℕ)
    → int_le (due s far t r) (pos s.horizon) ≡ int_le (due s far t r) (pos n)
    → outcome s far b t r ≡ outcome (list_until s n) far b t r
