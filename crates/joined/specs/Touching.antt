-- Which rows wait at the beginning: those that the edit touches, or of which another horizon brings
-- the effect into time or puts it beyond.
use Rattle.std.specs.Prelude.{◌≡◌, ◌≢◌, ◌⊎◌, ℕ, pos, int_le, true, List, Some}
use Rattle.std.specs.List.{Contains}
use Rattle.tmm_model.specs.declared.premise.Edit.{Edit}
use Rattle.tmm_model.specs.Beliefs.{due, rules_at}
use Rattle.tmm_model.specs.Edits.{next_list, list_until}
use Rattle.tmm_model.specs.Maps.{built, gap}
use Rattle.tmm_model.specs.Moments.{Moment, read_by, rule_of}
use Rattle.tmm_model.specs.Standing.{Standing, far_in}
use Rattle.list_theory.specs.WellNamed.{IsSound}
use Rattle.belief_theory.specs.Outcomes.{outcome}
use Rattle.list_theory.proofs.Elements.{In}
use Rattle.belief_theory.specs.Touched.{same_rivals, watched_points}
use Rattle.spots.specs.Forest.{Forest, moment_at}
use Rattle.spots.specs.OfLists.{HasOccurrences, map_of}
use Rattle.revisions.specs.Counted.{AreSeeds}
use Rattle.revisions.specs.Maps.{watches}
use Rattle.joined.specs.Rows.{Row, Rows, AreRowsOf}
use Rattle.joined.specs.Starting.{AreMarked}

-- the same facts contradict in both lists what the rule reads
abbrev pub RivalsStay : Standing → Standing → List ℕ → Type 0
RivalsStay old new r = (f : List ℕ) → In f (read_by (rule_of new r)) → same_rivals old new f ≡ true

-- The edit does not touch the decision of r at t, where these occurrences are live: there was this
-- decision, the horizon is the same, the same facts contradict those that it reads, no token that
-- it watches left or entered, and the points on which it depends are as far apart as they were.
pub record IsUntouched (old new : Standing) (b : List Moment) (t : Moment) (r : List ℕ) : Type 0 where
  pub was : Contains (built old).believed t × Contains (rules_at old t) r
  pub horizon : old.horizon ≡ new.horizon
  pub rivals : RivalsStay old new r
  pub left : (x : Moment) → Contains (built old).believed x → watches old r x ≡ true → Contains b x
  pub entered : (x : Moment) → Contains b x → watches new r x ≡ true → Contains (built old).believed x
  pub gaps : (p q : Moment) → In p (watched_points (map_of new b) t r) → In q (watched_points (map_of new b) t r) → gap (built old) p q ≡ gap (map_of new b) p q

-- **Rows are marked rightly where those wait that are touched**, and no others.
abbrev pub TouchedAreMarked : Type 0
TouchedAreMarked =
    (old : Standing) (edit : Edit) (b : List Moment) (f : Forest) (rows : Rows)
    → IsSound old → IsSound (next_list old edit) → AreSeeds old (next_list old edit) b → AreRowsOf (next_list old edit) f rows
    → ((i : ℕ) (q : Row) → rows i ≡ Some q → (q.waits ≡ true) ⊎ IsUntouched old (next_list old edit) b (moment_at f q.trigger) q.rule)
    → ((i : ℕ) (q : Row) → rows i ≡ Some q → q.waits ≡ true → IsUntouched old (next_list old edit) b (moment_at f q.trigger) q.rule → ⊥)
    → AreMarked old (next_list old edit) b f rows

-- **So they are too where others do not wait that keep their outcomes** for some other reason.
abbrev pub RestingAreMarked : Type 0
RestingAreMarked =
    (old : Standing) (edit : Edit) (b : List Moment) (f : Forest) (rows : Rows)
    → IsSound old → IsSound (next_list old edit) → AreSeeds old (next_list old edit) b → AreRowsOf (next_list old edit) f rows
    → ((i : ℕ) (q : Row) → rows i ≡ Some q → (q.waits ≡ true)
    ⊎ (IsUntouched old (next_list old edit) b (moment_at f q.trigger) q.rule
    ⊎ (outcome old (far_in old.premises) (built old).believed (moment_at f q.trigger) q.rule ≡ outcome (next_list old edit) (far_in (next_list old edit).premises) b (moment_at f q.trigger) q.rule)))
    → ((i : ℕ) (q : Row) → rows i ≡ Some q → q.waits ≡ true → IsUntouched old (next_list old edit) b (moment_at f q.trigger) q.rule → ⊥)
    → AreMarked old (next_list old edit) b f rows

-- **Where the horizon alone changes, it suffices that those wait whose effects it brings into time
-- or puts beyond.**
abbrev pub HorizonsMark : Type 0
HorizonsMark =
    (old : Standing) (n : ℕ) (b : List Moment) (f : Forest) (rows : Rows)
    → IsSound old → IsSound (list_until old n) → HasOccurrences b f → AreSeeds old (list_until old n) b → AreRowsOf (list_until old n) f rows
    → ((i : ℕ) (q : Row) → rows i ≡ Some q → (q.waits ≡ true)
    ⊎ (int_le (due old (far_in old.premises) (moment_at f q.trigger) q.rule) (pos old.horizon) ≡ int_le (due old (far_in old.premises) (moment_at f q.trigger) q.rule) (pos n)))
    → ((i : ℕ) (q : Row) → rows i ≡ Some q → q.waits ≡ true → old.horizon ≢ n)
    → AreMarked old (list_until old n) b f rows
