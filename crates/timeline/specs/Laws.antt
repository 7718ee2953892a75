-- The laws of timelines.
use Rattle.std.specs.Prelude.{◌≡◌, ℕ, ℤ, List, map}
use Rattle.std.specs.List.{Contains}
use Rattle.tmm_model.specs.declared.bound.Bound.TheVariants.{Finite}
use Rattle.tmm_model.specs.declared.point.PointName.{PointName}
use Rattle.tmm_model.specs.declared.point.PointName.TheVariants.{Start}
use Rattle.tmm_model.specs.Answers.{Row, rows}
use Rattle.tmm_model.specs.Bounds.{bound_negated}
use Rattle.tmm_model.specs.Maps.{built}
use Rattle.tmm_model.specs.Moments.{Moment, At, rule_of}
use Rattle.tmm_model.specs.Standing.{Standing, arcs_in, points_in, far_in}
use Rattle.tmm_model.specs.Walks.{IsDates}
use Rattle.list_theory.specs.WellNamed.{IsSound}
use Rattle.timeline.specs.Days.{Played, date, played_rows}

-- **The dates of a timeline are dates of its list**: they satisfy every constraint that stands.
abbrev pub DatesSatisfyConstraints : Type 0
DatesSatisfyConstraints = (s : Standing) → IsSound s → IsDates Start (arcs_in s.premises) (λ p. date (built s) (At p))

-- a list that leaves nothing open: the distance of any two points is one number, and each rule has
-- one delay
pub record LeavesNothingOpen (s : Standing) : Type 0 where
  pub points : (p q : PointName) → Contains (points_in s.premises) p → Contains (points_in s.premises) q → far_in s.premises p q ≡ bound_negated (far_in s.premises q p)
  pub rules : (r : List ℕ) → (rule_of s r).hi ≡ Finite (rule_of s r).lo

-- what a timeline and a list of beliefs both tell of an occurrence: its date, and its kind or fact
abbrev pub played_word : Played → ℤ × Moment × List ℕ
played_word r = (r.date, r.occ, r.what)

abbrev pub believed_word : Row → ℤ × Moment × List ℕ
believed_word r = (r.date, r.occ, r.what)

-- **Where nothing is left open, what occurs is what is believed**, in the same order.
abbrev pub PlayedIsBelieved : Type 0
PlayedIsBelieved = (s : Standing) → IsSound s → LeavesNothingOpen s → map played_word (played_rows (built s)) ≡ map believed_word (rows (built s))
