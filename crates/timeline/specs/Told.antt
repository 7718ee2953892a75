-- A timeline as the code has it, and why there is none.
use Rattle.std.specs.Prelude.{◌≡◌, ℕ, ◌<◌, ℤ, map}
use Rattle.tmm_model.specs.declared.point.PointName.{PointName}
use Rattle.tmm_model.specs.declared.refusal.Refusal.TheVariants.{LimitSize}
use Rattle.tmm_model.specs.declared.refusal.Stop.{Stop}
use Rattle.tmm_model.specs.declared.refusal.Stop.TheVariants.{Refused, NoMemory}
use Rattle.tmm_model.specs.declared.timeline.Dated.{Dated}
use Rattle.tmm_model.specs.declared.timeline.PointDate.{PointDate}
use Rattle.tmm_model.specs.declared.timeline.Timeline.{Timeline}
use Rattle.tmm_model.specs.Answers.{most_size}
use Rattle.tmm_model.specs.Maps.{TimeMap}
use Rattle.tmm_model.specs.Moments.{moment_of}
use Rattle.timeline.specs.Days.{Played, played_rows, played_size, point_dates}

-- a point with its date
abbrev pub date_of : PointDate → PointName × ℤ
date_of p = (p.point, p.date)

-- an occurrence on its date
abbrev pub row_of : Dated → Played
row_of r = record { date = r.date; occ = moment_of r.occ; what = r.what; until = r.until }

-- **The timeline of a map**: its points and what occurs, which together is not too large.
pub record IsTimeline (m : TimeMap) (t : Timeline) : Type 0 where
  pub points : map date_of t.points.items ≡ point_dates m
  pub rows : map row_of t.rows.items ≡ played_rows m

-- why it stops at something of this size: it is too large, or there is no memory
abbrev pub IsTooLarge : ℕ → Stop → Type 0
IsTooLarge size (Refused LimitSize) = most_size < size
IsTooLarge size (Refused _) = ⊥
IsTooLarge size NoMemory = Unit {0}

-- why there is no timeline: what occurs is too large, or there is no memory
abbrev pub StopsTimeline : TimeMap → Stop → Type 0
StopsTimeline m = IsTooLarge (played_size m)
