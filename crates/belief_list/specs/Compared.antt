-- Two lists of believed occurrences, compared row by row.
use Rattle.std.specs.Prelude.{◌≡◌, true, false, ◌&&◌, List, [], ◌∷◌, map, Option, Some, None}
use Rattle.std.specs.Option.{option_and_then, option_eq, is_some, is_none}
use Rattle.tmm_model.specs.Answers.{Row}
use Rattle.tmm_model.specs.Changes.{delta, clip_pair}
use Rattle.tmm_model.specs.Maps.{TimeMap}
use Rattle.tmm_model.specs.Moments.{Moment, same_moment, is_derived, moment_of}
use Rattle.belief_list.specs.declared.changes.BeliefChanges.{BeliefChanges}

-- the row of an occurrence, none where it is not listed
abbrev pub row_in : List Row → Moment → Option Row
row_in [] x = None
row_in (r ∷ rs) x = elim (same_moment x r.occ) [ true ↦ Some r | false ↦ row_in rs x ]

-- what clips an occurrence, none where it is not listed
abbrev pub clip_in : List Row → Moment → Option Moment
clip_in rs x = option_and_then (λ r. r.clip) (row_in rs x)

-- the occurrence of the row, if it is derived and not listed among the others
abbrev pub gone_row : List Row → Row → Option Moment
gone_row others r = elim (is_derived r.occ && is_none (row_in others r.occ)) [ true ↦ Some r.occ | false ↦ None ]

-- the occurrence of the row, if it was clipped and is no longer
abbrev pub loose_row : List Row → Row → Option Moment
loose_row old r = elim (is_some (clip_in old r.occ) && is_none r.clip) [ true ↦ Some r.occ | false ↦ None ]

-- the occurrence with its clip, if that is new
abbrev pub new_clip_row : Moment → Option Moment → Option Moment → Option (Moment × Moment)
new_clip_row x before None = None
new_clip_row x before (Some c) = elim (option_eq same_moment before (Some c)) [ true ↦ None | false ↦ Some (x, c) ]

-- the occurrence of the row with its clip, if that is new
abbrev pub clip_row : List Row → Row → Option (Moment × Moment)
clip_row old r = new_clip_row r.occ (clip_in old r.occ) r.clip

-- **What changed of belief between two maps**, as the code tells it.
pub record AreChanges (old new : TimeMap) (c : BeliefChanges) : Type 0 where
  pub left : map moment_of c.left.items ≡ (delta old new).left
  pub entered : map moment_of c.entered.items ≡ (delta old new).entered
  pub loose : map moment_of c.loose.items ≡ (delta old new).loose
  pub clips : map clip_pair c.clips.items ≡ (delta old new).clips
