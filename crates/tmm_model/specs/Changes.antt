-- What an edit changes: the map before it and the map after it, compared.
use Rattle.std.specs.Prelude.{ℕ, Bool, true, false, not, ◌&&◌, List, map, filter, Option, Some, None}
use Rattle.std.specs.List.{list_any, filter_map}
use Rattle.std.specs.Option.{is_some, is_none, option_eq}
use Rattle.tmm_model.specs.declared.changes.Changes.{Changes as CodeChanges}
use Rattle.tmm_model.specs.declared.changes.Clip.{Clip}
use Rattle.tmm_model.specs.declared.premise.Premise.{Premise}
use Rattle.tmm_model.specs.declared.premise.Premise.TheVariants.{Protect}
use Rattle.tmm_model.specs.Answers.{Finding, clip, reports, report_of}
use Rattle.tmm_model.specs.Firsts.{sorted}
use Rattle.tmm_model.specs.Maps.{TimeMap, built, order, is_believed}
use Rattle.tmm_model.specs.Moments.{Moment, same_moment, is_derived, moment_of}
use Rattle.tmm_model.specs.Points.{same_name}
use Rattle.tmm_model.specs.Standing.{Standing, name_of, premise_in}

-- the seven lists of what changed
pub record Delta : Type 0 where
  -- the premises that no longer stand
  pub erased : List (List ℕ)
  -- the derived occurrences that are no longer believed
  pub left : List Moment
  -- the derived occurrences that are newly believed
  pub entered : List Moment
  -- the persistences that are no longer clipped
  pub loose : List Moment
  -- the persistences that are newly clipped, or by another token, each with what clips it
  pub clips : List (Moment × Moment)
  -- the protections that are newly broken, each with what is found of it
  pub broken : List (List ℕ × Finding)
  -- the protections that are no longer broken
  pub mended : List (List ℕ)

-- the believed occurrences, in order
abbrev pub in_order : TimeMap → List Moment
in_order m = sorted (order m) m.believed

-- whether a protection of this name stands and is broken
abbrev pub is_broken : TimeMap → List ℕ → Bool
is_broken m name = list_any (λ r. same_name r.0 name) (reports m)

-- the name of a protection
abbrev pub protection_name : Premise → Option (List ℕ)
protection_name (Protect name fact from to) = Some name
protection_name _ = None

module _ (old new : TimeMap) where
  -- the persistence x with its clip, where that is new
  abbrev pub new_clip : Moment → Option Moment → Option (Moment × Moment)
  new_clip x None = None
  new_clip x (Some c) = elim (is_believed old x && option_eq same_moment (clip old x) (Some c)) [ true ↦ None | false ↦ Some (x, c) ]

  -- in the order of the old list, or of the occurrences of the map in which what is told is
  -- believed
  abbrev pub delta : Delta
  delta = record {
    erased = filter (λ name. is_none (premise_in new.list.premises name)) (map name_of old.list.premises);
    left = filter (λ x. is_derived x && not (is_believed new x)) (in_order old);
    entered = filter (λ x. is_derived x && not (is_believed old x)) (in_order new);
    loose = filter (λ x. is_believed old x && is_some (clip old x) && is_none (clip new x)) (in_order new);
    clips = filter_map (λ x. new_clip x (clip new x)) (in_order new);
    broken = filter (λ r. not (is_broken old r.0)) (reports new);
    mended = filter (λ name. is_broken old name && not (is_broken new name)) (filter_map protection_name new.list.premises);
  }

-- **The changes** from one standing list to another.
abbrev pub changes : Standing → Standing → Delta
changes old new = delta (built old) (built new)

-- the value of the code, as this definition has it
abbrev pub clip_pair : Clip → Moment × Moment
clip_pair c = (moment_of c.token, moment_of c.by)

-- the changes that the code tells, as this definition has them
abbrev pub delta_of : CodeChanges → Delta
delta_of c = record {
  erased = c.erased.items;
  left = map moment_of c.left.items;
  entered = map moment_of c.entered.items;
  loose = map moment_of c.loose.items;
  clips = map clip_pair c.clips.items;
  broken = map report_of c.broken.items;
  mended = c.mended.items;
}
