-- What is retracted with a premise: all that mentions it.
use Rattle.std.specs.Prelude.{ℕ, Bool, true, false, ◌||◌, List, [], ◌∷◌, ◌++◌}
use Rattle.std.specs.List.{flat_map, list_any}
use Rattle.tmm_model.specs.declared.point.PointName.{PointName}
use Rattle.tmm_model.specs.declared.point.PointName.TheVariants.{Start, Begin, End}
use Rattle.tmm_model.specs.declared.premise.Premise.{Premise}
use Rattle.tmm_model.specs.Points.{same_name}
use Rattle.tmm_model.specs.Standing.{name_of}
use Rattle.tmm_model.specs.Sorts.{declared_by, Use, a_name, a_place, a_premise, uses_of}

-- the name of what a point belongs to; `start` belongs to none
abbrev pub names_at : PointName → List (List ℕ)
names_at Start = []
names_at (Begin name) = name ∷ []
names_at (End name) = name ∷ []

-- the names in a word that is used
abbrev pub names_used : Use → List (List ℕ)
names_used (a_name word wanted) = word ∷ []
names_used (a_place point) = names_at point
names_used (a_premise word) = word ∷ []

-- the names that a premise mentions, its own aside
abbrev pub mentioned_by : Premise → List (List ℕ)
mentioned_by premise = flat_map names_used (uses_of premise)

-- whether the name is one of these
abbrev pub is_among : List (List ℕ) → List ℕ → Bool
is_among names name = list_any (same_name name) names

-- the premise is the one that is erased, or mentions a name that is gone
abbrev pub falls : List ℕ → List (List ℕ) → Premise → Bool
falls erased gone premise = same_name erased (name_of premise) || list_any (is_among gone) (mentioned_by premise)

module _ (erased : List ℕ) where
  -- From the first of the premises on, where the names `gone` were declared by premises that fell
  -- before them: those that stay. A premise that falls takes all its names along.
  abbrev pub kept_after : List (List ℕ) → List Premise → List Premise
  kept_after gone [] = []
  kept_after gone (premise ∷ premises) =
      elim (falls erased gone premise) [ true ↦ kept_after (declared_by premise ++ gone) premises | false ↦ premise ∷ kept_after gone premises ]

-- the premises without the one of this name and all that mention, directly or through others, what
-- is retracted
abbrev pub kept_without : List ℕ → List Premise → List Premise
kept_without erased premises = kept_after erased [] premises
