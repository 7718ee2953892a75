-- Why an edit is refused: the first cause that holds, in the order of this file.
use Rattle.std.specs.Prelude.{◌≡◌, ℕ, nat_le, Bool, true, false, ◌||◌, List, [], ◌∷◌, ◌++◌, map, length, codes, Option, Some, None, IsSome}
use Rattle.std.specs.List.{list_any}
use Rattle.std.specs.Option.{option_or}
use Rattle.tmm_model.specs.declared.limits.TheConstants.{MOST_PREMISES, MOST_POINTS}
use Rattle.tmm_model.specs.declared.point.PointName.{PointName}
use Rattle.tmm_model.specs.declared.point.PointName.TheVariants.{Start, Begin, End}
use Rattle.tmm_model.specs.declared.premise.Premise.{Premise}
use Rattle.tmm_model.specs.declared.premise.Edit.{Edit}
use Rattle.tmm_model.specs.declared.premise.Edit.TheVariants.{Add, Erase, Horizon, Upgrade}
use Rattle.tmm_model.specs.declared.refusal.Refusal.{Refusal}
use Rattle.tmm_model.specs.declared.refusal.Refusal.TheVariants.{Form, Taken, Unknown, Sort as IllSorted, LimitPremises, LimitPoints}
use Rattle.tmm_model.specs.Points.{same_name, point_word, query_word}
use Rattle.tmm_model.specs.Standing.{Standing, is_empty, points_in}
use Rattle.tmm_model.specs.Sorts.{Sort, a_span, is_reserved, declared_by, declarations_in, sort_in, is_place, is_premise, Use, a_name, a_place, a_premise, uses_of}

-- the limit on premises
abbrev pub most_premises : ℕ
most_premises = MOST_PREMISES

-- the limit on points, `start` among them
abbrev pub most_points : ℕ
most_points = MOST_POINTS

-- a cause that the names of a list and its counts decide, with the word as it stands in the line;
-- or the line opens a version that the list does not take
pub data Cause : Type 0 where
  out_of_form : Cause
  taken : List ℕ → Cause
  unknown : List ℕ → Cause
  ill_sorted : List ℕ → Cause
  too_many_premises : Cause
  too_many_points : Cause

-- the first of the words that is reserved, known, or stands before
abbrev pub first_taken : List (List ℕ) → List (List ℕ) → Option Cause
first_taken known [] = None
first_taken known (word ∷ words) =
    elim (is_reserved word || list_any (same_name word) known) [ true ↦ Some (taken word) | false ↦ first_taken (word ∷ known) words ]

-- a word for which something of a sort is wanted
abbrev pub name_cause : Option Sort → List ℕ → (Sort → Bool) → Option Cause
name_cause None word wanted = elim (same_name word (codes "start")) [ true ↦ Some (ill_sorted word) | false ↦ Some (unknown word) ]
name_cause (Some sort) word wanted = elim (wanted sort) [ true ↦ None | false ↦ Some (ill_sorted word) ]

-- `K.end` for what K is declared as
abbrev pub end_cause : Option Sort → List ℕ → Option Cause
end_cause None word = Some (unknown word)
end_cause (Some a_span) word = None
end_cause (Some _) word = Some (ill_sorted word)

-- a word for which a declared point is wanted
abbrev pub place_cause : List Premise → PointName → Option Cause
place_cause premises Start = None
place_cause premises (Begin name) = name_cause (sort_in premises name) name is_place
place_cause premises (End name) = end_cause (sort_in premises name) (point_word (End name))

-- a word for which a premise is wanted; here `start` is unknown too
abbrev pub premise_cause : Option Sort → List ℕ → Option Cause
premise_cause None word = Some (unknown word)
premise_cause (Some sort) word = elim (is_premise sort) [ true ↦ None | false ↦ Some (ill_sorted word) ]

-- the cause against a word, by what is wanted there
abbrev pub use_cause : List Premise → Use → Option Cause
use_cause premises (a_name word wanted) = name_cause (sort_in premises word) word wanted
use_cause premises (a_place point) = place_cause premises point
use_cause premises (a_premise word) = premise_cause (sort_in premises word) word

-- the first word from the left that has a cause
abbrev pub uses_cause : List Premise → List Use → Option Cause
uses_cause premises [] = None
uses_cause premises (use_ ∷ uses) = elim (use_cause premises use_) [ Some cause ↦ Some cause | None ↦ uses_cause premises uses ]

-- one premise more than may stand
abbrev pub premises_cause : List Premise → Option Cause
premises_cause premises = elim (nat_le most_premises (length premises)) [ true ↦ Some too_many_premises | false ↦ None ]

-- more points than may stand
abbrev pub points_cause : List Premise → Option Cause
points_cause premises = elim (nat_le (length (points_in premises)) most_points) [ true ↦ None | false ↦ Some too_many_points ]

-- the names that are declared
abbrev pub words_known : List Premise → List (List ℕ)
words_known premises = map (λ d. d.0) (declarations_in premises)

-- the first cause among names and counts for which a premise can't be added
abbrev pub add_cause : List Premise → Premise → Option Cause
add_cause premises premise =
    option_or (first_taken (words_known premises) (declared_by premise))
    (option_or (uses_cause premises (uses_of premise))
    (option_or (premises_cause premises) (points_cause (premises ++ premise ∷ []))))

-- version 2 is opened at the empty list alone
abbrev pub upgrade_cause : Standing → Option Cause
upgrade_cause s = elim (is_empty s) [ true ↦ None | false ↦ Some out_of_form ]

-- The first cause among names and counts for which an edit is refused.
abbrev pub list_cause : Standing → Edit → Option Cause
list_cause s (Add premise) = add_cause s.premises premise
list_cause s (Erase name) = use_cause s.premises (a_premise name)
list_cause s (Horizon n) = None
list_cause s Upgrade = upgrade_cause s

-- what a refusal says of names and counts
abbrev pub told_cause : Refusal → Option Cause
told_cause Form = Some out_of_form
told_cause (Taken word) = Some (taken (query_word word))
told_cause (Unknown word) = Some (unknown (query_word word))
told_cause (IllSorted word) = Some (ill_sorted (query_word word))
told_cause LimitPremises = Some too_many_premises
told_cause LimitPoints = Some too_many_points
told_cause _ = None

-- the refusal tells this cause
abbrev pub Tells : Refusal → Option Cause → Type 0
Tells refusal cause = IsSome cause × (told_cause refusal ≡ cause)
