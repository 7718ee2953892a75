-- What an edit makes of the broken protections, and what is told of it.
use Rattle.std.specs.Prelude.{◌≡◌, ℕ, true, false, ◌&&◌, List, [], ◌∷◌, Option, None, MatchOption, Some, is_some}
use Rattle.std.specs.List.{filter_map, cons_option}
use Rattle.std.specs.Option.{option_map, is_none}
use Rattle.tmm_model.specs.declared.premise.Premise.{Premise}
use Rattle.tmm_model.specs.Answers.{Finding, broken, reports, report_of}
use Rattle.tmm_model.specs.Changes.{delta, protection_name}
use Rattle.tmm_model.specs.Maps.{TimeMap}
use Rattle.tmm_model.specs.Standing.{name_of}
use Rattle.protections.specs.declared.review.Review.{Review}
use Rattle.protections.specs.declared.review.Reviewed.{Reviewed}
use Rattle.protections.specs.Found.{Found, AreFound, after_review}
use Rattle.protections.specs.Reported.{name_if}

-- the report of a protection that was not broken before
abbrev pub news_of : Reviewed → Option (List ℕ × Finding)
news_of r = elim r.was_broken [ true ↦ None | false ↦ option_map report_of r.report ]

-- the newly broken ones
abbrev pub news : List Reviewed → List (List ℕ × Finding)
news rs = filter_map news_of rs

-- the name of one that was broken before and is not now
abbrev pub mends_of : Reviewed → Option (List ℕ)
mends_of r = name_if (r.was_broken && is_none r.report) r.name

-- the names of the mended ones
abbrev pub mends : List Reviewed → List (List ℕ)
mends rs = filter_map mends_of rs

module _ (m : TimeMap) (found : Found) where
  -- The protection was looked at: m is the map after the edit, and what was found under each name
  -- is of the map before it.
  pub record IsReviewed (p : Premise) (r : Reviewed) : Type 0 where
    pub name : protection_name p ≡ Some r.name
    pub was : r.was_broken ≡ is_some (found r.name)
    pub report : option_map report_of r.report ≡ broken m p

  -- a premise that is not looked at is reported as before, if at all
  abbrev pub Reviews : Premise → Option Reviewed → Type 0
  Reviews p o = MatchOption o (found (name_of p) ≡ broken m p) (IsReviewed p)

  -- of these premises these were looked at, in their order
  abbrev pub AreReviewed : List Premise → List Reviewed → Type 0
  AreReviewed [] rs = rs ≡ []
  AreReviewed (p ∷ ps) rs = (o : Option Reviewed) × (rest : List Reviewed) × (rs ≡ cons_option o rest) × Reviews p o × AreReviewed ps rest

-- **The review of an edit**: once it is taken over, under each name is what is reported of the map
-- after the edit; and what it tells is what the edit breaks and mends.
pub record IsReviewOf (old new : TimeMap) (found : Found) (review : Review) : Type 0 where
  pub after : AreFound (reports new) (after_review found review)
  pub broken : news review.reviewed.items ≡ (delta old new).broken
  pub mended : mends review.reviewed.items ≡ (delta old new).mended
