-- Broken protections under their names, and these once an edit is taken over.
use Rattle.std.specs.Prelude.{◌≡◌, ℕ, ◌≤◌, List, [], ◌∷◌, length, cond, Option, None}
use Rattle.std.specs.Map.{lookup}
use Rattle.std.specs.Option.{option_map}
use Rattle.indexmap.specs.IndexMap.{spare}
use Rattle.tmm_model.specs.Answers.{Finding, report_of}
use Rattle.tmm_model.specs.Points.{same_name}
use Rattle.protections.specs.declared.broken_protections.BrokenProtections.{BrokenProtections}
use Rattle.protections.specs.declared.review.Review.{Review}
use Rattle.protections.specs.declared.review.Reviewed.{Reviewed}
use Rattle.protections.specs.Reported.{Reports, report_in}

-- what is reported under a name, none where no protection of this name is broken
abbrev pub Found : Type 0
Found = List ℕ → Option (List ℕ × Finding)

-- what is kept under a name
abbrev pub found_in : BrokenProtections → Found
found_in b name = option_map report_of (lookup (same_name name) b.reports.entries)

-- **Under each name is found what is reported of it**, and nothing under any other.
abbrev pub AreFound : Reports → Found → Type 0
AreFound reports found = (name : List ℕ) → found name ≡ report_in reports name

-- one report put in the place of what was found under its name
abbrev pub with_report : Found → List ℕ → Option (List ℕ × Finding) → Found
with_report found name report other = cond (same_name name other) report (found other)

-- nothing is found under these names
abbrev pub without : Found → List (List ℕ) → Found
without found [] = found
without found (name ∷ names) = without (with_report found name None) names

-- of each of these the report after the edit is found
abbrev pub with_all : Found → List Reviewed → Found
with_all found [] = found
with_all found (r ∷ rs) = with_all (with_report found r.name (option_map report_of r.report)) rs

-- what is found once the edit is taken over
abbrev pub after_review : Found → Review → Found
after_review found review = with_all (without found review.erased.items) review.reviewed.items

-- there is room for all that may be newly broken
abbrev pub HasRoomFor : BrokenProtections → Review → Type 0
HasRoomFor b review = length review.reviewed.items ≤ spare b.reports
