-- The names of reports.
use Rattle.std.proofs.Common.{◌≡◌, ℕ, List, [], ◌∷◌, map, refl, ◌||◌}
use Rattle.std.specs.Prelude.{◌&&◌}
use Rattle.std.specs.List.{list_any, list_all}
use Rattle.tmm_model.specs.declared.answer.Report.{Report}
use Rattle.tmm_model.specs.Answers.{report_of}
use Rattle.tmm_model.specs.Erasure.{is_among}
use Rattle.tmm_model.specs.Points.{same_name}
use Rattle.repairs.specs.Told.{names_in}

pub among_reports : (name : List ℕ) (rs : List Report) → is_among (names_in (map report_of rs)) name ≡ list_any (λ (r : Report). same_name name r.name) rs
among_reports name [] = refl
among_reports name (r ∷ rs) = λ i. same_name name r.name || among_reports name rs i

pub all_reports_among : (names : List (List ℕ)) (rs : List Report) → list_all (is_among names) (names_in (map report_of rs)) ≡ list_all (λ (r : Report). is_among names r.name) rs
all_reports_among names [] = refl
all_reports_among names (r ∷ rs) = λ i. is_among names r.name && all_reports_among names rs i
