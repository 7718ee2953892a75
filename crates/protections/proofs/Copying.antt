-- What is found under names, where reports are put under them one by one, the last first.
use Rattle.std.proofs.Common.{◌≡◌, ◌∙◌, ℕ, Bool, true, false, cond, List, ◌∷◌, drop, drop-cons, ◌+◌, refl, ap, sym, add-one}
use Rattle.std.specs.Prelude.{Option, Some, None, slice_get}
use Rattle.std.specs.Map.{lookup}
use Rattle.std.specs.Option.{option_map}
use Rattle.std.specs.Cmp.Lexicographic.{bytes_decides}
use Rattle.std.proofs.lemmas.Option.{slice_get_within, get_or_from_slice_get}
use Rattle.tmm_model.specs.declared.answer.Report.{Report}
use Rattle.tmm_model.specs.Answers.{Finding, report_of}
use Rattle.tmm_model.specs.Points.{same_name}
use Rattle.protections.specs.Found.{Found, with_report}

-- what is found under a name among these entries
abbrev pub found_among : List (List ℕ × Report) → Found
found_among entries name = option_map report_of (lookup (same_name name) entries)

name_swapped : (f g : List ℕ) → same_name f g ≡ same_name g f
name_swapped f g = by (same_name f g) refl (same_name g f) refl
  where
    by : (a : Bool) → same_name f g ≡ a → (b : Bool) → same_name g f ≡ b → same_name f g ≡ same_name g f
    by true e true d = e ∙ sym d
    by false e false d = e ∙ sym d
    by true e false d = e ∙ sym ((bytes_decides g f).1 (sym ((bytes_decides f g).0 e)))
    by false e true d = (bytes_decides f g).1 (sym ((bytes_decides g f).0 d)) ∙ sym d

first_found : (name : List ℕ) (report : Report) (rest : List (List ℕ × Report)) (other : List ℕ)
    → with_report (found_among rest) name (Some (report_of report)) other ≡ found_among ((name, report) ∷ rest) other
first_found name report rest other = ap (λ b. cond b (Some (report_of report)) (found_among rest other)) (name_swapped name other) ∙ by (same_name other name)
  where
    by : (b : Bool) → cond b (Some (report_of report)) (found_among rest other) ≡ option_map report_of (cond b (Some report) (lookup (same_name other) rest))
    by true = refl
    by false = refl

-- the entry at a place is put before those behind it
pub next_found : (entries : List (List ℕ × Report)) (i : ℕ) (name : List ℕ) (report : Report) → slice_get entries i ≡ Some (name, report)
    → with_report (found_among (drop (i + 1) entries)) name (Some (report_of report)) ≡ found_among (drop i entries)
next_found entries i name report at =
    let rest = drop (i + 1) entries in
    let here = drop-cons entries i (name, report) (slice_get_within entries i (name, report) at) in
    let parted : drop i entries ≡ (name, report) ∷ rest = here ∙ (λ j. get_or_from_slice_get entries i (name, report) (name, report) at j ∷ drop (sym (add-one i) j) entries) in
    (λ j other. first_found name report rest other j) ∙ ap found_among (sym parted)
