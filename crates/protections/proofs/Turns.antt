-- Lists that are gone through one by one.
use Rattle.std.proofs.Common.{◌≡◌, ◌∙◌, ℕ, Bool, true, false, not, ◌||◌, List, [], ◌∷◌, ◌++◌, map, take, length, ◌<◌, ◌+◌, refl, ap, get_or, add-one}
use Rattle.std.specs.Prelude.{Option, Some, None, filter, cond}
use Rattle.std.specs.Option.{option_map}
use Rattle.std.specs.List.{filter_map, cons_option, list_any}
use Rattle.std.proofs.Math.Seq.{take-suc}
use Rattle.std.proofs.lemmas.List.{map-append}
use Rattle.std.proofs.lemmas.List.Elements.{filter_map-append}
use Rattle.tmm_model.specs.declared.answer.Report.{Report}
use Rattle.tmm_model.specs.declared.premise.Premise.{Premise}
use Rattle.tmm_model.specs.Points.{same_name}
use Rattle.tmm_model.specs.Answers.{Finding, report_of}
use Rattle.tmm_model.specs.Changes.{protection_name}
use Rattle.protections.specs.Reported.{Reports, is_reported, new_of, newly_broken, is_mended, if_mended, name_if, mended_of, mended}

-- the first i + 1
pub take_next : {X : Type 0} (xs : List X) (i : ℕ) (x d : X) → i < length xs → get_or xs i d ≡ x → take (i + 1) xs ≡ take i xs ++ x ∷ []
take_next xs i x d lt is = ap (λ n. take n xs) (add-one i) ∙ take-suc xs i d lt ∙ ap (λ z. take i xs ++ z ∷ []) is

pub filter_map-next : {X Y : Type 0} (h : X → Option Y) (xs : List X) (i : ℕ) (x d : X) → i < length xs → get_or xs i d ≡ x
    → filter_map h (take (i + 1) xs) ≡ filter_map h (take i xs) ++ cons_option (h x) []
filter_map-next h xs i x d lt is = ap (filter_map h) (take_next xs i x d lt is) ∙ filter_map-append h (take i xs) (x ∷ [])

pub map-cons_option : {X Y : Type 0} (f : X → Y) (xs : List X) (o : Option X) → map f (xs ++ cons_option o []) ≡ map f xs ++ cons_option (option_map f o) []
map-cons_option f xs o = map-append f xs (cons_option o []) ∙ ap (λ l. map f xs ++ l) (by o)
  where
    by : (o : Option _) → map f (cons_option o []) ≡ cons_option (option_map f o) []
    by None = refl
    by (Some x) = refl

-- ---- filters

pub newly_broken-is : (before after : Reports) → filter_map (new_of before) after ≡ newly_broken before after
newly_broken-is before [] = refl
newly_broken-is before (r ∷ after) = by (newly_broken-is before after) (is_reported before r.0)
  where
    by : filter_map (new_of before) after ≡ newly_broken before after → (b : Bool)
        → cons_option (elim b as (λ _. Option (List ℕ × Finding)) [ true ↦ None | false ↦ Some r ]) (filter_map (new_of before) after) ≡ cond (not b) (r ∷ newly_broken before after) (newly_broken before after)
    by again true = again
    by again false = ap (λ l. r ∷ l) again

pub mended-is : (before after : Reports) (premises : List Premise) → filter_map (mended_of before after) premises ≡ mended before after premises
mended-is before after [] = refl
mended-is before after (p ∷ premises) = by (mended-is before after premises) (protection_name p)
  where
    kept : filter_map (mended_of before after) premises ≡ mended before after premises → (name : List ℕ) (b : Bool)
        → cons_option (name_if b name) (filter_map (mended_of before after) premises) ≡ cond b (name ∷ mended before after premises) (mended before after premises)
    kept again name true = ap (λ l. name ∷ l) again
    kept again name false = again

    by : filter_map (mended_of before after) premises ≡ mended before after premises → (o : Option (List ℕ))
        → cons_option (if_mended before after o) (filter_map (mended_of before after) premises) ≡ filter (is_mended before after) (cons_option o (filter_map protection_name premises))
    by again None = again
    by again (Some name) = kept again name (is_mended before after name)

-- ---- reports

pub reported-is : (reports : List Report) (name : List ℕ) → list_any (λ r. same_name r.name name) reports ≡ is_reported (map report_of reports) name
reported-is [] name = refl
reported-is (r ∷ reports) name = ap (λ b. same_name r.name name || b) (reported-is reports name)

pub new_of-reported : (before : Reports) (r : List ℕ × Finding) → is_reported before r.0 ≡ true → new_of before r ≡ None
new_of-reported before r e = ap (λ b. elim b as (λ _. Option (List ℕ × Finding)) [ true ↦ None | false ↦ Some r ]) e

pub new_of-other : (before : Reports) (r : List ℕ × Finding) → is_reported before r.0 ≡ false → new_of before r ≡ Some r
new_of-other before r e = ap (λ b. elim b as (λ _. Option (List ℕ × Finding)) [ true ↦ None | false ↦ Some r ]) e

pub filter_map-mapped : {X Y Z : Type 0} (h : Y → Option Z) (f : X → Y) (xs : List X) (i : ℕ) (x d : X) → i < length xs → get_or xs i d ≡ x
    → filter_map h (map f (take (i + 1) xs)) ≡ filter_map h (map f (take i xs)) ++ cons_option (h (f x)) []
filter_map-mapped h f xs i x d lt is =
    ap (λ l. filter_map h (map f l)) (take_next xs i x d lt is) ∙ ap (filter_map h) (map-append f (take i xs) (x ∷ [])) ∙ filter_map-append h (map f (take i xs)) (f x ∷ [])
