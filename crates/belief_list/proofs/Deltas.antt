-- What changed of belief between two maps, row by row.
use Rattle.std.proofs.Common.{◌≡◌, Bool, true, false, List, [], ◌∷◌, map, refl, sym, ◌∙◌, ap}
use Rattle.std.specs.Prelude.{not, ◌&&◌, ◌||◌, filter, cond, Option, Some, None}
use Rattle.std.specs.Option.{is_some, is_none, option_eq, option_and_then}
use Rattle.std.specs.List.{filter_map, cons_option}
use Rattle.tmm_model.specs.Answers.{Row, row, rows, clip}
use Rattle.tmm_model.specs.Changes.{delta, in_order, new_clip, clip_pair}
use Rattle.tmm_model.specs.Maps.{TimeMap, is_among, is_believed}
use Rattle.tmm_model.specs.Moments.{Moment, same_moment, is_derived, moment_of}
use Rattle.list_theory.proofs.Elements.{In, In-from_Contains, Contains-from_In}
use Rattle.belief_theory.proofs.Moments.{Decides-same_moment}
use Rattle.belief_theory.proofs.Order.{ordered}
use Rattle.belief_theory.proofs.Sorts.{sorted_in}
use Rattle.belief_theory.proofs.Upholding.{among, is_among-Contains}
use Rattle.belief_list.specs.Compared.{row_in, clip_in, gone_row, loose_row, new_clip_row, clip_row, AreChanges}
use Rattle.belief_list.specs.declared.changes.BeliefChanges.{BeliefChanges}

-- ---- members

among_same : (xs ys : List Moment) → ((x : Moment) → In x xs → In x ys) → ((x : Moment) → In x ys → In x xs) → (x : Moment) → is_among xs x ≡ is_among ys x
among_same xs ys l r x = by (is_among xs x) (is_among ys x) refl refl
  where
    by : (a b : Bool) → is_among xs x ≡ a → is_among ys x ≡ b → is_among xs x ≡ is_among ys x
    by true true e f = e ∙ sym f
    by false false e f = e ∙ sym f
    by true false e f = let t : is_among ys x ≡ true = is_among-Contains ys x (Contains-from_In ys x (l x (In-from_Contains xs x (among xs x e)))) in cc
    by false true e f = let t : is_among xs x ≡ true = is_among-Contains xs x (Contains-from_In xs x (r x (In-from_Contains ys x (among ys x f)))) in cc

ordered_in : (m : TimeMap) (x : Moment) → is_among (in_order m) x ≡ is_believed m x
ordered_in m x =
    among_same (in_order m) m.believed
    (λ y at. (sorted_in (ordered m.list m.far) m.believed y).0 at)
    (λ y at. (sorted_in (ordered m.list m.far) m.believed y).1 at)
    x

-- ---- rows of a map

row_among : (m : TimeMap) (xs : List Moment) (x : Moment) → row_in (map (row m) xs) x ≡ elim (is_among xs x) [ true ↦ Some (row m x) | false ↦ None ]
row_among m [] x = refl
row_among m (y ∷ ys) x = by (same_moment x y) refl (row_among m ys x)
  where
    by : (b : Bool) → same_moment x y ≡ b → row_in (map (row m) ys) x ≡ elim (is_among ys x) [ true ↦ Some (row m x) | false ↦ None ]
        → elim b as (λ _. Option Row) [ true ↦ Some (row m y) | false ↦ row_in (map (row m) ys) x ] ≡ elim (b || is_among ys x) [ true ↦ Some (row m x) | false ↦ None ]
    by true e rest = ap (λ z. Some (row m z)) (sym ((Decides-same_moment x y).0 e))
    by false e rest = rest

abbrev clip_if : TimeMap → Moment → Bool → Option Moment
clip_if m x true = clip m x
clip_if m x false = None

clip_among : (m : TimeMap) (x : Moment) → clip_in (rows m) x ≡ clip_if m x (is_believed m x)
clip_among m x = ap (option_and_then (λ (r : Row). r.clip)) (row_among m (in_order m) x) ∙ by (is_among (in_order m) x) ∙ ap (clip_if m x) (ordered_in m x)
  where
    by : (b : Bool) → option_and_then (λ (r : Row). r.clip) (elim b as (λ _. Option Row) [ true ↦ Some (row m x) | false ↦ None ]) ≡ clip_if m x b
    by true = refl
    by false = refl

-- ---- fields

filter_rows : (m : TimeMap) (h : Row → Option Moment) (p : Moment → Bool) → ((x : Moment) → h (row m x) ≡ elim (p x) [ true ↦ Some x | false ↦ None ]) → (xs : List Moment) → filter_map h (map (row m) xs) ≡ filter p xs
filter_rows m h p tells [] = refl
filter_rows m h p tells (x ∷ xs) = ap (λ o. cons_option o (filter_map h (map (row m) xs))) (tells x) ∙ by (p x) (filter_rows m h p tells xs)
  where
    by : (b : Bool) → filter_map h (map (row m) xs) ≡ filter p xs → cons_option (elim b as (λ _. Option Moment) [ true ↦ Some x | false ↦ None ]) (filter_map h (map (row m) xs)) ≡ cond b (x ∷ filter p xs) (filter p xs)
    by true rest = ap (λ l. x ∷ l) rest
    by false rest = rest

map_rows : {Y : Type 0} (m : TimeMap) (h : Row → Option Y) (g : Moment → Option Y) → ((x : Moment) → h (row m x) ≡ g x) → (xs : List Moment) → filter_map h (map (row m) xs) ≡ filter_map g xs
map_rows m h g tells [] = refl
map_rows m h g tells (x ∷ xs) = (λ i. cons_option (tells x i) (map_rows m h g tells xs i))

-- what is not listed in a map is not believed in it
unlisted : (m : TimeMap) (x : Moment) → is_none (row_in (rows m) x) ≡ not (is_believed m x)
unlisted m x = ap is_none (row_among m (in_order m) x) ∙ by (is_among (in_order m) x) ∙ ap not (ordered_in m x)
  where
    by : (b : Bool) → is_none (elim b as (λ _. Option Row) [ true ↦ Some (row m x) | false ↦ None ]) ≡ not b
    by true = refl
    by false = refl

-- of the maps m and n
gone_rows : (m n : TimeMap) → filter_map (gone_row (rows n)) (rows m) ≡ filter (λ x. is_derived x && not (is_believed n x)) (in_order m)
gone_rows m n =
    filter_rows m (gone_row (rows n)) (λ x. is_derived x && not (is_believed n x))
    (λ x. ap (λ b. elim (is_derived x && b) as (λ _. Option Moment) [ true ↦ Some x | false ↦ None ]) (unlisted n x))
    (in_order m)

loose_rows : (old new : TimeMap) → filter_map (loose_row (rows old)) (rows new) ≡ (delta old new).loose
loose_rows old new =
    filter_rows new (loose_row (rows old)) (λ x. is_believed old x && is_some (clip old x) && is_none (clip new x))
    (λ x. ap (λ c. elim (is_some c && is_none (clip new x)) as (λ _. Option Moment) [ true ↦ Some x | false ↦ None ]) (clip_among old x) ∙ by x (is_believed old x))
    (in_order new)
  where
    by : (x : Moment) (b : Bool) → elim (is_some (clip_if old x b) && is_none (clip new x)) as (λ _. Option Moment) [ true ↦ Some x | false ↦ None ]
        ≡ elim (b && is_some (clip old x) && is_none (clip new x)) [ true ↦ Some x | false ↦ None ]
    by x true = refl
    by x false = refl

clip_rows : (old new : TimeMap) → filter_map (clip_row (rows old)) (rows new) ≡ (delta old new).clips
clip_rows old new =
    map_rows new (clip_row (rows old)) (λ x. new_clip old new x (clip new x))
    (λ x. ap (λ o. new_clip_row x o (clip new x)) (clip_among old x) ∙ by x (clip new x) (is_believed old x) refl)
    (in_order new)
  where
    by : (x : Moment) (c : Option Moment) (b : Bool) → is_believed old x ≡ b → new_clip_row x (clip_if old x b) c ≡ new_clip old new x c
    by x None b e = refl
    by x (Some c) true e = ap (λ z. elim (z && option_eq same_moment (clip old x) (Some c)) as (λ _. Option (Moment × Moment)) [ true ↦ None | false ↦ Some (x, c) ]) (sym e)
    by x (Some c) false e = ap (λ z. elim (z && option_eq same_moment (clip old x) (Some c)) as (λ _. Option (Moment × Moment)) [ true ↦ None | false ↦ Some (x, c) ]) (sym e)

-- **What changed from the rows of one map to those of another is what changed of belief between
-- them.**
pub are_changes : (old new : List Row) (c : BeliefChanges) → map moment_of c.left.items ≡ filter_map (gone_row new) old → map moment_of c.entered.items ≡ filter_map (gone_row old) new
    → map moment_of c.loose.items ≡ filter_map (loose_row old) new → map clip_pair c.clips.items ≡ filter_map (clip_row old) new
    → (m n : TimeMap) → old ≡ rows m → new ≡ rows n → AreChanges m n c
are_changes old new c left entered loose clips m n of_m of_n = record {
  left = left ∙ (λ i. filter_map (gone_row (of_n i)) (of_m i)) ∙ gone_rows m n;
  entered = entered ∙ (λ i. filter_map (gone_row (of_m i)) (of_n i)) ∙ gone_rows n m;
  loose = loose ∙ (λ i. filter_map (loose_row (of_m i)) (of_n i)) ∙ loose_rows m n;
  clips = clips ∙ (λ i. filter_map (clip_row (of_m i)) (of_n i)) ∙ clip_rows m n;
}
