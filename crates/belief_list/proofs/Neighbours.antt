-- What is told one by one, each beside the one before it.
use Rattle.std.proofs.Common.{◌≡◌, ◌∙◌, ℕ, ◌+◌, ◌<◌, ◌≤◌, Bool, true, false, List, [], ◌∷◌, ◌++◌, map, length, take, drop, sym, ap, arith}
use Rattle.std.specs.Prelude.{Option, Some, None, slice_index_or}
use Rattle.std.specs.List.{filter_map, cons_option}
use Rattle.std.proofs.lemmas.List.{append_assoc, map_push, take_more, drop_more, take_all, get_or-map, get_or-take, length-map, length-take-le}

module _ {X Y Z : Type 0} (tell : X → Z) (at : Y → Z) (ys : List Y) where
  -- one more is told
  pub one_more : (old new : List X) (x : X) (i : ℕ) (d : Y) → i < length ys → map tell old ≡ map at (take i ys) → new ≡ old ++ x ∷ [] → tell x ≡ at (slice_index_or ys i d) → map tell new ≡ map at (take (i + 1) ys)
  one_more old new x i d below before grown is =
      ap (map tell) grown
      ∙ map_push tell old x
      ∙ (λ j. before j ++ is j ∷ [])
      ∙ sym (map_push at (take i ys) (slice_index_or ys i d))
      ∙ ap (map at) (sym (take_more ys i d below))

  -- and then all are
  pub all_told : (told : List X) (i : ℕ) → length ys ≤ i → map tell told ≡ map at (take i ys) → map tell told ≡ map at ys
  all_told told i past so_far = so_far ∙ ap (map at) (take_all i ys past)

  module _ (before : List X) (i : ℕ) (within : i ≤ length ys) (told : map tell before ≡ map at (take i ys)) where
    -- so many are told
    pub so_many : length before ≡ i
    so_many = sym (length-map before tell) ∙ ap length told ∙ length-map (take i ys) at ∙ length-take-le i ys within

    -- and each of them as it is
    pub told_at : (j : ℕ) (p : X) (q : Y) → j < i → tell (slice_index_or before j p) ≡ at (slice_index_or ys j q)
    told_at j p q low =
        let many = so_many in
        let short = length-take-le i ys within in
        sym (get_or-map tell before j p (tell p) (omega (arith, many, low)))
        ∙ ap (λ l. slice_index_or l j (tell p)) told
        ∙ get_or-map at (take i ys) j q (tell p) (omega (arith, short, low))
        ∙ ap at (get_or-take i ys j q low)

-- ---- of a list what is chosen is told

module _ {X Y Z : Type 0} (tell : X → Z) (chosen : Y → Option Z) (ys : List Y) (old new : List X) (i : ℕ) (d : Y) (below : i < length ys)
    (before : map tell old ++ filter_map chosen (drop i ys) ≡ filter_map chosen ys) where
  pub with_one : (x : X) → new ≡ old ++ x ∷ [] → chosen (slice_index_or ys i d) ≡ Some (tell x) → map tell new ++ filter_map chosen (drop (i + 1) ys) ≡ filter_map chosen ys
  with_one x grown is =
      ap (λ l. map tell l ++ filter_map chosen (drop (i + 1) ys)) grown
      ∙ ap (λ l. l ++ filter_map chosen (drop (i + 1) ys)) (map_push tell old x)
      ∙ append_assoc (map tell old) (tell x ∷ []) (filter_map chosen (drop (i + 1) ys))
      ∙ (λ j. map tell old ++ cons_option (sym is j) (filter_map chosen (drop (i + 1) ys)))
      ∙ ap (λ l. map tell old ++ filter_map chosen l) (sym (drop_more ys i d below))
      ∙ before

  pub without : new ≡ old → chosen (slice_index_or ys i d) ≡ None → map tell new ++ filter_map chosen (drop (i + 1) ys) ≡ filter_map chosen ys
  without stayed is =
      ap (λ l. map tell l ++ filter_map chosen (drop (i + 1) ys)) stayed
      ∙ (λ j. map tell old ++ cons_option (sym is j) (filter_map chosen (drop (i + 1) ys)))
      ∙ ap (λ l. map tell old ++ filter_map chosen l) (sym (drop_more ys i d below))
      ∙ before

-- what a test chooses
pub passes : {X : Type 0} (b : Bool) (k : X) → b ≡ true → elim b as (λ _. Option X) [ true ↦ Some k | false ↦ None ] ≡ Some k
passes {X} b k e = ap (λ z. elim z as (λ _. Option X) [ true ↦ Some k | false ↦ None ]) e

pub fails : {X : Type 0} (b : Bool) (k : X) → b ≡ false → elim b as (λ _. Option X) [ true ↦ Some k | false ↦ None ] ≡ None
fails {X} b k e = ap (λ z. elim z as (λ _. Option X) [ true ↦ Some k | false ↦ None ]) e
