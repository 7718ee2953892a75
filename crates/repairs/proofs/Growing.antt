-- Lists of those candidates that are repairs, one after the other.
use Rattle.std.proofs.Common.{◌≡◌, List, [], ◌∷◌, ◌++◌, refl, sym, ◌∙◌, ap, subst, inl, inr, append-nil, append_assoc, ℕ, zero, suc, ◌+◌, ◌<◌, take, length, get_or, arith}
use Rattle.std.specs.List.{flat_map}
use Rattle.std.proofs.lemmas.Grind.{flat_map-append}
use Rattle.std.proofs.lemmas.List.{take_more}
use Rattle.std.specs.Prelude.{Result, Ok, Err, OnOk, Some, slice_get}
use Rattle.repairs.specs.Repairs.{AreThose}

-- the second list goes on from the first with those of which P holds
abbrev pub Grows : {A : Type 0} → (A → Type 0) → List A → List A → List A → Type 0
Grows {A} P tried old new = (more : List A) × AreThose P tried more × (new ≡ old ++ more)

module _ {A : Type 0} (P : A → Type 0) where
  AreThose-append : (xs ys : List A) (kept more : List A) → AreThose P xs kept → AreThose P ys more → AreThose P (xs ++ ys) (kept ++ more)
  AreThose-append [] ys kept more none those = by kept none
    where
      by : (kept : List A) → kept ≡ [] → AreThose P ys (kept ++ more)
      by [] e = those
      by (k ∷ ks) e = cc
  AreThose-append (x ∷ xs) ys kept more (inl (rest, holds, is, others)) those =
      inl (rest ++ more, holds, ap (λ (l : List A). l ++ more) is, AreThose-append xs ys rest more others those)
  AreThose-append (x ∷ xs) ys kept more (inr (fails, others)) those = inr (fails, AreThose-append xs ys kept more others those)

  pub Grows-none : (old : List A) → Grows P [] old old
  Grows-none old = ([], refl, sym (append-nil old))

  pub Grows-append : (xs ys old middle new : List A) → Grows P xs old middle → Grows P ys middle new → Grows P (xs ++ ys) old new
  Grows-append xs ys old middle new (kept, those, is) (more, others, last) =
      (kept ++ more, AreThose-append xs ys kept more those others, last ∙ ap (λ (l : List A). l ++ more) is ∙ append_assoc old kept more)

  pub Grows-holds : (x : A) (old new : List A) → P x → new ≡ old ++ x ∷ [] → Grows P (x ∷ []) old new
  Grows-holds x old new holds is = (x ∷ [], inl ([], holds, refl, refl), is)

  pub Grows-fails : (x : A) (old : List A) → (P x → ⊥) → Grows P (x ∷ []) old old
  Grows-fails x old fails = ([], inr (fails, refl), sym (append-nil old))

  -- one more element of another list gives its candidates
  pub Grows-step : {X : Type 0} (h : X → List A) (done next : List X) (x : X) (old middle new : List A) → next ≡ done ++ x ∷ [] → Grows P (flat_map h done) old middle → Grows P (h x) middle new
      → Grows P (flat_map h next) old new
  Grows-step {X} h done next x old middle new is before more =
      let tried : flat_map h next ≡ flat_map h done ++ h x =
      ap (λ (l : List X). flat_map h l) is ∙ flat_map-append h done (x ∷ []) ∙ ap (λ (l : List A). flat_map h done ++ l) (append-nil (h x)) in
      subst (λ (l : List A). Grows P l old new) (sym tried) (Grows-append (flat_map h done) (h x) old middle new before more)

  -- what grows from nothing has those of which P holds
  pub Grows-from_nothing : (xs new : List A) → Grows P xs [] new → AreThose P xs new
  Grows-from_nothing xs new (more, those, is) = by new is
    where
      by : (new : List A) → new ≡ more → AreThose P xs new
      by new is = subst (λ (l : List A). AreThose P xs l) (sym is) those

-- what follows of what holds on success holds on success
pub on_success : {A E : Type 0} {P Q : Type 0} (r : Result A E) → (P → Q) → OnOk r P → OnOk r Q
on_success (Ok x) f p = f p
on_success (Err e) f p = tt

-- the elements up to and with the one that is read
pub one_more : {X : Type 0} (xs : List X) (i : ℕ) (x : X) → i < length xs → x ≡ get_or xs i x → take (i + 1) xs ≡ take i xs ++ x ∷ []
one_more {X} xs i x within is = take_more xs i x within ∙ ap (λ (y : X). take i xs ++ y ∷ []) (sym is)

-- so it is of what is got at a place
pub one_got : {X : Type 0} (xs : List X) (i : ℕ) → i < length xs → (x : X) × (slice_get xs i ≡ Some x) × (take (i + 1) xs ≡ take i xs ++ x ∷ [])
one_got {X} xs i within = let (x, got, read) = at xs i within in (x, got, one_more xs i x within (sym read))
  where
    at : (xs : List X) (i : ℕ) → i < length xs → (x : X) × (slice_get xs i ≡ Some x) × (get_or xs i x ≡ x)
    at [] i within = absurd (omega (arith, within))
    at (x ∷ xs) zero within = (x, refl, refl)
    at (x ∷ xs) (suc i) within = at xs i (omega (arith, within))
