-- What two ways begin with.
use Rattle.std.proofs.Common.{◌≡◌, ◌≢◌, ℕ, zero, suc, cond, eqb, true, false, Bool, ◌≤◌, List, [], ◌∷◌, ◌++◌, length, take, refl, sym, ap, ◌∙◌, inl, inr, arith, eq-eqb}
use Rattle.std.proofs.lemmas.Bool.{eqb-true, cases_lt}
use Rattle.std.proofs.lemmas.List.{take_all}
use Rattle.ancestors.specs.Ways.{EndsWith, shared_front}

pub shared_front-itself : (u : List ℕ) → shared_front u u ≡ u
shared_front-itself [] = refl
shared_front-itself (x ∷ u) = ap (λ b. cond b (x ∷ shared_front u u) []) (eq-eqb x x refl) ∙ ap (λ w. x ∷ w) (shared_front-itself u)

pub shared_front-take : (n : ℕ) (u v : List ℕ) → shared_front (take n u) (take n v) ≡ take n (shared_front u v)
shared_front-take zero u v = refl
shared_front-take (suc n) [] v = refl
shared_front-take (suc n) (x ∷ u) [] = refl
shared_front-take (suc n) (x ∷ u) (y ∷ v) = by (shared_front-take n u v) (eqb x y)
  where
    by : shared_front (take n u) (take n v) ≡ take n (shared_front u v) → (t : Bool) → cond t (x ∷ shared_front (take n u) (take n v)) [] ≡ take (suc n) (cond t (x ∷ shared_front u v) [])
    by rest true = ap (λ w. x ∷ w) rest
    by rest false = refl

pub shared_front-short : (u v : List ℕ) → (length (shared_front u v) ≤ length u) × (length (shared_front u v) ≤ length v)
shared_front-short [] v = (omega arith, omega arith)
shared_front-short (x ∷ u) [] = (omega arith, omega arith)
shared_front-short (x ∷ u) (y ∷ v) = by (shared_front-short u v) (eqb x y)
  where
    by : (length (shared_front u v) ≤ length u) × (length (shared_front u v) ≤ length v) → (t : Bool) → (length (cond t (x ∷ shared_front u v) []) ≤ length (x ∷ u)) × (length (cond t (x ∷ shared_front u v) []) ≤ length (y ∷ v))
    by rest true = (omega (arith, rest.0), omega (arith, rest.1))
    by rest false = (omega arith, omega arith)

-- ways begin alike as far as they are shared
pub shared_front-alike : (n : ℕ) (u v : List ℕ) → n ≤ length (shared_front u v) → take n u ≡ take n v
shared_front-alike zero u v within = refl
shared_front-alike (suc n) [] v within = absurd (omega (arith, within))
shared_front-alike (suc n) (x ∷ u) [] within = absurd (omega (arith, within))
shared_front-alike (suc n) (x ∷ u) (y ∷ v) within = by (shared_front-alike n u v) (eqb x y) refl within
  where
    by : (n ≤ length (shared_front u v) → take n u ≡ take n v) → (t : Bool) → eqb x y ≡ t → suc n ≤ length (cond t (x ∷ shared_front u v) []) → x ∷ take n u ≡ y ∷ take n v
    by rest true is more = let again = rest (omega (arith, more)) in λ i. eqb-true x y is i ∷ again i
    by rest false is more = absurd (omega (arith, more))

-- the last nodes of ways of one length are not shared where they differ
pub shared_front-push : (u v : List ℕ) (x y : ℕ) → length u ≡ length v → x ≢ y → shared_front (u ++ x ∷ []) (v ++ y ∷ []) ≡ shared_front u v
shared_front-push [] [] x y same other = by (eqb x y) refl
  where
    by : (t : Bool) → eqb x y ≡ t → cond t (x ∷ []) [] ≡ []
    by true is = absurd (other (eqb-true x y is))
    by false is = refl
shared_front-push [] (b ∷ v) x y same other = absurd (omega (arith, same))
shared_front-push (a ∷ u) [] x y same other = absurd (omega (arith, same))
shared_front-push (a ∷ u) (b ∷ v) x y same other =
    ap (λ w. cond (eqb a b) (a ∷ w) []) (shared_front-push u v x y (omega (arith, same)) other)

-- what is shared stays where the ways are cut no sooner
pub shared_front-cut : (n : ℕ) (u v : List ℕ) → length (shared_front u v) ≤ n → shared_front (take n u) (take n v) ≡ shared_front u v
shared_front-cut n u v short = shared_front-take n u v ∙ take_all n (shared_front u v) short

-- ---- ways and their ends

abbrev last_of : List ℕ → ℕ
last_of [] = 0
last_of (x ∷ []) = x
last_of (x ∷ y ∷ u) = last_of (y ∷ u)

last_of-push : (u : List ℕ) (x : ℕ) → last_of (u ++ x ∷ []) ≡ x
last_of-push [] x = refl
last_of-push (y ∷ []) x = refl
last_of-push (y ∷ z ∷ u) x = last_of-push (z ∷ u) x

-- ways that are one end with one node
pub ends_alike : (u v : List ℕ) (x y : ℕ) → EndsWith u x → EndsWith v y → u ≡ v → x ≡ y
ends_alike u v x y (front, is) (other, is_other) same = sym (last_of-push front x) ∙ ap last_of (sym is ∙ same ∙ is_other) ∙ last_of-push other y

-- jumps that lead to different nodes lead above what is shared no further than to its end
pub shared_front-jumped : (n : ℕ) (u v : List ℕ) (x y : ℕ) → EndsWith (take n u) x → EndsWith (take n v) y → x ≢ y → shared_front (take n u) (take n v) ≡ shared_front u v
shared_front-jumped n u v x y ends ends_other other =
    elim (cases_lt (length (shared_front u v)) n) [
      | inl below ↦ shared_front-cut n u v (omega (arith, below))
      | inr above ↦ absurd (other (ends_alike (take n u) (take n v) x y ends ends_other (shared_front-alike n u v (omega (arith, above)))))
    ]
