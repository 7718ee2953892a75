-- Sets of points into which numbers are put.
use Rattle.std.proofs.Common.{◌≡◌, ◌∙◌, ℕ, Bool, true, false, ◌+◌, ◌<◌, ◌≤◌, List, length, get_or, replicate, refl, sym, ap, subst, inl, inr, ◌⊎◌, arith}
use Rattle.std.proofs.lemmas.Bool.{cases_order}
use Rattle.std.proofs.lemmas.List.{get_or-replicate, get_or_default, get_or_past, length-replicate}
use Rattle.std.specs.Prelude.{◌↔◌}
use Rattle.std.specs.List.{All, Contains}
use Rattle.bearing.specs.PointSets.{is_in, PutsIn, AreThose}

pub puts_none : (P : ℕ → Type 0) (s : List Bool) → ((p : ℕ) → P p → ⊥) → PutsIn P s s
puts_none P s none = record { own = λ p is. inl is; kept = λ p is. is; all = λ p is. absurd (none p is); places = refl }

pub puts_alike : (P Q : ℕ → Type 0) (old new : List Bool) → ((p : ℕ) → P p → Q p) → ((p : ℕ) → Q p → P p) → PutsIn P old new → PutsIn Q old new
puts_alike P Q old new to from puts = record {
  own = λ p is. elim (puts.own p is) [ inl was ↦ inl was | inr new ↦ inr (to p new) ];
  kept = puts.kept;
  all = λ p q. puts.all p (from p q);
  places = puts.places;
}

pub puts_both : (P Q R : ℕ → Type 0) (old mid new : List Bool) → ((p : ℕ) → R p → P p ⊎ Q p) → ((p : ℕ) → P p → R p) → ((p : ℕ) → Q p → R p)
    → PutsIn P old mid → PutsIn Q mid new → PutsIn R old new
puts_both P Q R old mid new apart from_p from_q first then_ = record {
  own = λ p is. elim (then_.own p is) [
    | inl was ↦ elim (first.own p was) [ inl before ↦ inl before | inr here ↦ inr (from_p p here) ]
    | inr here ↦ inr (from_q p here)
  ];
  kept = λ p is. then_.kept p (first.kept p is);
  all = λ p r. elim (apart p r) [ inl here ↦ then_.kept p (first.all p here) | inr here ↦ then_.all p here ];
  places = then_.places ∙ first.places;
}

-- one number after the other
pub puts_next : (F : ℕ → Type 0) (n : ℕ) (old mid new : List Bool) → PutsIn (λ k. (k < n) × F k) old mid → PutsIn (λ k. (k ≡ n) × F n) mid new → PutsIn (λ k. (k < n + 1) × F k) old new
puts_next F n old mid new = puts_both (λ k. (k < n) × F k) (λ k. (k ≡ n) × F n) (λ k. (k < n + 1) × F k) old mid new
    (λ k (less, f). elim (cases_order k n) [
      | inl same ↦ inr (same, subst F same f)
      | inr other ↦ elim other [ inl below ↦ inl (below, f) | inr above ↦ absurd (omega (arith, less, above)) ]
    ])
    (λ k (less, f). (omega (arith, less), f))
    (λ k (same, f). (omega (arith, same), subst F (sym same) f))

-- one number, where a test tells whether something holds of it
pub puts_told : (F : ℕ → Type 0) (n : ℕ) (v : Bool) (old new : List Bool) → (v ≡ true) ↔ F n → PutsIn (λ k. (k ≡ n) × (v ≡ true)) old new → PutsIn (λ k. (k ≡ n) × F n) old new
puts_told F n v old new told = puts_alike (λ k. (k ≡ n) × (v ≡ true)) (λ k. (k ≡ n) × F n) old new (λ k h. (h.0, told.0 h.1)) (λ k h. (h.0, told.1 h.1))

-- what is put in for one number after the other
pub puts_more : (G : ℕ → ℕ → Type 0) (n : ℕ) (old mid new : List Bool) → PutsIn (λ p. (q : ℕ) × (q < n) × (G q p)) old mid → PutsIn (G n) mid new
    → PutsIn (λ p. (q : ℕ) × (q < n + 1) × (G q p)) old new
puts_more G n old mid new = puts_both (λ p. (q : ℕ) × (q < n) × (G q p)) (G n) (λ p. (q : ℕ) × (q < n + 1) × (G q p)) old mid new
    (λ p (q, less, g). elim (cases_order q n) [
      | inl same ↦ inr (subst (λ k. G k p) same g)
      | inr other ↦ elim other [ inl below ↦ inl (q, below, g) | inr above ↦ absurd (omega (arith, less, above)) ]
    ])
    (λ p (q, less, g). (q, omega (arith, less), g))
    (λ p g. (n, omega arith, g))

-- one number where something holds of it, and then others
pub puts_one_and : (L G : ℕ → Type 0) (m : ℕ) (v : Bool) (old mid new : List Bool) → (v ≡ true) ↔ L m → PutsIn (λ k. (k ≡ m) × (v ≡ true)) old mid → PutsIn G mid new
    → PutsIn (λ p. ((p ≡ m) × L p) ⊎ G p) old new
puts_one_and L G m v old mid new told = puts_both (λ k. (k ≡ m) × (v ≡ true)) G (λ p. ((p ≡ m) × L p) ⊎ G p) old mid new
    (λ p h. elim h [ inl here ↦ inl (here.0, told.1 (subst L here.0 here.1)) | inr g ↦ inr g ])
    (λ p here. inl (here.0, subst L (sym here.0) (told.0 here.1)))
    (λ p g. inr g)

-- what is put in for all numbers that are listed is all, where it holds of none but for one that is
-- listed
pub puts_listed : (L : ℕ → Type 0) (G : ℕ → ℕ → Type 0) (listed : List ℕ) (n : ℕ) (old new : List Bool) → n ≡ length listed → All (λ m. m < 256) listed
    → ((m p : ℕ) → m < 256 → G m p → L p) → ((p : ℕ) → L p → Contains listed p ⊎ ((q : ℕ) × Contains listed q × G q p))
    → PutsIn (λ p. (k : ℕ) × (k < n) × (((p ≡ get_or listed k 0) × L p) ⊎ G (get_or listed k 0) p)) old new → PutsIn L old new
puts_listed L G listed n old new whole below to by_one =
    puts_alike (λ p. (k : ℕ) × (k < n) × (((p ≡ get_or listed k 0) × L p) ⊎ G (get_or listed k 0) p)) L old new
    (λ p (k, less, h). elim h [ inl here ↦ here.1 | inr g ↦ to (get_or listed k 0) p (below k 0 (subst (λ z. k < z) whole less)) g ])
    (λ p l. elim (by_one p l) [
      | inl (k, less, at) ↦ (k, subst (λ z. k < z) (sym whole) less, inl (sym (get_or_default listed k 0 p less ∙ at), l))
      | inr (q, listed_at, g) ↦ (listed_at.0, subst (λ z. listed_at.0 < z) (sym whole) listed_at.1, inr (subst (λ m. G m p) (sym (get_or_default listed listed_at.0 0 q listed_at.1 ∙ listed_at.2)) g))
    ])

-- into a set of none
pub puts_into_none : (P : ℕ → Type 0) (old new : List Bool) → ((p : ℕ) → is_in old p ≡ false) → length old ≡ 256 → PutsIn P old new → AreThose P new
puts_into_none P old new none places puts = record {
  own = λ p is. elim (puts.own p is) [ inl was ↦ absurd (let both : true ≡ false = sym was ∙ none p in cc) | inr here ↦ here ];
  all = puts.all;
  places = puts.places ∙ places;
}

pub none_in : (n p : ℕ) → is_in (replicate n false) p ≡ false
none_in n p = elim (cases_order p n) [
  | inl same ↦ beyond n p (omega (arith, same))
  | inr other ↦ elim other [ inl below ↦ get_or-replicate n p false false below | inr above ↦ beyond n p (omega (arith, above)) ]
]
  where
    beyond : (n p : ℕ) → n ≤ p → is_in (replicate n false) p ≡ false
    beyond n p past = get_or_past (replicate n false) p false (subst (λ k. k ≤ p) (sym (length-replicate n false)) past)

pub none_of : (s : List Bool) (n : ℕ) → s ≡ replicate n false → (p : ℕ) → is_in s p ≡ false
none_of s n is p = ap (λ l. is_in l p) is ∙ none_in n p
