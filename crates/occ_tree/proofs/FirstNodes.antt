-- The numbers of nodes, one after the other.
use Rattle.std.proofs.Common.{◌≡◌, ℕ, ◌+◌, ◌<◌, ◌==◌, Bool, true, false, List, [], ◌∷◌, ◌++◌, refl, sym, subst, inl, arith}
use Rattle.std.specs.Prelude.{nat_eq}
use Rattle.std.specs.List.{All, Contains, IsDistinct, list_any}
use Rattle.std.proofs.lemmas.Bool.Decides.{Decides-eqb}
use Rattle.std.proofs.lemmas.Cmp.{nat_eq_equiv}
use Rattle.std.proofs.lemmas.List.Elements.{All-contains, All-nil, All-push}
use Rattle.std.proofs.lemmas.Map.Keys.{IsDistinct-push}
use Rattle.list_theory.proofs.Elements.{In-left, In-right, list_any-In, In-from_Contains, Contains-from_In}
use Rattle.spots.specs.Forest.{Forest, IsLive}

-- these are the nodes below n
pub record AreFirst (f : Forest) (xs : List ℕ) (n : ℕ) : Type 0 where
  pub live : All (IsLive f) xs
  pub below : All (λ x. x < n) xs
  pub all : (x : ℕ) → x < n → IsLive f x → Contains xs x
  pub once : IsDistinct nat_eq xs

none_once : IsDistinct nat_eq []
unfolding IsDistinct
none_once = tt

pub first_none : (f : Forest) (xs : List ℕ) → xs ≡ [] → AreFirst f xs 0
first_none f xs none = subst (λ l. AreFirst f l 0) (sym none) (record {
  live = All-nil (IsLive f);
  below = All-nil (λ (x : ℕ). x < 0);
  all = λ x low. absurd (omega arith);
  once = none_once;
})

pub first_skip : (f : Forest) (xs : List ℕ) (n : ℕ) → (IsLive f n → ⊥) → AreFirst f xs n → AreFirst f xs (n + 1)
first_skip f xs n dead first = record {
  live = first.live;
  below = λ k d h. let l = first.below k d h in omega arith;
  all = λ x low live. by x low live (x == n) refl;
  once = first.once;
}
  where
    by : (x : ℕ) → x < n + 1 → IsLive f x → (b : Bool) → (x == n) ≡ b → Contains xs x
    by x low live true e = absurd (dead (subst (IsLive f) ((Decides-eqb x n).0 e) live))
    by x low live false e = let ne : x ≡ n → ⊥ = λ same. let t : (x == n) ≡ true = (Decides-eqb x n).1 same in cc in first.all x (omega arith) live

pub first_more : (f : Forest) (xs more : List ℕ) (n : ℕ) → more ≡ xs ++ n ∷ [] → IsLive f n → AreFirst f xs n → AreFirst f more (n + 1)
first_more f xs more n grown alive first = subst (λ l. AreFirst f l (n + 1)) (sym grown) (record {
  live = All-push (IsLive f) xs n first.live alive;
  below = All-push (λ (x : ℕ). x < n + 1) xs n (λ k d h. let l = first.below k d h in omega arith) (omega arith);
  all = λ x low live. by x low live (x == n) refl;
  once = IsDistinct-push nat_eq_equiv xs n first.once (new (list_any (nat_eq n) xs) refl);
})
  where
    by : (x : ℕ) → x < n + 1 → IsLive f x → (b : Bool) → (x == n) ≡ b → Contains (xs ++ n ∷ []) x
    by x low live true e = Contains-from_In (xs ++ n ∷ []) x (In-right xs (n ∷ []) x (inl (sym ((Decides-eqb x n).0 e))))
    by x low live false e =
        let ne : x ≡ n → ⊥ = λ same. let t : (x == n) ≡ true = (Decides-eqb x n).1 same in cc in
        Contains-from_In (xs ++ n ∷ []) x (In-left xs (n ∷ []) x (In-from_Contains xs x (first.all x (omega arith) live)))

    new : (b : Bool) → list_any (nat_eq n) xs ≡ b → list_any (nat_eq n) xs ≡ false
    new false e = e
    new true e =
        let (x, there, same) = list_any-In (nat_eq n) xs e in
        let one : n ≡ x = (Decides-eqb n x).0 same in
        let low : x < n = All-contains (λ (y : ℕ). y < n) xs x first.below (Contains-from_In xs x there) in
        absurd (omega arith)
