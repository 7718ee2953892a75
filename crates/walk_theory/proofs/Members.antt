-- Members of a list, and lists that have one member more.
use Rattle.std.proofs.Common.{◌≡◌, ◌⊎◌, inl, inr, List, [], ◌∷◌, ◌++◌, get_or, map, sym, subst, arith}
use Rattle.std.specs.List.{All, Contains}
use Rattle.std.specs.List.Sorted.{IsPermutation}
use Rattle.std.proofs.lemmas.List.Elements.{All-contains, Contains-get_or, Contains-append_cases, Contains-push_cases, Contains-append_left, Contains-append_right, Contains-push}
use Rattle.std.proofs.lemmas.List.Sorted.{Contains-permutation, IsPermutation-sym}
use Rattle.tmm_model.specs.Walks.{Arc}
use Rattle.walk_theory.specs.LeastWalks.{Adds}

module _ {X : Type 0} where
  pub All-from_contains : (F : X → Type 0) (xs : List X) → ((x : X) → Contains xs x → F x) → All F xs
  All-from_contains F xs h k d lt = h (get_or xs k d) (Contains-get_or xs k d lt)

  pub All-fewer : (F : X → Type 0) (old new : List X) → ((x : X) → Contains new x → Contains old x) → All F old → All F new
  All-fewer F old new sub all = All-from_contains F new (λ e m. All-contains F old e all (sub e m))

  pub Contains-cons_cases : (y : X) (xs : List X) (x : X) → Contains (y ∷ xs) x → Contains xs x ⊎ (x ≡ y)
  Contains-cons_cases y xs x m =
      elim (Contains-append_cases (y ∷ []) xs x m) [
        | inl k ↦ elim (Contains-push_cases [] y x k) [ inl none ↦ absurd (omega (arith, none.1)) | inr e ↦ inr (sym e) ]
        | inr k ↦ inl k
      ]

  pub Contains-cons : (y : X) (xs : List X) (x : X) → Contains xs x → Contains (y ∷ xs) x
  Contains-cons y xs x m = Contains-append_right (y ∷ []) xs x m

  pub Contains-cons_first : (y : X) (xs : List X) → Contains (y ∷ xs) y
  Contains-cons_first y xs = Contains-append_left (y ∷ []) xs y (Contains-push [] y)

module _ {X Y : Type 0} (f : X → Y) where
  pub Contains-map : (xs : List X) (x : X) → Contains xs x → Contains (map f xs) (f x)
  Contains-map [] x m = absurd (omega (arith, m.1))
  Contains-map (y ∷ xs) x m =
      elim (Contains-cons_cases y xs x m) [
        | inl k ↦ Contains-cons (f y) (map f xs) (f x) (Contains-map xs x k)
        | inr is ↦ subst (λ (z : X). Contains (f y ∷ map f xs) (f z)) (sym is) (Contains-cons_first (f y) (map f xs))
      ]

  -- what y is the image of
  pub Contains-map_from : (xs : List X) (y : Y) → Contains (map f xs) y → (x : X) × Contains xs x × (f x ≡ y)
  Contains-map_from [] y m = absurd (omega (arith, m.1))
  Contains-map_from (x ∷ xs) y m =
      elim (Contains-cons_cases (f x) (map f xs) y m) [
        | inl k ↦ (let r : (z : X) × Contains xs z × (f z ≡ y) = Contains-map_from xs y k in (r.0, Contains-cons x xs r.0 r.1, r.2))
        | inr is ↦ (x, Contains-cons_first x xs, sym is)
      ]

module _ {P : Type 0} where
  pub Adds-cons : (arcs : List (Arc P)) (e : Arc P) → Adds arcs e (e ∷ arcs)
  Adds-cons arcs e = record { kept = Contains-cons e arcs; added = Contains-cons_first e arcs; only = Contains-cons_cases e arcs }

  pub Adds-push : (arcs : List (Arc P)) (e : Arc P) → Adds arcs e (arcs ++ e ∷ [])
  Adds-push arcs e = record {
    kept = λ x m. Contains-append_left arcs (e ∷ []) x m;
    added = Contains-push arcs e;
    only = λ x m. elim (Contains-push_cases arcs e x m) [ inl k ↦ inl k | inr k ↦ inr (sym k) ];
  }

  -- a list that leaves e out, as after a removal
  pub Adds-from_permutation : (old new : List (Arc P)) (e : Arc P) → IsPermutation old (e ∷ new) → Adds new e old
  Adds-from_permutation old new e p = record {
    kept = λ x m. Contains-permutation (e ∷ new) old x (IsPermutation-sym old (e ∷ new) p) ((Adds-cons new e).kept x m);
    added = Contains-permutation (e ∷ new) old e (IsPermutation-sym old (e ∷ new) p) (Adds-cons new e).added;
    only = λ x m. Contains-cons_cases e new x (Contains-permutation old (e ∷ new) x p m);
  }
