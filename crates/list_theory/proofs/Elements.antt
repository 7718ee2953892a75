-- Members of lists, by recursion.
use Rattle.std.proofs.Common.{◌≡◌, ℕ, zero, suc, Bool, true, false, ◌&&◌, ◌||◌, List, [], ◌∷◌, ◌++◌, refl, sym, ◌∙◌, ap, subst, inl, inr, arith}
use Rattle.std.proofs.lemmas.Bool.{or_right}
use Rattle.std.specs.Prelude.{Option, Some, None, IsSome, ◌⊎◌, filter, map, cond, slice_get}
use Rattle.std.specs.List.{Contains, AllByRecursion, list_any, list_all, filter_map, cons_option, flat_map}

-- x is in the list
abbrev pub In : {X : Type 0} → X → List X → Type 0
In x [] = ⊥
In x (y ∷ ys) = (y ≡ x) ⊎ In x ys

pub In-from_Contains : {X : Type 0} (xs : List X) (x : X) → Contains xs x → In x xs
In-from_Contains [] x (k, lt, e) = absurd (omega arith)
In-from_Contains (y ∷ ys) x (zero, lt, e) = inl e
In-from_Contains (y ∷ ys) x (suc k, lt, e) = inr (In-from_Contains ys x (k, omega arith, e))

pub Contains-from_In : {X : Type 0} (xs : List X) (x : X) → In x xs → Contains xs x
Contains-from_In [] x h = absurd h
Contains-from_In (y ∷ ys) x (inl e) = (0, omega arith, e)
Contains-from_In (y ∷ ys) x (inr h) = let (k, lt, e) = Contains-from_In ys x h in (suc k, omega arith, e)

pub In-slice_get : {X : Type 0} (xs : List X) (i : ℕ) (x : X) → slice_get xs i ≡ Some x → In x xs
In-slice_get [] i x e = cc
In-slice_get (y ∷ xs) zero x e = inl cc
In-slice_get (y ∷ xs) (suc i) x e = inr (In-slice_get xs i x e)

-- the value that is there
pub some_value : {X : Type 0} (o : Option X) → IsSome o → (x : X) × (o ≡ Some x)
some_value None h = cc
some_value (Some x) h = (x, refl)

-- both tests pass where their conjunction does
pub both : (a b : Bool) → (a && b) ≡ true → (a ≡ true) × (b ≡ true)
both true true h = (refl, refl)
both true false h = cc
both false b h = cc

-- an element that passes, where the test of some element passes
pub list_any-In : {X : Type 0} (p : X → Bool) (xs : List X) → list_any p xs ≡ true → (x : X) × In x xs × (p x ≡ true)
list_any-In p [] h = cc
list_any-In {X} p (y ∷ ys) h = by (list_any-In p ys) (p y) refl h
  where
    by : (list_any p ys ≡ true → (x : X) × In x ys × (p x ≡ true)) → (b : Bool) → p y ≡ b → (b || list_any p ys) ≡ true → (x : X) × In x (y ∷ ys) × (p x ≡ true)
    by again true e t = (y, inl refl, e)
    by again false e t = let (x, at, passes) = again t in (x, inr at, passes)

pub In-list_any : {X : Type 0} (p : X → Bool) (xs : List X) (x : X) → In x xs → p x ≡ true → list_any p xs ≡ true
In-list_any p [] x h e = absurd h
In-list_any p (y ∷ ys) x (inl q) e = let first : p y ≡ true = subst (λ z. p z ≡ true) (sym q) e in rw first refl
In-list_any p (y ∷ ys) x (inr h) e = or_right (p y) (list_any p ys) (In-list_any p ys x h e)

pub list_all-In : {X : Type 0} (p : X → Bool) (xs : List X) → list_all p xs ≡ true → (x : X) → In x xs → p x ≡ true
list_all-In p [] h x at = absurd at
list_all-In p (y ∷ ys) h x (inl is) = subst (λ z. p z ≡ true) is (both (p y) (list_all p ys) h).0
list_all-In p (y ∷ ys) h x (inr at) = list_all-In p ys (both (p y) (list_all p ys) h).1 x at

-- what holds of all holds of a member
pub each_in : {X : Type 0} (P : X → Type 0) (xs : List X) → AllByRecursion P xs → (x : X) → In x xs → P x
each_in P [] h x at = absurd at
each_in P (y ∷ ys) h x (inl is) = subst P is h.0
each_in P (y ∷ ys) h x (inr at) = each_in P ys h.1 x at

-- what a filter_map has comes of a member, and the other way round
pub In-filter_map : {X Y : Type 0} (h : X → Option Y) (xs : List X) (y : Y) → In y (filter_map h xs) → (x : X) × In x xs × (h x ≡ Some y)
In-filter_map h [] y at = absurd at
In-filter_map {X} {Y} h (x ∷ xs) y at = by (λ at. let (z, there, e) = In-filter_map h xs y at in (z, inr there, e)) (h x) refl at
  where
    by : (In y (filter_map h xs) → (z : X) × In z (x ∷ xs) × (h z ≡ Some y)) → (o : Option Y) → h x ≡ o → In y (cons_option o (filter_map h xs)) → (z : X) × In z (x ∷ xs) × (h z ≡ Some y)
    by again None e at = again at
    by again (Some z) e (inl q) = (x, inl refl, e ∙ ap Some q)
    by again (Some z) e (inr at) = again at

pub filter_map-In : {X Y : Type 0} (h : X → Option Y) (xs : List X) (x : X) (y : Y) → In x xs → h x ≡ Some y → In y (filter_map h xs)
filter_map-In h [] x y at e = absurd at
filter_map-In h (z ∷ zs) x y (inl q) e =
    let first : h z ≡ Some y = ap h q ∙ e in
    subst (λ o. In y (cons_option o (filter_map h zs))) (sym first) (inl refl)
filter_map-In h (z ∷ zs) x y (inr at) e = by (h z) (filter_map-In h zs x y at e)
  where
    by : (o : Option _) → In y (filter_map h zs) → In y (cons_option o (filter_map h zs))
    by None at = at
    by (Some w) at = inr at

pub In-left : {X : Type 0} (xs ys : List X) (x : X) → In x xs → In x (xs ++ ys)
In-left [] ys x at = absurd at
In-left (z ∷ zs) ys x (inl q) = inl q
In-left (z ∷ zs) ys x (inr at) = inr (In-left zs ys x at)

pub In-right : {X : Type 0} (xs ys : List X) (x : X) → In x ys → In x (xs ++ ys)
In-right [] ys x at = at
In-right (z ∷ zs) ys x at = inr (In-right zs ys x at)

pub In-cases : {X : Type 0} (xs ys : List X) (x : X) → In x (xs ++ ys) → In x xs ⊎ In x ys
In-cases [] ys x at = inr at
In-cases (z ∷ zs) ys x (inl q) = inl (inl q)
In-cases (z ∷ zs) ys x (inr at) = elim (In-cases zs ys x at) [ inl l ↦ inl (inr l) | inr r ↦ inr r ]

pub In-flat_map : {X Y : Type 0} (f : X → List Y) (xs : List X) (y : Y) → In y (flat_map f xs) → (x : X) × In x xs × In y (f x)
In-flat_map f [] y at = absurd at
In-flat_map f (x ∷ xs) y at =
    elim (In-cases (f x) (flat_map f xs) y at) [
      | inl l ↦ (x, inl refl, l)
      | inr r ↦ let (z, there, here) = In-flat_map f xs y r in (z, inr there, here)
    ]

pub flat_map-In : {X Y : Type 0} (f : X → List Y) (xs : List X) (x : X) (y : Y) → In x xs → In y (f x) → In y (flat_map f xs)
flat_map-In f [] x y at here = absurd at
flat_map-In f (z ∷ zs) x y (inl q) here = In-left (f z) (flat_map f zs) y (subst (λ w. In y (f w)) (sym q) here)
flat_map-In f (z ∷ zs) x y (inr at) here = In-right (f z) (flat_map f zs) y (flat_map-In f zs x y at here)

pub In-map : {X Y : Type 0} (f : X → Y) (xs : List X) (y : Y) → In y (map f xs) → (x : X) × In x xs × (f x ≡ y)
In-map f [] y at = absurd at
In-map f (x ∷ xs) y (inl q) = (x, inl refl, q)
In-map f (x ∷ xs) y (inr at) = let (z, there, e) = In-map f xs y at in (z, inr there, e)

pub map-In : {X Y : Type 0} (f : X → Y) (xs : List X) (x : X) → In x xs → In (f x) (map f xs)
map-In f [] x at = absurd at
map-In f (z ∷ zs) x (inl q) = inl (ap f q)
map-In f (z ∷ zs) x (inr at) = inr (map-In f zs x at)

pub In-filter : {X : Type 0} (p : X → Bool) (xs : List X) (x : X) → In x (filter p xs) → In x xs × (p x ≡ true)
In-filter p [] x at = absurd at
In-filter {X} p (z ∷ zs) x at = by (λ at. let (there, e) = In-filter p zs x at in (inr there, e)) (p z) refl at
  where
    by : (In x (filter p zs) → In x (z ∷ zs) × (p x ≡ true)) → (r : Bool) → p z ≡ r → In x (cond r (z ∷ filter p zs) (filter p zs)) → In x (z ∷ zs) × (p x ≡ true)
    by again true e (inl q) = (inl q, ap p (sym q) ∙ e)
    by again true e (inr at) = again at
    by again false e at = again at

pub filter-In : {X : Type 0} (p : X → Bool) (xs : List X) (x : X) → In x xs → p x ≡ true → In x (filter p xs)
filter-In p [] x at e = absurd at
filter-In p (z ∷ zs) x (inl q) e =
    let first : p z ≡ true = ap p q ∙ e in
    subst (λ r. In x (cond r (z ∷ filter p zs) (filter p zs))) (sym first) (inl q)
filter-In p (z ∷ zs) x (inr at) e = by (p z) (filter-In p zs x at e)
  where
    by : (r : Bool) → In x (filter p zs) → In x (cond r (z ∷ filter p zs) (filter p zs))
    by true at = inr at
    by false at = at
