-- Lists in rising order, by what is made of their members.
use Rattle.std.proofs.Common.{◌≡◌, ◌∙◌, ℕ, zero, suc, ◌<◌, Bool, true, false, List, [], ◌∷◌, map, length, refl, sym, ap, subst, inl, inr, arith}
use Rattle.std.specs.Prelude.{Option, Some, None, filter, cond, nat_eq, slice_index_or}
use Rattle.std.specs.List.{IsDistinct, filter_map, cons_option}
use Rattle.std.specs.List.Sorted.{IsSortedBy}
use Rattle.std.specs.declared.cmp.Ordering.{Ordering}
use Rattle.std.specs.declared.cmp.Ordering.TheVariants.{Less, Equal, Greater}
use Rattle.std.specs.Ordering.{is_lt, ordering_reverse}
use Rattle.std.specs.Cmp.{IsTotalOrder}
use Rattle.std.proofs.lemmas.Bool.Decides.{Decides-eqb}
use Rattle.std.proofs.lemmas.List.{get_or-map, length-map}
use Rattle.std.proofs.lemmas.List.Elements.{Contains-get_or}
use Rattle.std.proofs.lemmas.List.MinMax.{ranks_by}
use Rattle.std.proofs.lemmas.List.Sorted.{sorted_far}
use Rattle.std.proofs.lemmas.Map.Keys.{apart_from_distinct}
use Rattle.list_theory.proofs.Distinct.{Rising, one_order}
use Rattle.list_theory.proofs.Elements.{In, In-map, In-from_Contains, Contains-from_In, In-filter_map}

-- each before all that follow
rising_pairs : {X : Type 0} (cmp : X → X → Ordering) (xs : List X) → ((i j : ℕ) (d : X) → i < j → j < length xs → cmp (slice_index_or xs i d) (slice_index_or xs j d) ≡ Less) → Rising cmp xs
rising_pairs cmp [] pairs = tt
rising_pairs cmp (x ∷ xs) pairs = (
  λ y at. let (k, below, is) = Contains-from_In xs y at in subst (λ z. cmp x z ≡ Less) is (pairs zero (suc k) y (omega arith) (omega arith)),
  rising_pairs cmp xs (λ i j d less below. pairs (suc i) (suc j) d (omega arith) (omega arith)),
)

-- **A list that is sorted, in which only one number ties with itself, rises.**
pub rising_sorted : {X : Type 0} (cmp : X → X → Ordering) → IsTotalOrder cmp → (number : X → ℕ) (xs : List X) → IsSortedBy (λ p q. is_lt (cmp p q)) xs → IsDistinct nat_eq (map number xs)
    → ((p q : X) → In p xs → In q xs → cmp p q ≡ Equal → number p ≡ number q) → Rising cmp xs
rising_sorted {X} cmp total number xs up once ties = rising_pairs cmp xs pair
  where
    pair : (i j : ℕ) (d : X) → i < j → j < length xs → cmp (slice_index_or xs i d) (slice_index_or xs j d) ≡ Less
    pair i j d less below = by (cmp p q) refl
      where
        p : X
        p = slice_index_or xs i d

        q : X
        q = slice_index_or xs j d

        not_after : is_lt (cmp q p) ≡ false
        not_after = sorted_far (λ a b. is_lt (cmp a b)) (ranks_by total (λ (x : X). x)) xs up i j d (omega arith) below

        apart : nat_eq (number p) (number q) ≡ false
        apart =
            (λ k. nat_eq (sym (get_or-map number xs i d (number d) (omega arith)) k) (sym (get_or-map number xs j d (number d) below) k))
            ∙ apart_from_distinct nat_eq (map number xs) i j (number d) once less (subst (λ n. j < n) (sym (length-map xs number)) below)

        by : (r : Ordering) → cmp p q ≡ r → cmp p q ≡ Less
        by Less e = e
        by Equal e =
            let same = ties p q (In-from_Contains xs p (Contains-get_or xs i d (omega arith))) (In-from_Contains xs q (Contains-get_or xs j d below)) e in
            let t : nat_eq (number p) (number q) ≡ true = (Decides-eqb (number p) (number q)).1 same in
            let f = apart in
            cc
        by Greater e =
            let t : is_lt (cmp q p) ≡ true = ap is_lt (total.antisymm q p ∙ ap ordering_reverse e) in
            let f = not_after in
            cc

-- what is made of the members rises, where it keeps their order
pub rising_map : {X Y : Type 0} (cmp : X → X → Ordering) (order : Y → Y → Ordering) (g : X → Y) (xs : List X) → ((p q : X) → In p xs → In q xs → cmp p q ≡ Less → order (g p) (g q) ≡ Less) → Rising cmp xs → Rising order (map g xs)
rising_map cmp order g [] keeps up = tt
rising_map cmp order g (x ∷ xs) keeps up = (
  λ y at. let (q, there, is) = In-map g xs y at in subst (λ z. order (g x) z ≡ Less) is (keeps x q (inl refl) (inr there) (up.0 q there)),
  rising_map cmp order g xs (λ p q at_p at_q. keeps p q (inr at_p) (inr at_q)) up.1,
)

-- and so does what is made of some of them
pub rising_some : {X Y : Type 0} (cmp : X → X → Ordering) (order : Y → Y → Ordering) (h : X → Option Y) (xs : List X) → ((p q : X) (y z : Y) → In p xs → In q xs → h p ≡ Some y → h q ≡ Some z → cmp p q ≡ Less → order y z ≡ Less)
    → Rising cmp xs → Rising order (filter_map h xs)
rising_some cmp order h [] keeps up = tt
rising_some {X} {Y} cmp order h (x ∷ xs) keeps up = by (h x) refl (rising_some cmp order h xs (λ p q y z at_p at_q. keeps p q y z (inr at_p) (inr at_q)) up.1)
  where
    by : (o : Option Y) → h x ≡ o → Rising order (filter_map h xs) → Rising order (cons_option o (filter_map h xs))
    by None e rest = rest
    by (Some y) e rest = (λ z at. let (q, there, is) = In-filter_map h xs z at in keeps x q y z (inl refl) (inr there) e is (up.0 q there), rest)

-- what passes is what is left where the others are dropped
pub filter_some : {X : Type 0} (test : X → Bool) (xs : List X) → filter_map (λ x. elim (test x) as (λ _. Option X) [ true ↦ Some x | false ↦ None ]) xs ≡ filter test xs
filter_some test [] = refl
filter_some {X} test (x ∷ xs) = by (test x) (filter_some test xs)
  where
    by : (b : Bool) → filter_map (λ x. elim (test x) as (λ _. Option X) [ true ↦ Some x | false ↦ None ]) xs ≡ filter test xs
        → cons_option (elim b as (λ _. Option X) [ true ↦ Some x | false ↦ None ]) (filter_map (λ x. elim (test x) as (λ _. Option X) [ true ↦ Some x | false ↦ None ]) xs) ≡ cond b (x ∷ filter test xs) (filter test xs)
    by true rest = ap (λ l. x ∷ l) rest
    by false rest = rest

one_way : {K : Type 0} (order : K → K → Ordering) → IsTotalOrder order → (x y : K) → order x y ≡ Less → order y x ≡ Less → ⊥
one_way order total x y e g = let t : order y x ≡ Greater = total.antisymm y x ∙ ap ordering_reverse e in cc

module _ {K X Y : Type 0} (order : K → K → Ordering) (total : IsTotalOrder order) where
  -- **Two lists of which the same is told tell it in one order**, where both rise by what it is
  -- told of.
  pub same_told : (of : X → K) (key : Y → K) (xs : List X) (ks : List K) → Rising (λ p q. order (of p) (of q)) xs → Rising order ks → (h : X → Option Y) (g : K → Option Y)
      → ((x : X) (y : Y) → In x xs → h x ≡ Some y → key y ≡ of x) → ((k : K) (y : Y) → g k ≡ Some y → key y ≡ k)
      → ((x : X) (y : Y) → In x xs → h x ≡ Some y → In y (filter_map g ks)) → ((k : K) (y : Y) → In k ks → g k ≡ Some y → In y (filter_map h xs))
      → filter_map h xs ≡ filter_map g ks
  same_told of key xs ks up_x up_k h g own_h own_g into back =
      one_order (λ y z. order (key y) (key z)) (λ y z. one_way order total (key y) (key z)) (filter_map h xs) (filter_map g ks)
      (rising_some (λ p q. order (of p) (of q)) (λ y z. order (key y) (key z)) h xs (λ p q y z at_p at_q e f less. (λ i. order (own_h p y at_p e i) (own_h q z at_q f i)) ∙ less) up_x)
      (rising_some order (λ y z. order (key y) (key z)) g ks (λ k l y z at_k at_l e f less. (λ i. order (own_g k y e i) (own_g l z f i)) ∙ less) up_k)
      (λ y at. let (x, there, e) = In-filter_map h xs y at in into x y there e)
      (λ y at. let (k, there, e) = In-filter_map g ks y at in back k y there e)
