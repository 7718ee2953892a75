-- Classes under their places, and a class more.
use Rattle.std.proofs.Common.{◌≡◌, ℕ, suc, Bool, true, false, cond, ◌+◌, ◌<◌, ◌≤◌, List, [], ◌∷◌, ◌++◌, length, Option, Some, None, refl, sym, ap, ◌∙◌, arith, slice_index_or}
use Rattle.std.specs.List.{list_any, position_from}
use Rattle.std.specs.Prelude.{if◌then◌else◌, ◌||◌}
use Rattle.std.specs.Cmp.Lexicographic.{nat_list_eq_equiv, bytes_decides}
use Rattle.std.proofs.lemmas.Bool.{false≢true}
use Rattle.std.proofs.lemmas.Iterator.Adapters.{position_from-zero}
use Rattle.std.proofs.lemmas.List.{append-nil}
use Rattle.tmm_model.specs.Points.{same_name}
use Rattle.occ_tree.specs.Classes.{place_in, HaveMore, IsNumberOf}

module _ {X : Type 0} (test : X → Bool) where
  from_none : (i : ℕ) (xs : List X) → list_any test xs ≡ true → position_from test i xs ≡ None → ⊥
  from_none i [] some none = false≢true some
  from_none i (x ∷ xs) some none = by (test x) (from_none (i + 1) xs) some none
    where
      by : (t : Bool) → (list_any test xs ≡ true → position_from test (i + 1) xs ≡ None → ⊥) → (t || list_any test xs) ≡ true → cond t (Some i) (position_from test (i + 1) xs) ≡ None → ⊥
      by true again some none = absurd (cc)
      by false again some none = again some none

  from_push : (i : ℕ) (xs : List X) (y : X) → position_from test i xs ≡ None → test y ≡ true → position_from test i (xs ++ y ∷ []) ≡ Some (i + length xs)
  from_push i [] y none passes = ap (λ t. cond t (Some i) None) passes ∙ (let e : i ≡ i + 0 = omega arith in ap (λ n. Some n) e)
  from_push i (x ∷ xs) y none passes = by (test x) (λ rest. from_push (i + 1) xs y rest passes) none
    where
      by : (t : Bool) → (position_from test (i + 1) xs ≡ None → position_from test (i + 1) (xs ++ y ∷ []) ≡ Some (i + 1 + length xs)) → cond t (Some i) (position_from test (i + 1) xs) ≡ None → cond t (Some i) (position_from test (i + 1) (xs ++ y ∷ [])) ≡ Some (i + suc (length xs))
      by true again none = absurd (cc)
      by false again none = again none ∙ (let e : i + 1 + length xs ≡ i + suc (length xs) = omega arith in ap (λ n. Some n) e)

  from_least : (i : ℕ) (xs : List X) (k : ℕ) → position_from test i xs ≡ Some k → i ≤ k
  from_least i [] k at = absurd (cc)
  from_least i (x ∷ xs) k at = by (test x) (from_least (i + 1) xs k) at
    where
      by : (t : Bool) → (position_from test (i + 1) xs ≡ Some k → i + 1 ≤ k) → cond t (Some i) (position_from test (i + 1) xs) ≡ Some k → i ≤ k
      by true again at = let same : i ≡ k = cc in omega (arith, same)
      by false again at = let less = again at in omega (arith, less)

  from_within : (i : ℕ) (xs : List X) (k : ℕ) → position_from test i xs ≡ Some k → k < i + length xs
  from_within i [] k at = absurd (cc)
  from_within i (x ∷ xs) k at = by (test x) (from_within (i + 1) xs k) at
    where
      by : (t : Bool) → (position_from test (i + 1) xs ≡ Some k → k < i + 1 + length xs) → cond t (Some i) (position_from test (i + 1) xs) ≡ Some k → k < i + suc (length xs)
      by true again at = let same : i ≡ k = cc in omega (arith, same)
      by false again at = let less = again at in omega (arith, less)

  -- where others follow
  from_more : (i : ℕ) (xs ys : List X) (k : ℕ) → position_from test i xs ≡ Some k → position_from test i (xs ++ ys) ≡ Some k
  from_more i [] ys k at = absurd (cc)
  from_more i (x ∷ xs) ys k at = by (test x) (from_more (i + 1) xs ys k) at
    where
      by : (t : Bool) → (position_from test (i + 1) xs ≡ Some k → position_from test (i + 1) (xs ++ ys) ≡ Some k) → cond t (Some i) (position_from test (i + 1) xs) ≡ Some k → cond t (Some i) (position_from test (i + 1) (xs ++ ys)) ≡ Some k
      by true again at = at
      by false again at = again at

  from_behind : (i : ℕ) (xs ys : List X) (k : ℕ) → position_from test i xs ≡ None → position_from test i (xs ++ ys) ≡ Some k → i + length xs ≤ k
  from_behind i [] ys k none at = let less = from_least i ys k at in omega (arith, less)
  from_behind i (x ∷ xs) ys k none at = by (test x) (from_behind (i + 1) xs ys k) none at
    where
      by : (t : Bool) → (position_from test (i + 1) xs ≡ None → position_from test (i + 1) (xs ++ ys) ≡ Some k → i + 1 + length xs ≤ k) → cond t (Some i) (position_from test (i + 1) xs) ≡ None → cond t (Some i) (position_from test (i + 1) (xs ++ ys)) ≡ Some k → i + suc (length xs) ≤ k
      by true again none at = absurd (cc)
      by false again none at = let less = again none at in omega (arith, less)

-- two classes of one place are one
one_from : (i : ℕ) (names : List (List ℕ)) (a b : List ℕ) (k : ℕ) → position_from (same_name a) i names ≡ Some k → position_from (same_name b) i names ≡ Some k → a ≡ b
one_from i [] a b k at_a at_b = absurd (cc)
one_from i (n ∷ names) a b k at_a at_b = by (same_name a n) (same_name b n) refl refl (one_from (i + 1) names a b k) at_a at_b
  where
    by : (s t : Bool) → same_name a n ≡ s → same_name b n ≡ t → (position_from (same_name a) (i + 1) names ≡ Some k → position_from (same_name b) (i + 1) names ≡ Some k → a ≡ b)
        → cond s (Some i) (position_from (same_name a) (i + 1) names) ≡ Some k → cond t (Some i) (position_from (same_name b) (i + 1) names) ≡ Some k → a ≡ b
    by true true is_a is_b again at_a at_b = (bytes_decides a n).0 is_a ∙ sym ((bytes_decides b n).0 is_b)
    by true false is_a is_b again at_a at_b = absurd (let same : i ≡ k = cc in let less = from_least (same_name b) (i + 1) names k at_b in omega (arith, same, less))
    by false true is_a is_b again at_a at_b = absurd (let same : i ≡ k = cc in let less = from_least (same_name a) (i + 1) names k at_a in omega (arith, same, less))
    by false false is_a is_b again at_a at_b = again at_a at_b

pub one_class : (names : List (List ℕ)) (a b : List ℕ) (k : ℕ) → place_in names a ≡ Some k → place_in names b ≡ Some k → a ≡ b
one_class names a b k at_a at_b = one_from 0 names a b k (sym (position_from-zero (same_name a) names) ∙ at_a) (sym (position_from-zero (same_name b) names) ∙ at_b)

pub place_within : (names : List (List ℕ)) (class : List ℕ) (k : ℕ) → place_in names class ≡ Some k → k < length names
place_within names class k at = let less = from_within (same_name class) 0 names k (sym (position_from-zero (same_name class) names) ∙ at) in omega (arith, less)

-- ---- more classes

pub place_stays : (names new : List (List ℕ)) → HaveMore names new → (class : List ℕ) (k : ℕ) → place_in names class ≡ Some k → place_in new class ≡ Some k
place_stays names new (more, is) class k at =
    ap (λ l. place_in l class) is ∙ position_from-zero (same_name class) (names ++ more) ∙ from_more (same_name class) 0 names more k (sym (position_from-zero (same_name class) names) ∙ at)

-- a class that had no place has none among those of before
pub place_behind : (names new : List (List ℕ)) → HaveMore names new → (class : List ℕ) (k : ℕ) → place_in names class ≡ None → place_in new class ≡ Some k → length names ≤ k
place_behind names new (more, is) class k none at =
    let less = from_behind (same_name class) 0 names more k (sym (position_from-zero (same_name class) names) ∙ none) (sym (ap (λ l. place_in l class) is ∙ position_from-zero (same_name class) (names ++ more)) ∙ at) in
    omega (arith, less)

pub number_stays : (names new : List (List ℕ)) → HaveMore names new → (class : Option (List ℕ)) (number : Option ℕ) → IsNumberOf names class number → IsNumberOf new class number
number_stays names new more None number is = is
number_stays names new more (Some class) number (k, is, at) = (k, is, place_stays names new more class k at)

pub no_more : (names : List (List ℕ)) → HaveMore names names
no_more names = ([], sym (append-nil names))

-- a class that had no place is last
pub placed_last : (names new : List (List ℕ)) (class : List ℕ) → place_in names class ≡ None → new ≡ (if list_any (same_name class) names then names else (names ++ class ∷ [])) → place_in new class ≡ Some (length names)
placed_last names new class none is = by (list_any (same_name class) names) refl is
  where
    from : position_from (same_name class) 0 names ≡ None
    from = sym (position_from-zero (same_name class) names) ∙ none

    by : (t : Bool) → list_any (same_name class) names ≡ t → new ≡ (if t then names else (names ++ class ∷ [])) → place_in new class ≡ Some (length names)
    by true some same = absurd (from_none (same_name class) 0 names some from)
    by false new_one same =
        ap (λ l. place_in l class) same ∙ position_from-zero (same_name class) (names ++ class ∷ [])
        ∙ from_push (same_name class) 0 names class from (nat_list_eq_equiv.refl class)
        ∙ (let e : 0 + length names ≡ length names = omega arith in ap (λ n. Some n) e)

-- the name under a number that was given is the one to which it was given
named_from : (i : ℕ) (names : List (List ℕ)) (n : List ℕ) (k : ℕ) → position_from (same_name n) i names ≡ Some k → (j : ℕ) × (k ≡ i + j) × (slice_index_or names j [] ≡ n)
named_from i [] n k at = absurd (cc)
named_from i (m ∷ names) n k at = by (same_name n m) refl (named_from (i + 1) names n k) at
  where
    by : (t : Bool) → same_name n m ≡ t → (position_from (same_name n) (i + 1) names ≡ Some k → (j : ℕ) × (k ≡ i + 1 + j) × (slice_index_or names j [] ≡ n))
        → cond t (Some i) (position_from (same_name n) (i + 1) names) ≡ Some k → (j : ℕ) × (k ≡ i + j) × (slice_index_or (m ∷ names) j [] ≡ n)
    by true is again at = let same : i ≡ k = cc in (0, omega (arith, same), sym ((bytes_decides n m).0 is))
    by false is again at = let (j, here, name) = again at in (suc j, omega (arith, here), name)

pub placed_name : (names : List (List ℕ)) (n : List ℕ) (k : ℕ) → place_in names n ≡ Some k → slice_index_or names k [] ≡ n
placed_name names n k at =
    let (j, is, name) = named_from 0 names n k (sym (position_from-zero (same_name n) names) ∙ at) in
    let same : k ≡ j = omega (arith, is) in
    ap (λ z. slice_index_or names z []) same ∙ name
