-- Lists in order, with one item more or less.
use Rattle.std.proofs.Common.{◌≡◌, ◌≢◌, ℕ, zero, suc, Bool, true, false, cond, eqb, ◌+◌, ◌<◌, List, [], ◌∷◌, length, refl, sym, ap, ◌∙◌, subst, inl, inr, arith, slice_index_or, take, drop, insert, remove, eq-eqb, eqb-true}
use Rattle.std.specs.List.{list_any}
use Rattle.std.specs.declared.cmp.Ordering.{Ordering}
use Rattle.std.specs.declared.cmp.Ordering.TheVariants.{Less, Equal, Greater}
use Rattle.std.specs.Ordering.{ordering_reverse}
use Rattle.std.specs.Cmp.{IsTotalOrder}
use Rattle.std.proofs.lemmas.Bool.{cases_eq, or_cases, both_ways, false≢true, false_from_ne_true, cond-true, cond-false}
use Rattle.std.proofs.lemmas.List.{take-append-drop, take_more}
use Rattle.row_links.specs.Lists.{IsOn, AreOnce, without}
use Rattle.row_links.proofs.Lists.{IsOn-first, IsOn-rest, IsOn-append_left, IsOn-append_right, IsOn-append_cases}
use Rattle.undo_rows.proofs.Listing.{IsOn-without}
use Rattle.std.proofs.Math.Seq.{drop-length}
use Rattle.occ_tree.proofs.InTurn.{drop_at}
use Rattle.occ_tree.specs.Tokens.{IsInOrder, IsPlaceFor}

-- ---- items of a list

pub on_front : (i : ℕ) (xs : List ℕ) (y : ℕ) → IsOn (take i xs) y → IsOn xs y
on_front i xs y on = subst (λ l. IsOn l y) (take-append-drop i xs) (IsOn-append_left (take i xs) (drop i xs) y on)

pub on_back : (i : ℕ) (xs : List ℕ) (y : ℕ) → IsOn (drop i xs) y → IsOn xs y
on_back i xs y on = subst (λ l. IsOn l y) (take-append-drop i xs) (IsOn-append_right (take i xs) (drop i xs) y on)

pub on_one : (y z : ℕ) → IsOn (z ∷ []) y → y ≡ z
on_one y z on = elim (or_cases (eqb y z) false on) [
  | inl same ↦ eqb-true y z same
  | inr none ↦ absurd (false≢true none)
]

module _ (x : ℕ) where
  pub insert-cases : (i : ℕ) (xs : List ℕ) (y : ℕ) → y ≢ x → IsOn (insert xs i x) y → IsOn xs y
  insert-cases i xs y other on =
      elim (IsOn-append_cases (take i xs) (x ∷ drop i xs) y on) [
        | inl front ↦ on_front i xs y front
        | inr rest ↦ elim (or_cases (eqb y x) (list_any (eqb y) (drop i xs)) rest) [
          | inl same ↦ absurd (other (eqb-true y x same))
          | inr back ↦ on_back i xs y back
        ]
      ]

  pub insert-on : (i : ℕ) (xs : List ℕ) (y : ℕ) → IsOn xs y → IsOn (insert xs i x) y
  insert-on i xs y on =
      elim (IsOn-append_cases (take i xs) (drop i xs) y (subst (λ l. IsOn l y) (sym (take-append-drop i xs)) on)) [
        | inl front ↦ IsOn-append_left (take i xs) (x ∷ drop i xs) y front
        | inr back ↦ IsOn-append_right (take i xs) (x ∷ drop i xs) y (IsOn-rest y x (drop i xs) back)
      ]

  pub insert-itself : (i : ℕ) (xs : List ℕ) → IsOn (insert xs i x) x
  insert-itself i xs = IsOn-append_right (take i xs) (x ∷ drop i xs) x (IsOn-first x (drop i xs))

-- ---- a list in order

module _ (cmp : ℕ → ℕ → Ordering) (total : IsTotalOrder cmp) where
  itself : (x : ℕ) → cmp x x ≡ Less → ⊥
  itself x less = let turned : Less ≡ Greater = sym less ∙ total.antisymm x x ∙ ap ordering_reverse less in cc

  pub once : (xs : List ℕ) → IsInOrder cmp xs → AreOnce xs
  once [] sorted = tt
  once (x ∷ xs) (first, rest) = (false_from_ne_true (list_any (eqb x) xs) (λ on. itself x (first x on)), once xs rest)

  -- what stands before a place, and behind it
  pub front_less : (xs : List ℕ) (i y : ℕ) → IsInOrder cmp xs → i < length xs → IsOn (take i xs) y → cmp y (slice_index_or xs i 0) ≡ Less
  front_less [] i y sorted within on = absurd (let few : i < 0 = within in omega arith)
  front_less (z ∷ xs) zero y sorted within on = absurd (false≢true on)
  front_less (z ∷ xs) (suc i) y (first, rest) within on =
      let few : i < length xs = (let all : suc i < suc (length xs) = within in omega arith) in
      elim (or_cases (eqb y z) (list_any (eqb y) (take i xs)) on) [
        | inl same ↦ subst (λ q. cmp q (slice_index_or xs i 0) ≡ Less) (sym (eqb-true y z same)) (first (slice_index_or xs i 0) (on_at xs i few))
        | inr front ↦ front_less xs i y rest few front
      ]
    where
      on_at : (ys : List ℕ) (k : ℕ) → k < length ys → IsOn ys (slice_index_or ys k 0)
      on_at [] k within = absurd (let few : k < 0 = within in omega arith)
      on_at (w ∷ ys) zero within = IsOn-first w ys
      on_at (w ∷ ys) (suc k) within = IsOn-rest (slice_index_or ys k 0) w ys (on_at ys k (let few : suc k < suc (length ys) = within in omega arith))

  pub back_more : (xs : List ℕ) (i y : ℕ) → IsInOrder cmp xs → i < length xs → IsOn (drop (i + 1) xs) y → cmp (slice_index_or xs i 0) y ≡ Less
  back_more [] i y sorted within on = absurd (let few : i < 0 = within in omega arith)
  back_more (z ∷ xs) zero y (first, rest) within on = first y on
  back_more (z ∷ xs) (suc i) y (first, rest) within on =
      back_more xs i y rest (let few : suc i < suc (length xs) = within in omega arith) (subst (λ n. IsOn (drop n (z ∷ xs)) y) (let e : suc i + 1 ≡ suc (i + 1) = omega arith in e) on)

  -- ---- a place by halving

  pub before_more : (xs : List ℕ) (x i : ℕ) → IsInOrder cmp xs → i < length xs → cmp (slice_index_or xs i 0) x ≡ Less → (y : ℕ) → IsOn (take (i + 1) xs) y → cmp y x ≡ Less
  before_more xs x i sorted within less y on =
      elim (IsOn-append_cases (take i xs) (slice_index_or xs i 0 ∷ []) y (subst (λ l. IsOn l y) (take_more xs i 0 within) on)) [
        | inl front ↦ total.trans y (slice_index_or xs i 0) x (front_less xs i y sorted within front) less
        | inr here ↦ subst (λ z. cmp z x ≡ Less) (sym (on_one y (slice_index_or xs i 0) here)) less
      ]

  pub after_more : (xs : List ℕ) (x i : ℕ) → IsInOrder cmp xs → i < length xs → cmp (slice_index_or xs i 0) x ≢ Less → (y : ℕ) → IsOn (drop i xs) y → cmp y x ≢ Less
  after_more xs x i sorted within no_less y on less =
      elim (or_cases (eqb y (slice_index_or xs i 0)) (list_any (eqb y) (drop (i + 1) xs)) (subst (λ l. IsOn l y) (drop_next xs i within) on)) [
        | inl here ↦ no_less (subst (λ z. cmp z x ≡ Less) (eqb-true y (slice_index_or xs i 0) here) less)
        | inr back ↦ no_less (total.trans (slice_index_or xs i 0) y x (back_more xs i y sorted within back) less)
      ]
    where
      drop_next : (ys : List ℕ) (k : ℕ) → k < length ys → drop k ys ≡ slice_index_or ys k 0 ∷ drop (k + 1) ys
      drop_next [] k within = absurd (let few : k < 0 = within in omega arith)
      drop_next (w ∷ ys) zero within = refl
      drop_next (w ∷ ys) (suc k) within =
          drop_next ys k (let few : suc k < suc (length ys) = within in omega arith)
          ∙ (let e : suc (k + 1) ≡ suc k + 1 = omega arith in ap (λ n. slice_index_or ys k 0 ∷ drop n (w ∷ ys)) e)

  -- all are before what the last one is before
  pub all_before : (xs : List ℕ) (x i : ℕ) → IsInOrder cmp xs → i + 1 ≡ length xs → cmp (slice_index_or xs i 0) x ≡ Less → IsPlaceFor cmp xs x (length xs)
  all_before xs x i sorted last less = record {
    within = omega arith;
    before = λ y on. before_more xs x i sorted (omega (arith, last)) less y (subst (λ n. IsOn (take n xs) y) (sym last) on);
    after = λ y on. absurd (false≢true (subst (λ l. IsOn l y) (drop-length xs) on));
  }

  -- the place of the last one
  pub last_place : (xs : List ℕ) (x i : ℕ) → IsInOrder cmp xs → i + 1 ≡ length xs → slice_index_or xs i 0 ≡ x → IsPlaceFor cmp xs x i
  last_place xs x i sorted last is = record {
    within = omega (arith, last);
    before = λ y on. subst (λ z. cmp y z ≡ Less) is (front_less xs i y sorted (omega (arith, last)) on);
    after = λ y on less. elim (or_cases (eqb y (slice_index_or xs i 0)) (list_any (eqb y) (drop (i + 1) xs)) (subst (λ l. IsOn l y) (drop_at xs i 0 (omega (arith, last))) on)) [
      | inl same ↦ itself x (subst (λ z. cmp z x ≡ Less) (eqb-true y (slice_index_or xs i 0) same ∙ is) less)
      | inr none ↦ false≢true (subst (λ l. IsOn l y) (ap (λ n. drop n xs) last ∙ drop-length xs) none)
    ];
  }

  -- ---- one item more

  pub insert_ordered : (xs : List ℕ) (i x : ℕ) → IsInOrder cmp xs → ((y : ℕ) → IsOn (take i xs) y → cmp y x ≡ Less) → ((y : ℕ) → IsOn (drop i xs) y → cmp x y ≡ Less) → IsInOrder cmp (insert xs i x)
  insert_ordered xs zero x sorted before after = (after, sorted)
  insert_ordered [] (suc i) x sorted before after = (λ y on. absurd (false≢true on), tt)
  insert_ordered (z ∷ xs) (suc i) x (first, rest) before after = (
    λ y on. elim (cases_eq y x) [
      | inl same ↦ subst (λ q. cmp z q ≡ Less) (sym same) (before z (IsOn-first z (take i xs)))
      | inr other ↦ first y (insert-cases x i xs y other on)
    ],
    insert_ordered xs i x rest (λ y on. before y (IsOn-rest y z (take i xs) on)) after,
  )

  -- what is not before another, and does not tie with it, is behind it
  pub turned : (x y : ℕ) → cmp y x ≢ Less → (cmp y x ≡ Equal → ⊥) → cmp x y ≡ Less
  turned x y no_less no_tie = total.antisymm x y ∙ by (cmp y x) refl
    where
      by : (o : Ordering) → cmp y x ≡ o → ordering_reverse (cmp y x) ≡ Less
      by Less is = absurd (no_less is)
      by Equal is = absurd (no_tie is)
      by Greater is = ap ordering_reverse is

  -- ---- one item less

  pub without_ordered : (xs : List ℕ) (x : ℕ) → IsInOrder cmp xs → IsInOrder cmp (without x xs)
  without_ordered [] x sorted = tt
  without_ordered (z ∷ xs) x (first, rest) = by (without_ordered xs x rest) (eqb x z)
    where
      by : IsInOrder cmp (without x xs) → (t : Bool) → IsInOrder cmp (cond t xs (z ∷ without x xs))
      by left true = rest
      by left false = (λ y on. first y (IsOn-without x xs y on), left)

  -- the place for an item that is there is its own
  pub place_is : (xs : List ℕ) (x i : ℕ) → IsInOrder cmp xs → IsOn xs x → IsPlaceFor cmp xs x i → (i < length xs) × (slice_index_or xs i 0 ≡ x)
  place_is xs x i sorted on place =
      elim (IsOn-append_cases (take i xs) (drop i xs) x (subst (λ l. IsOn l x) (sym (take-append-drop i xs)) on)) [
        | inl front ↦ absurd (itself x (place.before x front))
        | inr back ↦ here xs i sorted back place.after
      ]
    where
      here : (ys : List ℕ) (k : ℕ) → IsInOrder cmp ys → IsOn (drop k ys) x → ((y : ℕ) → IsOn (drop k ys) y → cmp y x ≢ Less) → (k < length ys) × (slice_index_or ys k 0 ≡ x)
      here [] zero sorted there after = absurd (false≢true there)
      here [] (suc k) sorted there after = absurd (false≢true there)
      here (z ∷ ys) zero (first, rest) there after = (
        omega arith,
        elim (cases_eq x z) [
          | inl same ↦ sym same
          | inr other ↦ elim (or_cases (eqb x z) (list_any (eqb x) ys) there) [
            | inl same ↦ absurd (other (eqb-true x z same))
            | inr later ↦ absurd (after z (IsOn-first z ys) (first x later))
          ]
        ],
      )
      here (z ∷ ys) (suc k) (first, rest) there after = let (within, is) = here ys k rest there after in (omega (arith, within), is)

pub remove-without : (xs : List ℕ) (i x : ℕ) → AreOnce xs → i < length xs → slice_index_or xs i 0 ≡ x → remove xs i ≡ without x xs
remove-without [] i x once within is = absurd (let few : i < 0 = within in omega arith)
remove-without (y ∷ xs) zero x once within is = sym (cond-true (eqb x y) xs (y ∷ without x xs) (eq-eqb x y (sym is)))
remove-without (y ∷ xs) (suc i) x (new, once) within is =
    let few : i < length xs = (let all : suc i < suc (length xs) = within in omega arith) in
    let on = on_at xs i few in
    let other : eqb x y ≡ false = false_from_ne_true (eqb x y) (λ same. both_ways (list_any (eqb y) xs) new (subst (IsOn xs) (is ∙ eqb-true x y same) on)) in
    ap (λ (l : List ℕ). y ∷ l) (remove-without xs i x once few is) ∙ sym (cond-false (eqb x y) xs (y ∷ without x xs) other)
  where
    on_at : (ys : List ℕ) (k : ℕ) → k < length ys → IsOn ys (slice_index_or ys k 0)
    on_at [] k within = absurd (let few : k < 0 = within in omega arith)
    on_at (w ∷ ys) zero within = IsOn-first w ys
    on_at (w ∷ ys) (suc k) within = IsOn-rest (slice_index_or ys k 0) w ys (on_at ys k (let few : suc k < suc (length ys) = within in omega arith))

pub ordered_same : (cmp new : ℕ → ℕ → Ordering) (xs : List ℕ) → ((y z : ℕ) → IsOn xs y → IsOn xs z → new y z ≡ cmp y z) → IsInOrder cmp xs → IsInOrder new xs
ordered_same cmp new [] same sorted = tt
ordered_same cmp new (x ∷ xs) same (first, rest) = (
  λ y on. same x y (IsOn-first x xs) (IsOn-rest y x xs on) ∙ first y on,
  ordered_same cmp new xs (λ y z y_on z_on. same y z (IsOn-rest y x xs y_on) (IsOn-rest z x xs z_on)) rest,
)
