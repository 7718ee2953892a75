-- Columns in groups, each of a first one and of others to which least ways lead over it.
use Rattle.std.proofs.Common.{◌≡◌, ◌∙◌, ◌⊎◌, inl, inr, ℕ, ◌+◌, ◌<◌, ◌≤◌, List, [], ◌∷◌, ◌++◌, length, take, drop, get_or, ap, sym, subst, arith, refl, ℤ, ◌+ℤ◌}
use Rattle.std.specs.List.{All, swap}
use Rattle.std.specs.List.Sorted.{IsPermutation}
use Rattle.std.proofs.lemmas.Bool.{cases_lt}
use Rattle.std.proofs.lemmas.Int.{ints}
use Rattle.std.proofs.lemmas.List.{get_or_append_left, get_or_at, length-append}
use Rattle.std.proofs.lemmas.List.Elements.{All-push}
use Rattle.std.proofs.lemmas.List.Edits.{Swapped, swapped_from_swap}
use Rattle.std.proofs.lemmas.List.Sorted.{IsPermutation-refl, IsPermutation-swap, IsPermutation-trans, length_permutation}
use Rattle.tmm_model.specs.declared.bound.Bound.{Bound}
use Rattle.tmm_model.specs.declared.bound.Bound.TheVariants.{Finite, Free}
use Rattle.tmm_model.specs.Bounds.{IfFinite, after, bound_plus}
use Rattle.walk_theory.specs.LeastWalks.{AtMost}
use Rattle.walk_theory.proofs.Bounds.{AtMost-weaker}
use Rattle.dist_net.specs.Net.{entry}
use Rattle.dist_net.proofs.Adding.{refilled}
use Rattle.dist_net.specs.Table.{AreDistances, AreNexts, AreSpared, IsNoShorter, IsOver}

-- ---- a way over a column

-- where no way to the column is shorter, none is to a number to which a least way leads over it
no_shorter_over : (way rest end bound other : Bound) (first : ℤ) → IfFinite end (AtMost (bound_plus way rest)) → ((s t : ℤ) → AtMost bound s → AtMost rest t → AtMost other (s +ℤ t)) →
    IfFinite (after first way) (AtMost bound) → IfFinite (after first end) (AtMost other)
no_shorter_over way rest Free bound other first over triangle none = tt
no_shorter_over (Finite x) (Finite y) (Finite z) bound other first over triangle none =
    AtMost-weaker other ((first +ℤ x) +ℤ y) (first +ℤ z) (triangle (first +ℤ x) y none (omega (arith, ints))) (omega (arith, ints))
no_shorter_over (Finite x) Free (Finite z) bound other first over triangle none = absurd over
no_shorter_over Free rest (Finite z) bound other first over triangle none = absurd over

pub AreSpared-nexts : (table : List Bound) (limit a to : ℕ) (columns nexts : List ℕ) → AreDistances table limit → a < 256 → to < 256 → All (λ b. b < 256) columns → length nexts ≡ length columns → AreNexts table to columns nexts → AreSpared table a to columns nexts
AreSpared-nexts table limit a to columns nexts distances in_a in_to below beside are = record {
  beside = beside;
  later = λ k lt. are.later k (omega (arith, lt, beside));
  spared = λ k j first lt lt_k lt_next lt_j none.
      (let p : ℕ = get_or columns k 0 in
      let b : ℕ = get_or columns j 0 in
      no_shorter_over (entry table to p) (entry table p b) (entry table to b) (entry table a p) (entry table a b) first (are.over k j (omega (arith, lt, beside)) lt_k lt_next lt_j) (λ s t. distances.triangle a p b s t in_a (below k 0 lt) (below j 0 lt_j)) none);
}

-- the same in a table with the same rows of a and `to`
pub AreSpared-same : (old new : List Bound) (a to : ℕ) (columns nexts : List ℕ) → ((b : ℕ) → b < 256 → entry new a b ≡ entry old a b) → ((b : ℕ) → b < 256 → entry new to b ≡ entry old to b) → All (λ b. b < 256) columns → AreSpared old a to columns nexts → AreSpared new a to columns nexts
AreSpared-same old new a to columns nexts row_same to_same below is = record {
  beside = is.beside;
  later = is.later;
  spared = λ k j first lt lt_k lt_next lt_j none.
      moved (get_or columns j 0) first (below j 0 lt_j) (is.spared k j first lt lt_k lt_next lt_j (back (get_or columns k 0) first (below k 0 lt) none));
}
  where
    back : (b : ℕ) (first : ℤ) → b < 256 → IsNoShorter new a to first b → IsNoShorter old a to first b
    back b first in_b none = subst (λ (x : Bound). IfFinite (after first x) (AtMost (entry old a b))) (to_same b in_b) (subst (λ (x : Bound). IfFinite (after first (entry new to b)) (AtMost x)) (row_same b in_b) none)

    moved : (b : ℕ) (first : ℤ) → b < 256 → IsNoShorter old a to first b → IsNoShorter new a to first b
    moved b first in_b none = subst (λ (x : Bound). IfFinite (after first x) (AtMost (entry new a b))) (sym (to_same b in_b)) (subst (λ (x : Bound). IfFinite (after first (entry old to b)) (AtMost x)) (sym (row_same b in_b)) none)

-- ---- columns moved

-- in the columns, of which those up to the place `first` stand where they stood, least ways to those
-- before `end` lead over that at `first`
pub record IsGathering (table : List Bound) (to : ℕ) (old columns : List ℕ) (first end : ℕ) : Type 0 where
  pub permutation : IsPermutation old columns
  pub kept : (k : ℕ) → k < first + 1 → get_or columns k 0 ≡ get_or old k 0
  pub over : (j : ℕ) → first < j → j < end → IsOver table to (get_or columns first 0) (get_or columns j 0)

pub IsGathering-start : (table : List Bound) (to : ℕ) (columns : List ℕ) (first : ℕ) → IsGathering table to columns columns first (first + 1)
IsGathering-start table to columns first = record { permutation = IsPermutation-refl columns; kept = λ k lt. refl; over = λ j lt le. absurd (omega arith) }

pub IsGathering-more : (table : List Bound) (to : ℕ) (old columns next : List ℕ) (first end place : ℕ) → IsGathering table to old columns first end → first < end → end ≤ place → place < length columns → next ≡ swap columns end place →
    IsOver table to (get_or columns first 0) (get_or columns place 0) → IsGathering table to old next first (end + 1)
IsGathering-more table to old columns next first end place is lt le in_columns moved over_place = record {
  permutation = IsPermutation-trans old columns next is.permutation (IsPermutation-swap columns next end place (omega (arith, le, in_columns)) in_columns moved);
  kept = λ k before. stays k (omega (arith, before, lt)) ∙ is.kept k before;
  over = λ j lt_j le_j.
      subst (λ (p : ℕ). IsOver table to p (get_or next j 0)) (sym (stays first lt))
      (elim (cases_lt j end) [
        | inl before ↦ subst (IsOver table to (get_or columns first 0)) (sym (stays j before)) (is.over j lt_j before)
        | inr at ↦ (let last : j ≡ end = omega (arith, at, le_j) in
            subst (λ (i : ℕ). IsOver table to (get_or columns first 0) (get_or next i 0)) (sym last) (subst (IsOver table to (get_or columns first 0)) (sym exchanged.0) over_place))
      ]);
}
  where
    exchanged : Swapped (λ i. get_or columns i 0) (λ i. get_or next i 0) end place
    exchanged = swapped_from_swap columns next end place 0 (omega (arith, le, in_columns)) in_columns moved

    stays : (k : ℕ) → k < end → get_or next k 0 ≡ get_or columns k 0
    stays k before = exchanged.2 k (λ same. absurd (omega (arith, before, same))) (λ same. absurd (omega (arith, before, le, same)))

-- a list of which all items were lent, and moved there, has them as they were moved
pub lent_moved : {X : Type 0} (old lent new : List X) (n : ℕ) → n ≡ length old → lent ≡ old → IsPermutation lent new → take n (new ++ drop (length new) old) ≡ new
lent_moved old lent new n is same order = refilled old new n is (length_permutation lent new order ∙ ap length same)

-- ---- group after group

-- no later place is after `end`
pub record AreNextsTo (table : List Bound) (to : ℕ) (columns nexts : List ℕ) (end : ℕ) : Type 0 where
  pub are : AreNexts table to columns nexts
  pub ended : All (λ n. n ≤ end) nexts

pub AreNextsTo-start : (table : List Bound) (to : ℕ) (columns nexts : List ℕ) (end : ℕ) → nexts ≡ [] → AreNextsTo table to columns nexts end
AreNextsTo-start table to columns nexts end none = record {
  are = record { later = λ k lt. absurd (none_in k lt); over = λ k j lt. absurd (none_in k lt) };
  ended = λ k d lt. absurd (none_in k lt);
}
  where
    none_in : (k : ℕ) → k < length nexts → ⊥
    none_in k lt = omega (arith, lt, ap length none)

pub AreNextsTo-more : (table : List Bound) (to : ℕ) (columns new nexts : List ℕ) (end next last : ℕ) → AreNextsTo table to columns nexts end → length new ≡ length columns → ((k : ℕ) → k < end → get_or new k 0 ≡ get_or columns k 0) →
    length nexts < next → ((j : ℕ) → length nexts < j → j < next → IsOver table to (get_or new (length nexts) 0) (get_or new j 0)) → end ≤ last → next ≤ last → AreNextsTo table to new (nexts ++ next ∷ []) last
AreNextsTo-more table to columns new nexts end next last is long kept later over le_end le_next = record {
  are = record {
    later = λ k lt. elim (place_is k lt) [
      | inl before ↦ subst (λ (n : ℕ). k < n) (sym (early k before)) (is.are.later k before)
      | inr same ↦ subst (λ (n : ℕ). k < n) (sym (at k same)) (omega (arith, later, same))
    ];
    over = λ k j lt lt_k lt_next lt_j. elim (place_is k lt) [
      | inl before ↦ (let lt_old : j < get_or nexts k 0 = subst (λ (n : ℕ). j < n) (early k before) lt_next in
          let j_end : j < end = omega (arith, lt_old, is.ended k 0 before) in
          subst (λ (p : ℕ). IsOver table to p (get_or new j 0)) (sym (kept k (omega (arith, lt_k, j_end))))
          (subst (IsOver table to (get_or columns k 0)) (sym (kept j j_end)) (is.are.over k j before lt_k lt_old (omega (arith, lt_j, long)))))
      | inr same ↦ subst (λ (i : ℕ). IsOver table to (get_or new i 0) (get_or new j 0)) (sym same) (over j (omega (arith, lt_k, same)) (subst (λ (n : ℕ). j < n) (at k same) lt_next))
    ];
  };
  ended = All-push (λ n. n ≤ last) nexts next (λ k d lt. omega (arith, is.ended k d lt, le_end)) le_next;
}
  where
    place_is : (k : ℕ) → k < length (nexts ++ next ∷ []) → (k < length nexts) ⊎ (k ≡ length nexts)
    place_is k lt = elim (cases_lt k (length nexts)) [ inl before ↦ inl before | inr past ↦ inr (omega (arith, lt, past, length-append nexts (next ∷ []))) ]

    early : (k : ℕ) → k < length nexts → get_or (nexts ++ next ∷ []) k 0 ≡ get_or nexts k 0
    early k lt = get_or_append_left nexts (next ∷ []) 0 k lt

    at : (k : ℕ) → k ≡ length nexts → get_or (nexts ++ next ∷ []) k 0 ≡ next
    at k same = get_or_at nexts next [] 0 k (sym same)
