-- Entries in order are the rows of the timeline.
use Rattle.std.proofs.Common.{◌≡◌, ◌∙◌, ℕ, zero, suc, ◌<◌, Bool, true, false, List, [], ◌∷◌, map, length, refl, sym, ap, subst, inl, inr, arith}
use Rattle.std.specs.Prelude.{slice_index_or}
use Rattle.std.specs.List.{IsDistinct, AllByRecursion}
use Rattle.std.specs.List.Sorted.{IsPermutation, IsSorted}
use Rattle.std.specs.declared.cmp.Ordering.{Ordering}
use Rattle.std.specs.declared.cmp.Ordering.TheVariants.{Less, Equal, Greater}
use Rattle.std.specs.Ordering.{is_lt, ordering_reverse, ordering_then, int_cmp, nat_cmp}
use Rattle.std.specs.Cmp.Lexicographic.{slice_cmp}
use Rattle.std.proofs.lemmas.Bool.Decides.{same_from_decides, Decides-like}
use Rattle.std.proofs.lemmas.List.{get_or-map, length-map}
use Rattle.std.proofs.lemmas.List.Elements.{Contains-get_or}
use Rattle.std.proofs.lemmas.List.MinMax.{ranks_by}
use Rattle.std.proofs.lemmas.List.Sorted.{sorted_far, Contains-permutation, IsPermutation-sym, IsPermutation-map}
use Rattle.std.proofs.lemmas.Map.Keys.{apart_from_distinct, IsDistinct-IsPermutation}
use Rattle.tmm_model.specs.declared.timeline.Dated.{Dated}
use Rattle.tmm_model.specs.Firsts.{sorted}
use Rattle.tmm_model.specs.Maps.{built, order}
use Rattle.tmm_model.specs.Moments.{Moment, same_moment}
use Rattle.tmm_model.specs.Standing.{Standing, far_in}
use Rattle.list_theory.specs.WellNamed.{IsSound}
use Rattle.list_theory.proofs.Distinct.{Distinct, Rising, one_order}
use Rattle.list_theory.proofs.Elements.{In, In-map, In-from_Contains, Contains-from_In}
use Rattle.belief_theory.specs.Right.{Occurs}
use Rattle.belief_theory.proofs.Moments.{Decides-same_moment}
use Rattle.belief_theory.proofs.Order.{IsSpelt, total, ordered}
use Rattle.belief_theory.proofs.Sorts.{sorted_in, sorted_rising}
use Rattle.belief_theory.proofs.Spelt.{spelt}
use Rattle.timeline.specs.declared.entry.Entry.{Entry}
use Rattle.timeline.specs.Days.{date, played, played_row, played_rows}
use Rattle.timeline.specs.Entries.{AreEntries, IsEntry, IsInOrder, entry_cmp, entry_total, occurs_in}
use Rattle.timeline.specs.Told.{row_of}
use Rattle.timeline.proofs.Once.{known_occurs, known_once}

-- ---- lists without repeats, as sorting keeps them

flips : (x y : Moment) → same_moment x y ≡ same_moment y x
flips x y = same_from_decides (same_moment x y) (same_moment y x) (Decides-same_moment x y) (Decides-like (same_moment y x) sym sym (Decides-same_moment y x))

differ : (x y : Moment) → (x ≡ y → ⊥) → same_moment x y ≡ false
differ x y apart = by (same_moment x y) refl
  where
    by : (b : Bool) → same_moment x y ≡ b → same_moment x y ≡ false
    by true e = absurd (apart ((Decides-same_moment x y).0 e))
    by false e = e

differ_all : (x : Moment) (xs : List Moment) → (In x xs → ⊥) → AllByRecursion (λ y. same_moment x y ≡ false) xs
differ_all x [] out = tt
differ_all x (y ∷ ys) out = (differ x y (λ e. out (inl (sym e))), differ_all x ys (λ at. out (inr at)))

to_IsDistinct : (xs : List Moment) → Distinct xs → IsDistinct same_moment xs
unfolding IsDistinct
to_IsDistinct [] d = tt
to_IsDistinct (x ∷ xs) d = (differ_all x xs d.0, to_IsDistinct xs d.1)

-- what is made of the members rises where it does at each two of them
rising_map : (cmp : Moment → Moment → Ordering) (es : List Entry) → ((i j : ℕ) (d : Entry) → i < j → j < length es → cmp (occurs_in (slice_index_or es i d)) (occurs_in (slice_index_or es j d)) ≡ Less) → Rising cmp (map occurs_in es)
rising_map cmp [] pairs = tt
rising_map cmp (x ∷ xs) pairs = (
  λ y at. (
      let (e, there, is) = In-map occurs_in xs y at in
      let (k, below, here) = Contains-from_In xs e there in
      subst (λ z. cmp (occurs_in x) z ≡ Less) is (subst (λ z. cmp (occurs_in x) (occurs_in z) ≡ Less) here (pairs zero (suc k) e (omega arith) (omega arith)))
      ),
  rising_map cmp xs (λ i j d less below. pairs (suc i) (suc j) d (omega arith) (omega arith)),
)

-- ---- entries in order

module _ (s : Standing) (sound : IsSound s) (entries es : List Entry) (permutation : IsPermutation entries es) (up : IsSorted entry_cmp es) (all : AreEntries (built s) entries) where
  permuted : IsPermutation (map occurs_in entries) (map occurs_in es)
  permuted = IsPermutation-map occurs_in entries es permutation

  one : (e : Entry) → In e es → IsEntry (built s) e
  one e at = all.each e (In-from_Contains entries e (Contains-permutation es entries e (IsPermutation-sym entries es permutation) (Contains-from_In es e at)))

  once : IsDistinct same_moment (map occurs_in es)
  once = IsDistinct-IsPermutation same_moment flips (map occurs_in entries) (map occurs_in es) permuted (to_IsDistinct (map occurs_in entries) all.once)

  dated : (e : Entry) → In e es → e.dated.date ≡ date (built s) (occurs_in e)
  dated e at = ap (λ r. r.date) (one e at).row

  agrees : (p q : Entry) → In p es → In q es → entry_cmp p q ≡ order (built s) (occurs_in p) (occurs_in q)
  agrees p q at_p at_q = λ i. ordering_then (int_cmp (dated p at_p i) (dated q at_q i)) (slice_cmp nat_cmp ((one p at_p).word i) ((one q at_q).word i))

  spelt_at : (x : Moment) → Occurs s x → IsSpelt x
  spelt_at x occurs = spelt s sound.well_formed x occurs

  pair : (i j : ℕ) (d : Entry) → i < j → j < length es → order (built s) (occurs_in (slice_index_or es i d)) (occurs_in (slice_index_or es j d)) ≡ Less
  pair i j d less below = by (order (built s) (occurs_in p) (occurs_in q)) refl
    where
      p : Entry
      p = slice_index_or es i d

      q : Entry
      q = slice_index_or es j d

      at_p : In p es
      at_p = In-from_Contains es p (Contains-get_or es i d (omega arith))

      at_q : In q es
      at_q = In-from_Contains es q (Contains-get_or es j d below)

      not_after : is_lt (entry_cmp q p) ≡ false
      not_after = sorted_far (λ a b. is_lt (entry_cmp a b)) (ranks_by entry_total (λ (e : Entry). e)) es up i j d (omega arith) below

      apart : same_moment (occurs_in p) (occurs_in q) ≡ false
      apart =
          (λ k. same_moment (sym (get_or-map occurs_in es i d (occurs_in d) (omega arith)) k) (sym (get_or-map occurs_in es j d (occurs_in d) below) k))
          ∙ apart_from_distinct same_moment (map occurs_in es) i j (occurs_in d) once less (subst (λ n. j < n) (sym (length-map es occurs_in)) below)

      by : (r : Ordering) → order (built s) (occurs_in p) (occurs_in q) ≡ r → order (built s) (occurs_in p) (occurs_in q) ≡ Less
      by Less e = e
      by Equal e =
          let same : occurs_in p ≡ occurs_in q = (ordered s (far_in s.premises)).strict (occurs_in p) (occurs_in q) (spelt_at (occurs_in p) (one p at_p).occurs) (spelt_at (occurs_in q) (one q at_q).occurs) e in
          let t : same_moment (occurs_in p) (occurs_in q) ≡ true = (Decides-same_moment (occurs_in p) (occurs_in q)).1 same in
          let f = apart in
          cc
      by Greater e =
          let t : is_lt (entry_cmp q p) ≡ true = ap is_lt (agrees q p at_q at_p ∙ (total s (far_in s.premises)).antisymm (occurs_in q) (occurs_in p) ∙ ap ordering_reverse e) in
          let f = not_after in
          cc

  one_way : (x y : Moment) → order (built s) x y ≡ Less → order (built s) y x ≡ Less → ⊥
  one_way x y h g =
      let turned : Less ≡ ordering_reverse Less = sym h ∙ (total s (far_in s.premises)).antisymm x y ∙ ap ordering_reverse g in
      cc

  occurrences : map occurs_in es ≡ sorted (order (built s)) (played (built s))
  occurrences =
      one_order (order (built s)) one_way (map occurs_in es) (sorted (order (built s)) (played (built s)))
      (rising_map (order (built s)) es pair)
      (sorted_rising (ordered s (far_in s.premises)) (played (built s)) (λ x at. spelt_at x (known_occurs s sound (suc s.horizon) x at)) (known_once s sound (suc s.horizon)))
      (λ x at. (sorted_in (ordered s (far_in s.premises)) (played (built s)) x).1
      (all.into x (In-from_Contains (map occurs_in entries) x (Contains-permutation (map occurs_in es) (map occurs_in entries) x (IsPermutation-sym (map occurs_in entries) (map occurs_in es) permuted) (Contains-from_In (map occurs_in es) x at)))))
      (λ x at. In-from_Contains (map occurs_in es) x
      (Contains-permutation (map occurs_in entries) (map occurs_in es) x permuted (Contains-from_In (map occurs_in entries) x (all.back x ((sorted_in (ordered s (far_in s.premises)) (played (built s)) x).0 at)))))

rows_told : (s : Standing) (xs : List Entry) → ((e : Entry) → In e xs → IsEntry (built s) e) → map row_of (map (λ e. e.dated) xs) ≡ map (played_row (built s) (played (built s))) (map occurs_in xs)
rows_told s [] each = refl
rows_told s (x ∷ xs) each = λ i. (each x (inl refl)).row i ∷ rows_told s xs (λ e at. each e (inr at)) i

pub in_order : (s : Standing) → IsSound s → (entries : List Entry) (rows : List Dated) → AreEntries (built s) entries → IsInOrder entries rows → map row_of rows ≡ played_rows (built s)
in_order s sound entries rows all told =
    ap (map row_of) told.rows ∙ rows_told s told.sorted (one s sound entries told.sorted told.permutation told.in_order all)
    ∙ ap (map (played_row (built s) (played (built s)))) (occurrences s sound entries told.sorted told.permutation told.in_order all)
