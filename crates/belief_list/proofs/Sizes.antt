-- The size of a map, as the sum of what its rows count, number by number.
use Rattle.std.proofs.Common.{◌≡◌, ◌≢◌, ◌∙◌, ℕ, zero, suc, ◌+◌, ◌<◌, ◌≤◌, ◌==◌, Bool, true, false, List, [], ◌∷◌, length, refl, sym, ap, subst, inl, inr, arith, nat_eq}
use Rattle.std.specs.Prelude.{Option, Some, None, sum_by}
use Rattle.std.specs.List.{All, AllByRecursion, IsDistinct}
use Rattle.std.proofs.lemmas.Bool.{cases_eq, cases_lt}
use Rattle.std.proofs.lemmas.Bool.Decides.{Decides-eqb}
use Rattle.std.proofs.lemmas.List.{get_or_past}
use Rattle.std.proofs.lemmas.List.Elements.{All-head, All-tail}
use Rattle.std.proofs.lemmas.List.Sums.{sum_by-cons}
use Rattle.std.proofs.lemmas.Map.Keys.{IsDistinct-head, IsDistinct-tail}
use Rattle.tmm_model.specs.declared.premise.Edit.{Edit}
use Rattle.tmm_model.specs.Answers.{size}
use Rattle.tmm_model.specs.Maps.{built}
use Rattle.tmm_model.specs.Standing.{Standing}
use Rattle.premise_list.specs.States.{States}
use Rattle.dist_net.specs.Net.{Net, Nets}
use Rattle.spots.specs.Forest.{Forest, Member, member, IsLive}
use Rattle.spots.specs.OfLists.{IsForestOf, HasOccurrences}
use Rattle.spots.proofs.Nodes.{node_at, live_at}
use Rattle.occ_tree.specs.Standing.{Kept, forest, present}
use Rattle.supports.specs.Edited.{old_forest}
use Rattle.projection.specs.Queues.{weight_at}
use Rattle.projection.proofs.Sized.{AreCounted, none_counted, dead_counted, live_counted, all_counted}
use Rattle.belief_list.specs.declared.kept_rows.KeptRow.{KeptRow}
use Rattle.belief_list.specs.declared.kept_rows.Difference.{Difference}
use Rattle.belief_list.specs.KeptRows.{row_under, rows_after, numbers_of, AreRowsOf, AreDifferences}
use Rattle.belief_list.specs.Sizes.{weight_kept}

-- what the rows under the numbers below n count together
abbrev pub total : (ℕ → Option KeptRow) → ℕ → ℕ
total rows zero = 0
total rows (suc n) = total rows n + weight_kept (rows n)

-- ---- rows of which one changed

module _ (old new : ℕ → Option KeptRow) where
  total_same : (n : ℕ) → ((x : ℕ) → x < n → old x ≡ new x) → total old n ≡ total new n
  total_same zero same = refl
  total_same (suc n) same =
      let rest = total_same n (λ x below. same x (omega (arith, below))) in
      let here : weight_kept (old n) ≡ weight_kept (new n) = ap weight_kept (same n (omega arith)) in
      omega (arith, rest, here)

  total_changed : (k : ℕ) → ((x : ℕ) → x ≢ k → old x ≡ new x) → (n : ℕ) → k < n → total new n + weight_kept (old k) ≡ total old n + weight_kept (new k)
  total_changed k same zero within = absurd (omega (arith, within))
  total_changed k same (suc n) within = elim (cases_eq k n) [
    | inl here ↦
        let rest = total_same n (λ x below. same x (λ is. omega (arith, below, is, here))) in
        let was : weight_kept (old k) ≡ weight_kept (old n) = ap (λ x. weight_kept (old x)) here in
        let now : weight_kept (new k) ≡ weight_kept (new n) = ap (λ x. weight_kept (new x)) here in
        omega (arith, rest, was, now)
    | inr apart ↦
        let rest = total_changed k same n (omega (arith, within, apart)) in
        let last : weight_kept (old n) ≡ weight_kept (new n) = ap weight_kept (same n (λ is. apart (sym is))) in
        omega (arith, rest, last)
  ]

-- ---- rows after differences

same_number : (x y : ℕ) → x ≡ y → (x == y) ≡ true
same_number x y = (Decides-eqb x y).1

other_number : (x y : ℕ) → x ≢ y → (x == y) ≡ false
other_number x y apart = by (x == y) refl
  where
    by : (b : Bool) → (x == y) ≡ b → (x == y) ≡ false
    by true e = absurd (apart ((Decides-eqb x y).0 e))
    by false e = e

module _ (kept : List (Option KeptRow)) where
  -- the first difference of a node counts
  pub first_counts : (d : Difference) (ds : List Difference) (x : ℕ) → x ≡ d.node → rows_after kept (d ∷ ds) x ≡ d.now
  first_counts d ds x is = ap (λ b. elim b as (λ _. Option KeptRow) [ true ↦ d.now | false ↦ rows_after kept ds x ]) (same_number x d.node is)

  pub later_count : (d : Difference) (ds : List Difference) (x : ℕ) → x ≢ d.node → rows_after kept (d ∷ ds) x ≡ rows_after kept ds x
  later_count d ds x apart = ap (λ b. elim b as (λ _. Option KeptRow) [ true ↦ d.now | false ↦ rows_after kept ds x ]) (other_number x d.node apart)

  -- nothing changes where no difference is
  unchanged : (x : ℕ) (ds : List Difference) → AllByRecursion (λ y. nat_eq x y ≡ false) (numbers_of ds) → rows_after kept ds x ≡ row_under kept x
  unchanged x [] none = refl
  unchanged x (d ∷ ds) none =
      ap (λ b. elim b as (λ _. Option KeptRow) [ true ↦ d.now | false ↦ rows_after kept ds x ]) none.0
      ∙ unchanged x ds none.1

  -- above every number that has a row, before or after
  limit : List Difference → ℕ
  limit [] = length kept
  limit (d ∷ ds) = d.node + 1 + limit ds

  -- **What counted before is taken away, and what counts now is added.**
  total_after : (ds : List Difference) → All (λ d. d.was ≡ row_under kept d.node) ds → IsDistinct nat_eq (numbers_of ds) → (n : ℕ) → limit ds ≤ n
      → total (rows_after kept ds) n + sum_by (λ d. weight_kept d.was) ds ≡ total (row_under kept) n + sum_by (λ d. weight_kept d.now) ds
  unfolding limit
  total_after [] were once n within = refl
  total_after (d ∷ ds) were once n within =
      let rest = total_after ds (All-tail (λ d. d.was ≡ row_under kept d.node) d ds were) (IsDistinct-tail nat_eq d.node (numbers_of ds) once) n (omega (arith, within)) in
      let one = total_changed (rows_after kept ds) (rows_after kept (d ∷ ds)) d.node (λ x apart. sym (later_count d ds x apart)) n (omega (arith, within)) in
      let was : weight_kept (rows_after kept ds d.node) ≡ weight_kept d.was =
      ap weight_kept (unchanged d.node ds (IsDistinct-head nat_eq d.node (numbers_of ds) once) ∙ sym (All-head (λ d. d.was ≡ row_under kept d.node) d ds were)) in
      let now : weight_kept (rows_after kept (d ∷ ds) d.node) ≡ weight_kept d.now = ap weight_kept (first_counts d ds d.node refl) in
      let sum_was = sum_by-cons (λ (e : Difference). weight_kept e.was) d ds in
      let sum_now = sum_by-cons (λ (e : Difference). weight_kept e.now) d ds in
      omega (arith, rest, one, was, now, sum_was, sum_now)

  -- no row stands at the limit or above
  kept_below : (x : ℕ) (r : KeptRow) → row_under kept x ≡ Some r → x < length kept
  kept_below x r is = elim (cases_lt x (length kept)) [
    | inl below ↦ below
    | inr past ↦ let none : row_under kept x ≡ None = get_or_past kept x None past in absurd (cc (none, is))
  ]

  before_below : (ds : List Difference) (x : ℕ) → x < length kept → x < limit ds
  unfolding limit
  before_below [] x below = below
  before_below (d ∷ ds) x below = let rest = before_below ds x below in omega (arith, rest)

  after_below : (ds : List Difference) (x : ℕ) (r : KeptRow) → rows_after kept ds x ≡ Some r → x < limit ds
  unfolding limit
  after_below [] x r is = kept_below x r is
  after_below (d ∷ ds) x r is = elim (cases_eq x d.node) [
    | inl here ↦ omega (arith, here)
    | inr apart ↦ let rest = after_below ds x r (sym (later_count d ds x apart) ∙ is) in omega (arith, rest)
  ]

-- ---- the size of a map

module _ (s : Standing) (net : Net) (f : Forest) (seen : IsForestOf s net f) (rows : ℕ → Option KeptRow) (are : AreRowsOf s f rows) where
  counted_below : (n : ℕ) → AreCounted s f n (total rows n)
  counted_below zero = none_counted s f
  counted_below (suc n) =
      let next : n + 1 ≡ suc n = omega arith in
      subst (λ k. AreCounted s f k (total rows (suc n))) next (by (counted_below n) (member f n) refl)
    where
      by : AreCounted s f n (total rows n) → (o : Option Member) → member f n ≡ o → AreCounted s f (n + 1) (total rows (suc n))
      by before None none =
          let no_weight : weight_kept (rows n) ≡ 0 = ap weight_kept (are.none n none) in
          let same : total rows n ≡ total rows (suc n) = omega (arith, no_weight) in
          subst (AreCounted s f (n + 1)) same (dead_counted s f n (total rows n) dead before)
        where
          dead : IsLive f n → ⊥
          dead live = let (m, there) = node_at f n live in let no : Some m ≡ None = sym there ∙ none in absurd (cc (no))
      by before (Some m) there =
          let live = live_at f n m there in
          let (r, is, row) = are.own n live in
          let weight_is : weight_kept (rows n) ≡ weight_at s f n = ap weight_kept is ∙ row.weight in
          let same : total rows n + weight_at s f n ≡ total rows (suc n) = omega (arith, weight_is) in
          subst (AreCounted s f (n + 1)) same (live_counted s net f seen n (total rows n) live before)

  -- the rows count as much as the map
  total_is : HasOccurrences (built s).believed f → (n : ℕ) → ((x : ℕ) → IsLive f x → x < n) → total rows n ≡ size (built s)
  total_is holds n last = all_counted s net f seen holds n (total rows n) last (counted_below n)

-- **What counts after an edit**, and what counted before of the nodes that differ, is what counted
-- before it and what counts now of them.
pub size_changed : (lists : States) (nets : Nets) (edit : Edit) (tree : Kept) (kept : List (Option KeptRow)) (ds : List Difference) → AreDifferences lists nets edit tree kept ds
    → size (built lists.present) + sum_by (λ d. weight_kept d.was) ds ≡ size (built lists.committed) + sum_by (λ d. weight_kept d.now) ds
size_changed lists nets edit tree kept ds made =
    let n = limit kept ds in
    let before = total_is lists.committed nets.committed (old_forest tree) made.edited.seen_then (row_under kept) made.before made.edited.holds_then n
    (λ x live. (let (r, is, row) = made.before.own x live in before_below kept ds x (kept_below kept x r is))) in
    let after = total_is lists.present nets.present (forest (present tree)) made.edited.seen_now (rows_after kept ds) made.after made.edited.holds_now n
    (λ x live. (let (r, is, row) = made.after.own x live in after_below kept ds x r is)) in
    let changed = total_after kept ds made.were made.once n (omega arith) in
    omega (arith, before, after, changed)
