-- Dates that rise, and the first of them that is later than another one.
use Rattle.std.proofs.Common.{◌≡◌, ◌∙◌, ℕ, ◌<◌, ◌≤◌, Bool, true, false, List, length, Bor, refl, sym, inl, inr, arith}
use Rattle.std.proofs.lemmas.Bool.{cases_lt}
use Rattle.std.proofs.lemmas.Cmp.{int_ranked, int_cmp_total}
use Rattle.std.proofs.lemmas.Int.{ints}
use Rattle.std.proofs.lemmas.List.{get_or_default}
use Rattle.std.proofs.lemmas.List.Sorted.{sorted_far, ranks_by}
use Rattle.std.specs.Prelude.{ℤ, ◌<ℤ◌, ◌≤ℤ◌, int_le, Option, Some, None, slice_index_or}
use Rattle.std.specs.List.{Contains}
use Rattle.std.specs.List.Sorted.{IsSorted, IsPartitionedBy, IsPartitionPoint}
use Rattle.std.specs.Option.{option_copied}
use Rattle.std.specs.Ordering.{int_cmp, is_lt, MatchOrdering}
use Rattle.std.specs.Slice.{IsItemAt}
use Rattle.std.specs.declared.cmp.Ordering.{Ordering}
use Rattle.std.specs.declared.cmp.Ordering.TheVariants.{Less, Equal, Greater}
use Rattle.belief_list.specs.Finding.{AreRising, IsFirstAfter}

no_less : (x y : ℤ) → is_lt (int_cmp x y) ≡ false → y ≤ℤ x
no_less x y e = by (int_cmp x y) (int_ranked x y (int_cmp x y) refl) e
  where
    by : (r : Ordering) → MatchOrdering r (x <ℤ y) (x ≡ y) (y <ℤ x) → is_lt r ≡ false → y ≤ℤ x
    by Less h e = cc
    by Equal h e = omega (arith, ints, h)
    by Greater h e = omega (arith, ints, h)

-- what a sort makes of dates rises
pub sorted_rise : (dates : List ℤ) → IsSorted int_cmp dates → AreRising dates
sorted_rise dates up i j d le lt =
    no_less (slice_index_or dates j d) (slice_index_or dates i d) (sorted_far (λ x y. is_lt (int_cmp x y)) (ranks_by int_cmp_total (λ z. z)) dates up i j d le lt)

module _ (dates : List ℤ) (date : ℤ) (rise : AreRising dates) where
  -- no date that is later comes before one that is not
  pub parted : IsPartitionedBy (λ d. int_le d date) dates
  parted i j d le lt e = by (int_le (slice_index_or dates i d) date) refl
    where
      by : (t : Bool) → int_le (slice_index_or dates i d) date ≡ t → int_le (slice_index_or dates i d) date ≡ true
      by true f = f
      by false f = let up = rise i j d le lt in absurd (omega (arith, ints, e, f, up))

  -- **The item at the place from which on dates are later is the first of these.**
  pub first_after : (i : ℕ) → IsPartitionPoint (λ d. int_le d date ≡ true) (λ d. int_le d date ≡ false) dates i → (r : Option (Bor ℤ)) → IsItemAt dates i r → IsFirstAfter dates date (option_copied r)
  first_after i (before, behind) None at = none
    where
      none : (d : ℤ) → Contains dates d → d ≤ℤ date
      none d (k, lt, e) =
          let past : length dates ≤ i = at.3 in
          let low = before k d (omega arith) (omega (arith, lt, past)) in
          omega (arith, ints, low, e)
  first_after i (before, behind) (Some r) at = ((i, within, sym at.1), omega (arith, ints, at_r, behind i r.now (omega arith) within), least)
    where
      within : i < length dates
      within = at.3.0

      at_r : r.now ≡ slice_index_or dates i r.now
      at_r = at.1

      least : (d : ℤ) → Contains dates d → date <ℤ d → r.now ≤ℤ d
      least d (k, lt, e) later = elim (cases_lt k i) [
        | inl less ↦ (let low = before k d (omega arith) less in absurd (omega (arith, ints, low, e, later)))
        | inr more ↦ (
            let up = rise i k d more lt in
            let one = at_r ∙ get_or_default dates i r.now d within in
            omega (arith, ints, up, one, e))
      ]
