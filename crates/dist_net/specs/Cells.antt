-- A bound as one number.
use Rattle.std.specs.Prelude.{◌≡◌, refl, ℤ, pos, ◌≤ℤ◌, int_le, true, false, Bool}
use Rattle.std.proofs.Common.{arith}
use Rattle.std.proofs.lemmas.Int.{ints}
use Rattle.tmm_model.specs.declared.bound.Bound.{Bound}
use Rattle.tmm_model.specs.declared.bound.Bound.TheVariants.{Finite, Free}

-- the number itself, or none where it is too great
abbrev pub seen_by : Bool → ℤ → Bound
seen_by true n = Free
seen_by false n = Finite n

-- the bound for which a number stands
abbrev pub seen : ℤ → Bound
seen n = seen_by (int_le (pos 2305843009213693951) n) n

-- the number that stands for a bound
abbrev pub number_of : Bound → ℤ
number_of (Finite n) = n
number_of Free = pos 2305843009213693951

-- the number that stands for a bound in sums
abbrev pub addend_of : Bound → ℤ
addend_of (Finite n) = n
addend_of Free = pos 4611686018427387902

-- a number that is kept comes back from its bound
pub number_of-seen : (n : ℤ) → n ≤ℤ pos 2305843009213693951 → number_of (seen n) ≡ n
number_of-seen n le = by (int_le (pos 2305843009213693951) n) refl
  where
    by : (t : Bool) → int_le (pos 2305843009213693951) n ≡ t → number_of (seen_by t n) ≡ n
    by true e = omega (arith, ints, le, e)
    by false e = refl
