-- A row or none in one number.
use Rattle.std.specs.Prelude.{◌≡◌, ℕ, Bool, true, false, cond, eqb, Option, Some, None}
use Rattle.std.proofs.Common.{sym, eqb-true, refl}

-- the number that stands for none, which no row has
abbrev pub no_row : ℕ
no_row = 4294967295

-- the row that a number stands for
abbrev pub row_in : ℕ → Option ℕ
row_in n = cond (eqb n no_row) None (Some n)

-- the number that stands for a row, or for none
abbrev pub number_for : Option ℕ → ℕ
number_for None = no_row
number_for (Some x) = x

pub number_for-row_in : (n : ℕ) → number_for (row_in n) ≡ n
number_for-row_in n = by (eqb n no_row) refl
  where
    by : (t : Bool) → eqb n no_row ≡ t → number_for (cond t None (Some n)) ≡ n
    by true is = sym (eqb-true n no_row is)
    by false is = refl
