-- The last element of a list that passes a test.
use Rattle.std.specs.Prelude.{◌≡◌, ℕ, ◌<◌, Bool, false, List, length, IsTrue, Option, MatchOption, slice_index_or}

-- i is the place of the last element that passes
pub record IsLast {A : Type 0} (test : A → Bool) (xs : List A) (i : ℕ) : Type 0 where
  pub within : i < length xs
  pub passes : (d : A) → IsTrue (test (slice_index_or xs i d))
  pub fail : (j : ℕ) (d : A) → i < j → j < length xs → test (slice_index_or xs j d) ≡ false

-- the place of the last element that passes, none exactly where none does
abbrev pub IsLastPlace : {A : Type 0} → (A → Bool) → List A → Option ℕ → Type 0
IsLastPlace {A} test xs place = MatchOption place ((k : ℕ) (d : A) → k < length xs → test (slice_index_or xs k d) ≡ false) (IsLast test xs)
