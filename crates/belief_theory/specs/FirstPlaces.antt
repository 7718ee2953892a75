-- The place of the first element, in an order, that passes a test.
use Rattle.std.specs.Prelude.{MatchOption, ◌≡◌, ℕ, ◌<◌, Bool, false, List, length, IsTrue, Option, slice_index_or}
use Rattle.std.specs.declared.cmp.Ordering.{Ordering}
use Rattle.std.specs.Ordering.{is_gt}

-- i is the place of the first among the first n elements that pass the test
pub record IsFirstAmong {A : Type 0} (cmp : A → A → Ordering) (test : A → Bool) (xs : List A) (n i : ℕ) : Type 0 where
  pub within : i < n
  pub passes : (d : A) → IsTrue (test (slice_index_or xs i d))
  pub least : (j : ℕ) (d : A) → j < n → IsTrue (test (slice_index_or xs j d)) → is_gt (cmp (slice_index_or xs i d) (slice_index_or xs j d)) ≡ false

-- the place of the first among the first n elements that pass, none exactly where none does
abbrev pub IsFirstPlaceAmong : {A : Type 0} → (A → A → Ordering) → (A → Bool) → List A → ℕ → Option ℕ → Type 0
IsFirstPlaceAmong {A} cmp test xs n place =
    MatchOption place ((k : ℕ) (d : A) → k < n → test (slice_index_or xs k d) ≡ false) (IsFirstAmong cmp test xs n)

-- the place of the first element that passes, none exactly where none does
abbrev pub IsFirstPlace : {A : Type 0} → (A → A → Ordering) → (A → Bool) → List A → Option ℕ → Type 0
IsFirstPlace cmp test xs place = IsFirstPlaceAmong cmp test xs (length xs) place
