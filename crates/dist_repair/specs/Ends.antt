-- Numbers in a row, and where each of them stands.
use Rattle.std.specs.Prelude.{◌≡◌, ◌≢◌, ℕ, ◌<◌, ◌≤◌, List, length, slice_index_or, Option, None, MatchOption}
use Rattle.std.specs.List.{All}

-- the number at a place, 256, which is none of them, behind the last
abbrev pub number_at : List ℕ → ℕ → ℕ
number_at numbers k = slice_index_or numbers k 256

-- none of the first n numbers is p
abbrev pub IsNotAmong : List ℕ → ℕ → ℕ → Type 0
IsNotAmong numbers p n = (j : ℕ) → j < n → number_at numbers j ≢ p

-- the place is the last one of the number p among the first n
pub record IsLastAt (numbers : List ℕ) (p n place : ℕ) : Type 0 where
  pub before : place < n
  pub number : number_at numbers place ≡ p
  pub last : (j : ℕ) → place < j → j < n → number_at numbers j ≢ p

-- the last place of the number p among the first n, none exactly where it is not among them
abbrev pub IsLastOf : List ℕ → ℕ → ℕ → Option ℕ → Type 0
IsLastOf numbers p n found = MatchOption found (IsNotAmong numbers p n) (IsLastAt numbers p n)

-- for each number below 256 its last place, and for each place the last one before it with the same
-- number
pub record AreLinked (numbers : List ℕ) (last before : List (Option ℕ)) : Type 0 where
  pub small : All (λ p. p < 256) numbers
  pub few : length numbers ≤ 4000
  pub all : length last ≡ 256
  pub each : length before ≡ length numbers
  pub last_is : (p : ℕ) → p < 256 → IsLastOf numbers p (length numbers) (slice_index_or last p None)
  pub before_is : (k : ℕ) → k < length numbers → IsLastOf numbers (number_at numbers k) k (slice_index_or before k None)
