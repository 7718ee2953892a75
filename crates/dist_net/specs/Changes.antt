-- What is listed of changes of the table of distances.
use Rattle.std.specs.Prelude.{◌≡◌, ◌⊎◌, ℕ, ◌<◌, ◌≤◌, ◌/◌, ◌%◌, ◌++◌, true, false, Bool, eqb, List, length, slice_index_or}
use Rattle.std.specs.List.{All, Contains, IsDistinct}
use Rattle.tmm_model.specs.declared.bound.Bound.{Bound}
use Rattle.tmm_model.specs.declared.bound.Bound.TheVariants.{Free}
use Rattle.dist_net.specs.Net.{entry}

-- the places at which the tables of the two states may differ, the places at which the draft may
-- differ from the present table, and points of which one is at each place at which the two tables
-- differ; the place of a and b is a * 256 + b
pub record Listed : Type 0 where
  pub places : List ℕ
  pub drafted : List ℕ
  pub moved : List ℕ

-- the list speaks of the place; a full one speaks of all
abbrev pub Covers : List ℕ → ℕ → Type 0
Covers places k = (65536 ≤ length places) ⊎ Contains places k

-- a place of which the list does not speak is the same in both tables
abbrev pub AreMarked : List ℕ → List Bound → List Bound → Type 0
AreMarked places before now = (k : ℕ) → k < 65536 → (slice_index_or before k Free ≡ slice_index_or now k Free) ⊎ Covers places k

-- two numbers between which the tables differ are not both absent from the list
abbrev pub AreMoved : List ℕ → List Bound → List Bound → Type 0
AreMoved moved before now = (a b : ℕ) → a < 256 → b < 256 → (entry before a b ≡ entry now a b) ⊎ (Contains moved a ⊎ Contains moved b)

-- the same of a list of numbers below 256
pub record AreMovedBelow (moved : List ℕ) (before now : List Bound) : Type 0 where
  pub below : All (λ p. p < 256) moved
  pub moved_are : AreMoved moved before now

-- numbers of points, each once
pub record ArePoints (points : List ℕ) : Type 0 where
  pub below : All (λ p. p < 256) points
  pub distinct : IsDistinct eqb points

-- the list is longer by some places, and speaks of one more
pub record IsNoted (old : List ℕ) (place : ℕ) (new : List ℕ) : Type 0 where
  pub more : List ℕ
  pub extends : new ≡ old ++ more
  pub noted : (65536 ≤ length new) ⊎ Contains more place

-- the places that a change of the table writes are listed after those that were, and for the draft
pub record IsMarking (old : Listed) (before : List Bound) (new : Listed) (now : List Bound) : Type 0 where
  pub more : List ℕ
  pub extends : new.places ≡ old.places ++ more
  pub marked : (k : ℕ) → k < 65536 → (slice_index_or before k Free ≡ slice_index_or now k Free) ⊎ ((65536 ≤ length new.places) ⊎ Contains more k)
  pub more_drafted : List ℕ
  pub extends_drafted : new.drafted ≡ old.drafted ++ more_drafted
  pub drafted : AreMarked new.drafted before now
  pub moved : new.moved ≡ old.moved

-- a change of the table is listed, points that moved too, and what was listed stays so
pub record IsListed (old : Listed) (before : List Bound) (new : Listed) (now : List Bound) : Type 0 where
  pub kept : (k : ℕ) → Covers old.places k → Covers new.places k
  pub marked : AreMarked new.places before now
  pub kept_drafted : (k : ℕ) → Covers old.drafted k → Covers new.drafted k
  pub drafted : AreMarked new.drafted before now
  pub kept_moved : (p : ℕ) → Contains old.moved p → Contains new.moved p
  pub moved : AreMoved new.moved before now

-- one of the numbers of each place of which the list speaks is listed
abbrev pub AreNumbersListed : List ℕ → Bool → List ℕ → Type 0
AreNumbersListed places full moved = (k : ℕ) → k < 65536 → (full ≡ true) ⊎ Contains places k → Contains moved (k / 256) ⊎ Contains moved (k % 256)

-- the first numbers of the first `done` places that are listed stand in `from`, the second ones in
-- `to`
abbrev pub AreGathered : List ℕ → ℕ → List ℕ → List ℕ → Type 0
AreGathered places done from to = (j k : ℕ) → j < done → j < length places → slice_index_or places j k ≡ k → Contains from (k / 256) × Contains to (k % 256)

-- what is in the one list is in the other
abbrev pub AreAmong : List ℕ → List ℕ → Type 0
AreAmong points list = (p : ℕ) → Contains points p → Contains list p

-- just the numbers that are listed are marked
pub record AreMarks (points : List ℕ) (marks : List Bool) : Type 0 where
  pub places : length marks ≡ 256
  pub listed : (p : ℕ) → slice_index_or marks p false ≡ true → Contains points p
  pub marked : (p : ℕ) → Contains points p → slice_index_or marks p false ≡ true

-- what is marked was so, and is none of the first `done` points
pub record AreUnmarked (points : List ℕ) (done : ℕ) (old new : List Bool) : Type 0 where
  pub places : length new ≡ 256
  pub rest : (p : ℕ) → slice_index_or new p false ≡ true → slice_index_or old p false ≡ true
  pub none : (j p : ℕ) → j < done → j < length points → slice_index_or points j p ≡ p → slice_index_or new p false ≡ false
