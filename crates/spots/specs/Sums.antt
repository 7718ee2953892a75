-- Sums of the delays of rules, with those that have no bound counted.
use Rattle.std.specs.Prelude.{◌≡◌, ℕ, zero, suc, ◌+◌, ℤ, pos, ◌+ℤ◌, ◌<◌, List, [], ◌∷◌, ◌++◌, length}
use Rattle.tmm_model.specs.declared.bound.Bound.{Bound}
use Rattle.tmm_model.specs.declared.bound.Bound.TheVariants.{Finite, Free}
use Rattle.spots.specs.declared.link.Link.{Link}
use Rattle.tmm_model.specs.Bounds.{bound_less}
use Rattle.spots.specs.Spots.{links_low, links_high, links_apart}
use Rattle.spots.specs.declared.sums.Sums.{Sums}
use Rattle.spots.specs.Light.{AreLight}

-- the bound, 0 for none
abbrev pub or_zero : Bound → ℤ
or_zero (Finite x) = x
or_zero Free = pos 0

-- 1 for no bound
abbrev pub free_count : Bound → ℕ
free_count (Finite x) = 0
free_count Free = 1

-- the sum of the most delays, of the rules that have one
abbrev pub links_bounded : List Link → ℤ
links_bounded [] = pos 0
links_bounded (l ∷ links) = or_zero l.hi +ℤ links_bounded links

-- how many rules have none
abbrev pub links_unbounded : List Link → ℕ
links_unbounded [] = 0
links_unbounded (l ∷ links) = free_count l.hi + links_unbounded links

-- the most that rules take whose bounded delays have this sum, when so many others have no bound
abbrev pub high_of : ℤ → ℕ → Bound
high_of bounded zero = Finite bounded
high_of bounded (suc n) = Free

-- the sums of these rules
pub record AreSums (s : Sums) (links : List Link) : Type 0 where
  pub low : s.low ≡ links_low links
  pub bounded : s.bounded ≡ links_bounded links
  pub unbounded : s.unbounded ≡ links_unbounded links

-- the sums are those of rules to which one more may come
abbrev pub HasRoom : Sums → Type 0
HasRoom s = (links : List Link) × AreLight links × (length links < 100000) × AreSums s links

-- the first sums are those of the rules with which others begin, and the second are of all of them
pub record IsFrontOf (first s : Sums) : Type 0 where
  pub front : List Link
  pub back : List Link
  pub light : AreLight (front ++ back)
  pub of_front : AreSums first front
  pub of_all : AreSums s (front ++ back)

-- The sums are those of rules that both lists begin with. What is behind these tells how far apart
-- both lead.
pub record ArePartedBy (s : Sums) (u v : List Link) : Type 0 where
  pub front : List Link
  pub first : List Link
  pub second : List Link
  pub sums : AreSums s front
  pub first_is : u ≡ front ++ first
  pub second_is : v ≡ front ++ second
  pub apart : links_apart u v ≡ bound_less (links_high second) (links_low first)

-- the sums are those of two lists of rules, and of some rules that both begin with
pub record HaveParted (first second shared : Sums) : Type 0 where
  pub u : List Link
  pub v : List Link
  pub light_u : AreLight u
  pub light_v : AreLight v
  pub of_u : AreSums first u
  pub of_v : AreSums second v
  pub parted : ArePartedBy shared u v
