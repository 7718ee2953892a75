-- Rules on the way whose sums are small.
use Rattle.std.specs.Prelude.{pos, ◌≤ℤ◌, ◌≤◌, List, length}
use Rattle.std.specs.List.{All}
use Rattle.tmm_model.specs.Bounds.{IfFinite}
use Rattle.spots.specs.declared.link.Link.{Link}

-- each delay is a number from 0 to 10^9, or none
pub record IsLight (l : Link) : Type 0 where
  pub least : pos 0 ≤ℤ l.lo
  pub most : l.lo ≤ℤ pos 1000000000
  pub high : IfFinite l.hi (λ h. (pos 0 ≤ℤ h) × (h ≤ℤ pos 1000000000))

-- they are at most 100,000
pub record AreLight (links : List Link) : Type 0 where
  pub few : length links ≤ 100000
  pub each : All IsLight links
