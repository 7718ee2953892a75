use Rattle.std.proofs.Common.{ℕ, ◌<◌, length}
use Rattle.spots.specs.Forest.{IsLive, moment_at}
use Rattle.occ_tree.specs.Places.{forest}
use Rattle.belief_list.specs.Matches.{IsMatch}
use Rattle.belief_list.specs.Tables.{place_in}
use Rattle.belief_list.proofs.matched.places_by_name.Given as goal

abbrev pub invariant-loop-x : goal.invariant-loop-x
invariant-loop-x l = record {
  long : (y : ℕ) → IsLive (forest l.other) y → y < length l.places.items;
  matched : (y : ℕ) → y < l.x → IsLive (forest l.other) y → IsMatch (moment_at (forest l.other) y) (forest l.tree) l.rows (place_in l.places.items y);
}
