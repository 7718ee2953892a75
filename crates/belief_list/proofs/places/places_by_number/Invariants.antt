use Rattle.std.proofs.Common.{◌≡◌, ℕ, ◌<◌, length}
use Rattle.std.specs.Prelude.{Some, IsSome, slice_index_or, slice_get}
use Rattle.std.specs.List.{All}
use Rattle.belief_list.specs.Tables.{place_in}
use Rattle.belief_list.proofs.places.places_by_number.Given as goal

abbrev pub invariant-loop-i : goal.invariant-loop-i
invariant-loop-i l = record {
  within : All (λ x. x < length l.places.items) l.numbers;
  found : (x j : ℕ) → place_in l.places.items x ≡ Some j → slice_get l.numbers j ≡ Some x;
  all : (j d : ℕ) → j < l.i → IsSome (place_in l.places.items (slice_index_or l.numbers j d));
}
