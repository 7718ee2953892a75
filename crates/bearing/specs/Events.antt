-- Whether the event of a node is one of some events.
use Rattle.std.specs.Prelude.{ℕ, ℤ, pos, ◌+ℤ◌, int_le, Bool, true, false, not, ◌&&◌, ◌||◌}
use Rattle.tmm_model.specs.declared.bound.Bound.{Bound}
use Rattle.tmm_model.specs.declared.bound.Bound.TheVariants.{Finite, Free}
use Rattle.spots.specs.declared.spot.Spot.TheVariants.{Node as OfNode}
use Rattle.spots.specs.Spots.{base_of, links_of, links_high}
use Rattle.occ_tree.specs.Standing.{State, forest, early}
use Rattle.bearing.specs.declared.events.Events.{Events}
use Rattle.bearing.specs.declared.events.Events.TheVariants.{DueBetween, BeginAt}
use Rattle.bearing.specs.PointSets.{is_in}

-- whether one holds and the other does not
abbrev pub differ : Bool → Bool → Bool
differ true b = not b
differ false b = b

-- whether a date is up to one of two horizons, and after the other
abbrev pub is_between : ℤ → ℕ → ℕ → Bool
is_between date before after = differ (int_le date (pos before)) (int_le date (pos after))

-- whether there is a number
abbrev pub is_number : Bound → Bool
is_number (Finite x) = true
is_number Free = false

-- whether the event of node x is one of these
abbrev pub is_event_of : Events → State → ℕ → Bool
is_event_of (DueBetween delay before after) s x = is_between (early s x +ℤ delay) before after
is_event_of (BeginAt all bounded) s x =
    is_in all.items (base_of (forest s) (OfNode x)) || (is_number (links_high (links_of (forest s) (OfNode x))) && is_in bounded.items (base_of (forest s) (OfNode x)))
