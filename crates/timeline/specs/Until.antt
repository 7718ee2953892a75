-- Until when tokens hold, as the code finds it.
use Rattle.std.specs.Prelude.{ℤ, int_lt, Bool, true, false, ◌&&◌, List, [], ◌∷◌, Option, Some, None}
use Rattle.std.specs.Option.{option_map}
use Rattle.tmm_model.specs.declared.bound.Bound.{Bound}
use Rattle.tmm_model.specs.declared.bound.Bound.TheVariants.{Finite, Free}
use Rattle.tmm_model.specs.Bounds.{lesser}
use Rattle.tmm_model.specs.Standing.{Standing}
use Rattle.timeline.specs.declared.row.Held.{Held}
use Rattle.timeline.specs.declared.row.Row.{Row}
use Rattle.timeline.specs.declared.until.Coming.{Coming}
use Rattle.timeline.specs.Rows.{clashes}

-- the least of the bounds that are made of these
abbrev pub least_by : {X : Type 0} → (X → Bound) → List X → Bound
least_by bound [] = Free
least_by bound (x ∷ xs) = lesser (bound x) (least_by bound xs)

-- the date where the test passes, else no bound
abbrev pub bound_if : Bool → ℤ → Bound
bound_if true date = Finite date
bound_if false date = Free

-- the date of a token that comes, where it passes
abbrev pub coming_bound : (Held → Bool) → Coming → Bound
coming_bound q c = bound_if (q c.held) c.date

-- the date on which a token holds from, where it passes
abbrev pub held_bound : (Held → Bool) → ℤ → Option Held → Bound
held_bound q date None = Free
held_bound q date (Some h) = bound_if (q h) date

-- the date of a row of a token that passes
abbrev pub row_bound : (Held → Bool) → Row → Bound
row_bound q r = held_bound q r.date r.held

-- the date of a row of a token that passes, where it is behind this one
abbrev pub later_bound : (Held → Bool) → ℤ → Row → Bound
later_bound q date r = held_bound (λ h. int_lt date r.date && q h) r.date r.held

-- a span holds until its end, and a persistence until this
abbrev pub until_with : Option ℤ → Bound → Bound
until_with None first = first
until_with (Some e) first = Finite e

-- until when a row's token holds, where these come later
abbrev pub until_row : Standing → List Coming → Row → Option Bound
until_row s coming r = option_map (λ h. until_with h.end (least_by (coming_bound (clashes s h)) coming)) r.held

-- until when a row's token holds, where some of these rows come later
abbrev pub until_later : Standing → List Row → Row → Option Bound
until_later s rows r = option_map (λ h. until_with h.end (least_by (later_bound (clashes s h) r.date) rows)) r.held
