-- Events at which a rule depends on points that moved.
use Rattle.std.specs.Prelude.{◌≡◌, ◌⊎◌, ℕ, ◌<◌, Bool, true, List}
use Rattle.bearing.specs.declared.events.Events.{Events}
use Rattle.bearing.specs.declared.events.Events.TheVariants.{DueBetween, BeginAt}
use Rattle.bearing.specs.declared.points_of_class.Reach.{Reach}
use Rattle.bearing.specs.PointSets.{is_in, has_pair, AreThose}

-- a pair leads from p to q, which is in the set
abbrev pub LeadsTo : List Bool → List Bool → ℕ → ℕ → Type 0
LeadsTo pairs set q p = (p < 256) × (is_in set q ≡ true) × (has_pair pairs p q ≡ true)

-- a pair leads from q, which is in the set, to p
abbrev pub LeadsFrom : List Bool → List Bool → ℕ → ℕ → Type 0
LeadsFrom pairs set q p = (p < 256) × (is_in set q ≡ true) × (has_pair pairs q p ≡ true)

-- from p a pair leads to a point of the set
abbrev pub LeadsInto : List Bool → List Bool → ℕ → Type 0
LeadsInto pairs set p = (q : ℕ) × (q < 256) × (LeadsTo pairs set q p)

-- to p a pair leads from a point of the set
abbrev pub IsLedToFrom : List Bool → List Bool → ℕ → Type 0
IsLedToFrom pairs set p = (q : ℕ) × (q < 256) × (LeadsFrom pairs set q p)

-- from p a pair leads to a point of the set, and m is one of the two
abbrev pub LeadsIntoBy : List Bool → List Bool → ℕ → ℕ → Type 0
LeadsIntoBy pairs set m p = ((p ≡ m) × LeadsInto pairs set p) ⊎ LeadsTo pairs set m p

-- to p a pair leads from a point of the set, and m is one of the two
abbrev pub IsLedToFromBy : List Bool → List Bool → ℕ → ℕ → Type 0
IsLedToFromBy pairs set m p = ((p ≡ m) × IsLedToFrom pairs set p) ⊎ LeadsFrom pairs set m p

-- there is a pair between points of the rule itself: then all events are touched
abbrev pub TouchAll : List Bool → Reach → Type 0
TouchAll pairs reach = (p : ℕ) × (is_in reach.all.items p ≡ true) × (LeadsInto pairs reach.bounded.items p)

-- these are the events at which a rule of these points depends on one of the pairs: all, where that
-- is a pair of its own points; else those from whose points a pair leads to one of its own, and
-- those to which rules lead in bounded time from points to which one leads from one of its own
abbrev pub IsTouchedAt : List Bool → Reach → Events → Type 0
IsTouchedAt pairs reach (DueBetween delay before after) = ⊥
IsTouchedAt pairs reach (BeginAt all bounded) =
    AreThose (λ p. (p < 256) × (TouchAll pairs reach ⊎ LeadsInto pairs reach.bounded.items p)) all.items × AreThose (IsLedToFrom pairs reach.all.items) bounded.items
