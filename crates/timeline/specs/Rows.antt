-- What comes on its date, as the code has it.
use Rattle.std.specs.Prelude.{◌≡◌, ℕ, ℤ, Bool, not, ◌&&◌, ◌||◌, List, Option, Some, None}
use Rattle.std.specs.List.{filter_map}
use Rattle.std.specs.Option.{option_map}
use Rattle.tmm_model.specs.declared.token.Shape.{Shape}
use Rattle.tmm_model.specs.declared.token.Shape.TheVariants.{Event as AnEvent, Persistence as APersistence, Span as ASpan}
use Rattle.tmm_model.specs.declared.token.TokenRow.{TokenRow}
use Rattle.tmm_model.specs.declared.premise.Premise.{Premise}
use Rattle.tmm_model.specs.Beliefs.{is_of, token_of, root_of, are_rivals}
use Rattle.tmm_model.specs.Maps.{TimeMap}
use Rattle.tmm_model.specs.Moments.{Moment, moment_of}
use Rattle.tmm_model.specs.Points.{same_name}
use Rattle.tmm_model.specs.Sorts.{class_in}
use Rattle.tmm_model.specs.Standing.{Standing}
use Rattle.belief_theory.specs.Right.{Occurs}
use Rattle.list_theory.proofs.Elements.{In}
use Rattle.timeline.specs.declared.row.Held.{Held}
use Rattle.timeline.specs.declared.row.Row.{Row}
use Rattle.timeline.specs.Days.{date}

-- whether two tokens contradict each other: they are of two facts of one class, or a premise sets
-- their facts against each other
abbrev pub clashes : Standing → Held → Held → Bool
clashes s k c = (same_name k.class c.class && not (same_name k.fact c.fact)) || are_rivals s k.fact c.fact

-- what occurs
abbrev pub moment : Row → Moment
moment r = moment_of r.occ

-- a token as it holds
abbrev pub held_of : TimeMap → TokenRow Moment → Held
held_of m k = record { fact = k.fact; class = k.class; end = option_map (date m) k.end }

-- the shape of what holds, by its end
abbrev pub shape_with : Option ℤ → Shape
shape_with None = APersistence
shape_with (Some e) = ASpan

-- the shape of an occurrence, by what holds
abbrev pub shape_of : Option Held → Shape
shape_of None = AnEvent
shape_of (Some h) = shape_with h.end

-- the row says of an occurrence of the map its date, what it is, and what holds from it on
pub record IsRowOf (m : TimeMap) (r : Row) : Type 0 where
  pub occurs : Occurs m.list (moment r)
  pub date : r.date ≡ date m (moment r)
  pub is : is_of m.list (moment r) ≡ Some (shape_of r.held, r.what)
  pub held : r.held ≡ option_map (held_of m) (token_of m.list (moment r))

-- so does each of the rows
abbrev pub AreRowsOf : TimeMap → List Row → Type 0
AreRowsOf m rows = (r : Row) → In r rows → IsRowOf m r

-- the tokens among the rows
abbrev pub helds : List Row → List Held
helds rows = filter_map (λ r. r.held) rows

-- what holds where a rule brings about this: a fact has a class, and a kind none
abbrev pub held_with : List ℕ → Option (List ℕ) → Option Held
held_with effect None = None
held_with effect (Some class) = Some (record { fact = effect; class = class; end = None })

-- what holds where a rule of the list brings it about
abbrev pub held_from : Standing → List ℕ → Option Held
held_from s effect = held_with effect (class_in s.premises effect)

-- the row is of what the premise declares to occur
pub record IsRootRow (m : TimeMap) (premise : Premise) (r : Row) : Type 0 where
  pub own : IsRowOf m r
  pub is : root_of premise ≡ Some (moment r)
