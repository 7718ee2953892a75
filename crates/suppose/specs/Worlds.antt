-- Suppositions: what lines leave where maps stand on one another.
use Rattle.std.specs.Prelude.{◌≡◌, ℕ, nat_lt, Bool, true, false, List, [], ◌∷◌, length, Option, Some, None}
use Rattle.tmm_model.specs.declared.mode.Mode.TheVariants.{Suppose as Supposing}
use Rattle.tmm_model.specs.declared.mode.ModeCause.{ModeCause}
use Rattle.tmm_model.specs.declared.mode.ModeCause.TheVariants.{LimitSuppose, Suppose as NoSuppose}
use Rattle.tmm_model.specs.declared.mode.ModeLine.{ModeLine}
use Rattle.tmm_model.specs.declared.mode.ModeLine.TheVariants.{Suppose, Keep, Drop}
use Rattle.tmm_model.specs.declared.turn.Turn.{Turn}
use Rattle.tmm_model.specs.Modes.{own_ok, own_no, where_true}
use Rattle.tmm_model.specs.Standing.{Standing, empty_list}
use Rattle.tmm_model.specs.Transcript.{Step}
use Rattle.mode_session.specs.ModeSteps.{Own, ModeStep}
use Rattle.suppose.specs.declared.stack.TheConstants.{MOST_SUPPOSITIONS}

-- the limit on suppositions
abbrev pub most_suppositions : ℕ
most_suppositions = MOST_SUPPOSITIONS

-- The map on top, on which lines are answered, and those below it, the nearest first. All but the
-- lowest are suppositions.
pub record World : Type 0 where
  pub top : Standing
  pub below : List Standing

-- what a script begins with: the empty map, and no supposition
abbrev pub first_world : World
first_world = record { top = empty_list; below = [] }

-- ---- the lines of the mode's own

-- a copy of the map on top, put on it; none where 8 suppositions stand
abbrev pub supposed : World → Option World
supposed w = where_true (nat_lt (length w.below) most_suppositions) (record { top = w.top; below = w.top ∷ w.below })

-- this map in place of the nearest of those below
abbrev pub in_place : Standing → List Standing → Option World
in_place top [] = None
in_place top (nearest ∷ below) = Some (record { top = top; below = below })

-- the nearest of these on top
abbrev pub nearest_of : List Standing → Option World
nearest_of [] = None
nearest_of (nearest ∷ below) = Some (record { top = nearest; below = below })

-- the map on top taken over into the one below it; none where no supposition stands
abbrev pub kept : World → Option World
kept w = in_place w.top w.below

-- the map on top given up; none where no supposition stands
abbrev pub dropped : World → Option World
dropped w = nearest_of w.below

-- the world after a line of the mode's own; none where it is refused
abbrev pub after : ModeLine → World → Option World
after Suppose w = supposed w
after Keep w = kept w
after Drop w = dropped w
after form w = None

-- why it is refused then
abbrev pub cause_of : ModeLine → ModeCause
cause_of Suppose = LimitSuppose
cause_of form = NoSuppose

-- the line of number k is done and leaves this world, or is refused and leaves the old one
abbrev pub Answers : World → ℕ → ModeCause → Option World → List ℕ → Bool → World → Type 0
Answers old k cause (Some next) bytes refused new = (bytes ≡ own_ok k) × (refused ≡ false) × (new ≡ next)
Answers old k cause None bytes refused new = (bytes ≡ own_no k cause) × (refused ≡ true) × (new ≡ old)

-- what a line of the mode's own is answered, and the world that it leaves
abbrev pub SupposeOwn : Own World
SupposeOwn old k line form bytes refused new = Answers old k (cause_of form) (after form old) bytes refused new

-- ---- all lines

-- any other line is answered as without the mode, on the map on top, and what is below stays
abbrev pub TopStep : World → ℕ → List ℕ → Turn → World → Type 0
TopStep old k line turn new = Step old.top k line turn new.top × (new.below ≡ old.below)

-- **The step of a script with suppositions.**
abbrev pub SupposeStep : World → ℕ → List ℕ → Turn → World → Type 0
SupposeStep = ModeStep Supposing SupposeOwn TopStep
