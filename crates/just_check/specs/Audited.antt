-- How far an audit has come.
use Rattle.std.specs.Prelude.{◌≡◌, ◌⊎◌, ℕ, ◌≤◌, ℤ, ◌<ℤ◌, ◌≤ℤ◌, Bool, true, false, Option, Some, None, List, [], ◌∷◌, ◌++◌, map, length, take}
use Rattle.std.specs.List.{All}
use Rattle.std.specs.declared.cmp.Ordering.TheVariants.{Less}
use Rattle.tmm_model.specs.Maps.{built, order}
use Rattle.tmm_model.specs.Moments.{Moment, early}
use Rattle.tmm_model.specs.Standing.{Standing, far_in}
use Rattle.list_theory.proofs.Elements.{In}
use Rattle.dist_net.specs.Net.{Net}
use Rattle.spots.specs.Forest.{Forest, IsLive, moment_at}
use Rattle.spots.specs.Spots.{node_cmp}
use Rattle.occ_tree.specs.Dated.{IsDatedBy}
use Rattle.occ_tree.specs.Places.{forest}
use Rattle.occ_tree.specs.Standing.{present}
use Rattle.just_check.specs.declared.auditing.Checked.{Checked}
use Rattle.just_check.specs.declared.expected.Origin.{Origin}
use Rattle.just_check.specs.Checking.{Joins, AreSoFar, Expects}
use Rattle.just_check.specs.Origins.{has_event}

-- the earliest date of an occurrence
abbrev pub date_of : Standing → Moment → ℤ
date_of s x = early s (far_in s.premises) x

-- the rows so far
abbrev pub rows_of : Checked → List Moment
rows_of c = map (moment_at (forest c.tree)) c.nodes.items

-- the events that are decided
abbrev pub decided_in : Checked → List ℕ
decided_in c = take c.decided c.nodes.items

-- what is expected is known for the rows so far, of which the first are decided; their dates are
-- the network's
pub record IsTaken (s : Standing) (net : Net) (c : Checked) : Type 0 where
  pub so_far : AreSoFar s net (forest c.tree) (rows_of c)
  pub dated : IsDatedBy net (present c.tree)
  pub live : All (IsLive (forest c.tree)) c.nodes.items
  pub within : c.decided ≤ length c.nodes.items
  pub expects : Expects s (forest c.tree) (rows_of c) (decided_in c) c.expected

-- the event begins before some of the occurrences b
abbrev pub IsPast : Standing → List Moment → Moment → Type 0
IsPast s b t = (y : Moment) × In y b × (date_of s t <ℤ date_of s y)

-- and all that is decided begins before some row
pub record IsChecked (s : Standing) (net : Net) (c : Checked) : Type 0 where
  pub taken : IsTaken s net c
  pub past : (x : ℕ) → In x (decided_in c) → IsPast s (rows_of c) (moment_at (forest c.tree) x)

-- what fires at the events that begin by this date is decided, and at no others beside those where
-- it was
pub record DecidesThrough (s : Standing) (net : Net) (old new : Checked) (date : ℤ) : Type 0 where
  pub taken : IsTaken s net new
  pub tree : new.tree ≡ old.tree
  pub nodes : new.nodes ≡ old.nodes
  pub own : (x : ℕ) → In x (decided_in new) → In x (decided_in old) ⊎ (date_of s (moment_at (forest old.tree) x) ≤ℤ date)
  pub all : (x : ℕ) → In x old.nodes.items → date_of s (moment_at (forest old.tree) x) ≤ℤ date → In x (decided_in new)

-- what fires at the event of the origin is decided, and all that is decided begins before some row
-- or no later than this event
pub record IsReady (s : Standing) (net : Net) (c : Checked) (o : Origin) : Type 0 where
  pub taken : IsTaken s net c
  pub event : has_event (forest c.tree) o.event
  pub decided : (x : ℕ) → o.event ≡ Some x → In x (decided_in c)
  pub past : (t : ℕ) → In t (decided_in c)
      → IsPast s (rows_of c) (moment_at (forest c.tree) t) ⊎ ((x : ℕ) × (o.event ≡ Some x) × (date_of s (moment_at (forest c.tree) t) ≤ℤ date_of s (moment_at (forest c.tree) x)))

-- what fires at all rows is decided
pub record IsDecided (s : Standing) (net : Net) (c : Checked) : Type 0 where
  pub so_far : AreSoFar s net (forest c.tree) (rows_of c)
  pub live : All (IsLive (forest c.tree)) c.nodes.items
  pub expects : Expects s (forest c.tree) (rows_of c) c.nodes.items c.expected

-- k comes after all of b
abbrev pub IsBehind : Standing → List Moment → Moment → Type 0
IsBehind s b k = (y : Moment) → In y b → order (built s) y k ≡ Less

-- the node x comes after the last of the nodes
abbrev pub ComesAfter : Net → Forest → List ℕ → ℕ → Type 0
ComesAfter net f nodes x = (front : List ℕ) (last : ℕ) → nodes ≡ front ++ last ∷ [] → node_cmp net f last x ≡ Less

-- k has entered as this node behind the rows; or it may not stand there
abbrev pub EntersBehind : Standing → Net → Checked → Checked → Moment → Option ℕ → Type 0
EntersBehind s net old new k (Some x) = IsChecked s net new × (rows_of new ≡ rows_of old ++ k ∷ []) × IsLive (forest new.tree) x
EntersBehind s net old new k None = Joins s (rows_of old) k → IsBehind s (rows_of old) k → ⊥

-- the row k has been taken behind the others; or it may not stand there
abbrev pub Takes : Standing → Net → Checked → Checked → Moment → Bool → Type 0
Takes s net old new k true = IsChecked s net new × (rows_of new ≡ rows_of old ++ k ∷ [])
Takes s net old new k false = Joins s (rows_of old) k → IsBehind s (rows_of old) k → ⊥
