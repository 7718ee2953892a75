-- What leaves with premises that the list has no more.
use Rattle.std.specs.Prelude.{◌≡◌, ◌≢◌, ◌⊎◌, ℕ, true, List, [], ◌++◌, map, filter, Option, Some, None}
use Rattle.std.specs.Option.{option_map, option_map_or}
use Rattle.tmm_model.specs.Moments.{Moment, After, moment_of, is_derived}
use Rattle.tmm_model.specs.Standing.{Standing, premise_in}
use Rattle.list_theory.proofs.Distinct.{Distinct}
use Rattle.list_theory.proofs.Elements.{In}
use Rattle.row_links.specs.Lists.{IsOn}
use Rattle.spots.specs.Forest.{Forest, Member, member, IsLive, moment, moment_at, IsNoRoot, Withdraws}
use Rattle.undo_rows.specs.declared.row.Row.{Row as TableRow}
use Rattle.decision_rows.specs.declared.row.Pair.{Pair}
use Rattle.occ_tree.specs.Places.{forest}
use Rattle.occ_tree.specs.Standing.{Kept, present, early}
use Rattle.revisions.specs.Standing.{Stands}
use Rattle.belief_table.specs.declared.erasing.Departed.{Departed}
use Rattle.belief_table.specs.declared.state.Beliefs.{Beliefs}
use Rattle.belief_table.specs.declared.state.Decisions.{Decisions}
use Rattle.belief_table.specs.declared.dated.DatedOcc.{DatedOcc}
use Rattle.belief_table.specs.Decided.{table_of, rule_in}
use Rattle.bearing.specs.Gone.{gone_of}
use Rattle.belief_table.specs.Marks.{HaveEvents}
use Rattle.belief_table.specs.Waiting.{dates_in}

-- ---- rows of events

-- the rows at these events are gone, and all else stays
pub record DropsRowsAt (P : ℕ → Type 0) (old new : Decisions) : Type 0 where
  pub rules : new.rules ≡ old.rules
  pub classes : new.classes ≡ old.classes
  pub was : (i : ℕ) (row : TableRow Pair 8) → (table_of new).row i ≡ Some row → ((table_of old).row i ≡ Some row) × (P row.value.trigger → ⊥)
  pub stay : (i : ℕ) (row : TableRow Pair 8) → (table_of old).row i ≡ Some row → (P row.value.trigger → ⊥) → (table_of new).row i ≡ Some row
  pub rests : (i : ℕ) → dates_in old.waiting i ≡ None → dates_in new.waiting i ≡ None

-- no row is of the rule of this name
abbrev pub HasNoRowOf : Decisions → List ℕ → Type 0
HasNoRowOf d rule = (i : ℕ) (row : TableRow Pair 8) → (table_of d).row i ≡ Some row → rule_in d row ≢ rule

-- ---- what is told and noted

-- the occurrences that are told
abbrev pub moments_of : List DatedOcc → List Moment
moments_of told = map (λ (o : DatedOcc). moment_of o.occ) told

-- of nodes that go, each that rules led to is told, with its number and the date that is kept of it
pub record TellsOf (tree : Kept) (numbers : List ℕ) (before after : List DatedOcc) : Type 0 where
  pub more : List DatedOcc
  pub is : after ≡ before ++ more
  pub moments : moments_of more ≡ filter is_derived (map (moment_at (forest tree)) numbers)
  pub own : (o : DatedOcc) → In o more → (y : ℕ) × IsOn numbers y × (moment_of o.occ ≡ moment_at (forest tree) y) × (o.early ≡ early (present tree) y) × (o.node ≡ y)

-- the class of a node, none of an event
abbrev pub class_at : Kept → ℕ → Option (List ℕ)
class_at tree y = option_map_or (λ (m : Member). m.class) (member (forest tree) y) None

-- the fact of a token, by its node, none of an event
abbrev pub fact_of : Member → Option (List ℕ)
fact_of m = option_map (λ _. m.what) m.class

-- so at a node
abbrev pub fact_at : Kept → ℕ → Option (List ℕ)
fact_at tree y = option_map_or fact_of (member (forest tree) y) None

-- what these nodes have there, each, is noted, besides what was before
pub record NotesOf {X : Type 0} (at : ℕ → Option X) (numbers : List ℕ) (before after : List X) : Type 0 where
  pub stay : (noted : X) → In noted before → In noted after
  pub own : (noted : X) → In noted after → In noted before ⊎ ((y : ℕ) × IsOn numbers y × (at y ≡ Some noted))
  pub all : (y : ℕ) (noted : X) → IsOn numbers y → at y ≡ Some noted → In noted after

-- the node was there, and is gone
pub record HasLeft (old new : Kept) (x : ℕ) (m : Member) : Type 0 where
  pub was : member (forest old) x ≡ Some m
  pub gone : member (forest new) x ≡ None

-- of the nodes that left, each that rules led to is told once, with its number and the date that
-- was kept of it
pub record Tells (old new : Kept) (before after : List DatedOcc) : Type 0 where
  pub more : List DatedOcc
  pub is : after ≡ before ++ more
  pub own : (o : DatedOcc) → In o more → (x : ℕ) × (m : Member) × HasLeft old new x m × (moment m ≡ moment_of o.occ) × (is_derived (moment m) ≡ true) × (o.early ≡ early (present old) x) × (o.node ≡ x)
  pub all : (x : ℕ) (m : Member) → HasLeft old new x m → is_derived (moment m) ≡ true → In (moment m) (moments_of more)
  pub once : Distinct (moments_of more)

-- what the nodes that left had of this, each, is noted, besides what was before
pub record Notes {X : Type 0} (of : Member → Option X) (old new : Kept) (before after : List X) : Type 0 where
  pub stay : (noted : X) → In noted before → In noted after
  pub own : (noted : X) → In noted after → In noted before ⊎ ((x : ℕ) × (m : Member) × HasLeft old new x m × (of m ≡ Some noted))
  pub all : (x : ℕ) (m : Member) (noted : X) → HasLeft old new x m → of m ≡ Some noted → In noted after

-- ---- nodes and rows

-- Nodes and rows are some of those before, with their dates and names. With a node that stays its
-- event stays.
pub record Thins (old new : Beliefs) : Type 0 where
  pub nodes : (x : ℕ) (m : Member) → member (forest new.tree) x ≡ Some m → member (forest old.tree) x ≡ Some m
  pub above : (x y : ℕ) (m n : Member) (rule : List ℕ) → member (forest new.tree) x ≡ Some m → member (forest old.tree) y ≡ Some n
      → moment m ≡ After (moment n) rule → member (forest new.tree) y ≡ Some n
  pub dates : (x : ℕ) → IsLive (forest new.tree) x → early (present new.tree) x ≡ early (present old.tree) x
  pub rows : (i : ℕ) (row : TableRow Pair 8) → (table_of new.decisions).row i ≡ Some row → (table_of old.decisions).row i ≡ Some row
  pub events : HaveEvents new.tree (table_of new.decisions)
  pub rests : (i : ℕ) → dates_in old.decisions.waiting i ≡ None → dates_in new.decisions.waiting i ≡ None
  pub rules : new.decisions.rules ≡ old.decisions.rules
  pub classes : new.decisions.classes ≡ old.decisions.classes

-- what left is told, and its classes, facts and tokens noted
pub record Sheds (old new : Beliefs) (before after : Departed) : Type 0 where
  pub thins : Thins old new
  pub tells : Tells old.tree new.tree before.left.items after.left.items
  pub notes : Notes (λ m. m.class) old.tree new.tree before.classes after.classes
  pub facts : Notes fact_of old.tree new.tree before.facts after.facts
  pub tokens : Notes gone_of old.tree new.tree before.tokens.items after.tokens.items

-- what left is told, its classes, facts and tokens are noted, and nothing else
pub record ShedsAll (old new : Beliefs) (all : Departed) : Type 0 where
  pub thins : Thins old new
  pub tells : Tells old.tree new.tree [] all.left.items
  pub notes : Notes (λ m. m.class) old.tree new.tree [] all.classes
  pub facts : Notes fact_of old.tree new.tree [] all.facts
  pub tokens : Notes gone_of old.tree new.tree [] all.tokens.items

-- the rows at events that stay stay
abbrev pub KeepRows : Beliefs → Beliefs → Type 0
KeepRows old new =
    (i : ℕ) (row : TableRow Pair 8) → (table_of old.decisions).row i ≡ Some row → IsLive (forest new.tree) row.value.trigger
    → (table_of new.decisions).row i ≡ Some row

-- the node goes with all below it, and all others stay
abbrev pub TakesNode : Forest → Forest → ℕ → Type 0
TakesNode f g x = (m : Member) → member f x ≡ Some m → Withdraws f g m

-- the list has no more the rule of the row, whose effect is no node
pub record IsRuledOut (s : Standing) (old new : Beliefs) (row : TableRow Pair 8) : Type 0 where
  pub rule : premise_in s.premises (rule_in old.decisions row) ≡ None
  pub effect : (y : ℕ) (m : Member) → member (forest new.tree) y ≡ Some m → moment m ≢ After (moment_at (forest old.tree) row.value.trigger) (rule_in old.decisions row)

-- Nodes stay whose roots and rules stand in the list. Of the events that stay all rows stay but
-- those of rules that stand no more.
pub record Spares (s : Standing) (old new : Beliefs) : Type 0 where
  pub nodes : (x : ℕ) (m : Member) → member (forest old.tree) x ≡ Some m → Stands s (moment m) → member (forest new.tree) x ≡ Some m
  pub rows : (i : ℕ) (row : TableRow Pair 8) → (table_of old.decisions).row i ≡ Some row → IsLive (forest new.tree) row.value.trigger
      → ((table_of new.decisions).row i ≡ Some row) ⊎ IsRuledOut s old new row

-- no node is of the root of this name, and no row of the rule
pub record IsFreeOf (b : Beliefs) (name : List ℕ) : Type 0 where
  pub root : IsNoRoot (forest b.tree) name
  pub rule : HasNoRowOf b.decisions name
