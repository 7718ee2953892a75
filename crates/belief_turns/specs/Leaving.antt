-- What goes where a rule fires no more: nodes with their rows; and rows wait that read what went.
use Rattle.std.specs.Prelude.{◌≡◌, ◌⊎◌, ◌↔◌, ℕ, true, List, Option, Some, None}
use Rattle.tmm_model.specs.Standing.{Standing}
use Rattle.list_theory.proofs.Elements.{In}
use Rattle.dist_net.specs.Net.{Net}
use Rattle.row_links.specs.Lists.{IsOn}
use Rattle.undo_rows.specs.declared.row.Row.{Row as TableRow}
use Rattle.undo_rows.specs.Tables.{AreListed}
use Rattle.decision_rows.specs.declared.row.Pair.{Pair}
use Rattle.occ_tree.specs.Below.{IsBelow}
use Rattle.occ_tree.specs.Classes.{place_in}
use Rattle.occ_tree.specs.Edits.{Withdraws}
use Rattle.occ_tree.specs.Places.{forest}
use Rattle.occ_tree.specs.Standing.{Kept, State, present, early}
use Rattle.joined.specs.Marking.{Mark}
use Rattle.belief_table.specs.declared.state.Beliefs.{Beliefs}
use Rattle.belief_table.specs.declared.state.Decisions.{Decisions}
use Rattle.belief_table.specs.Decided.{table_of, rule_in, DropsRows}
use Rattle.marking.specs.TokenMarks.{MarksReaders, Calls, what_at}
use Rattle.belief_table.specs.Erasing.{class_at}
use Rattle.belief_table.specs.Marks.{WaitsAt}
use Rattle.belief_table.specs.Waiting.{dates_in}
use Rattle.bearing.specs.Windows.{IsSparedBy}

-- ---- one node

-- what a node marks that goes with these: a token those rows on which it may bear, and an event
-- none
pub data MarksNode (s : Standing) (net : Net) (tree : Kept) (going : List ℕ) (y : ℕ) (old new : Decisions) : Type 0 where
  a_token : (class : List ℕ) → class_at tree y ≡ Some class → MarksReaders s net tree going y class old new → MarksNode s net tree going y old new
  an_event : class_at tree y ≡ None → new ≡ old → MarksNode s net tree going y old new

-- all rows at the node are gone, and rows wait that read it
pub record LosesNode (s : Standing) (net : Net) (tree : Kept) (going : List ℕ) (y : ℕ) (old new : Decisions) : Type 0 where
  pub mid : Decisions
  pub drops : DropsRows y old mid
  pub listed : AreListed (table_of mid)
  pub marks : MarksNode s net tree going y mid new

-- ---- some nodes

-- the mark is that of the token at this node, which goes with these
pub record IsMarkOn (net : Net) (tree : Kept) (going : List ℕ) (number : List ℕ → Option ℕ) (y : ℕ) (mark : Mark) : Type 0 where
  pub class : List ℕ
  pub has_class : class_at tree y ≡ Some class
  pub numbered : number class ≡ Some mark.class
  pub fact : mark.fact ≡ what_at tree y
  pub from : mark.from ≡ early (present tree) y
  pub spared : (t : ℕ) → mark.spares t ≡ true → IsSparedBy net (forest tree) going y t

-- the marks are those of the tokens among these nodes, of all that go
pub record AreMarksOn (net : Net) (tree : Kept) (going gone : List ℕ) (number : List ℕ → Option ℕ) (marks : List Mark) : Type 0 where
  pub own : (mark : Mark) → In mark marks → (y : ℕ) × IsOn gone y × IsMarkOn net tree going number y mark
  pub all : (y : ℕ) (class : List ℕ) → IsOn gone y → class_at tree y ≡ Some class → (mark : Mark) × In mark marks × IsMarkOn net tree going number y mark

-- a mark is for the row of number i: it asks for it, and its event is no earlier
abbrev pub IsMarkedFor : Standing → State → Decisions → List Mark → ℕ → TableRow Pair 8 → Type 0
IsMarkedFor s st d marks i row = (mark : Mark) × In mark marks × Calls s st (table_of d) mark i row (rule_in d row)

-- the row of number i was one at these nodes, and is gone
pub record IsLost (gone : List ℕ) (old new : Decisions) (i : ℕ) : Type 0 where
  pub row : TableRow Pair 8
  pub was : (table_of old).row i ≡ Some row
  pub at_gone : IsOn gone row.value.trigger
  pub lost : (table_of new).row i ≡ None
  pub rests : dates_in new.waiting i ≡ None

-- the row of number i stays, and waits as before or for a mark
pub record IsLeft (s : Standing) (st : State) (marks : List Mark) (old new : Decisions) (i : ℕ) : Type 0 where
  pub row : (table_of new).row i ≡ (table_of old).row i
  pub waits : (dates_in new.waiting i ≡ dates_in old.waiting i)
      ⊎ ((r : TableRow Pair 8) × ((table_of old).row i ≡ Some r) × IsMarkedFor s st old marks i r × WaitsAt st (dates_in new.waiting) i r)

-- All rows at these nodes, of all that go, are gone. The others stay, and wait where a token among
-- the nodes marks them.
pub record LosesRows (s : Standing) (net : Net) (tree : Kept) (going gone : List ℕ) (old new : Decisions) : Type 0 where
  pub rules : new.rules ≡ old.rules
  pub listed : AreListed (table_of old)
  pub marks : List Mark
  pub are : AreMarksOn net tree going gone (place_in new.classes) marks
  pub each : (i : ℕ) → IsLeft s (present tree) marks old new i ⊎ IsLost gone old new i
  pub none : (i : ℕ) (row : TableRow Pair 8) → (table_of new).row i ≡ Some row → IsOn gone row.value.trigger → ⊥
  pub all : (i : ℕ) (row : TableRow Pair 8) → (table_of new).row i ≡ Some row → IsMarkedFor s (present tree) old marks i row
      → WaitsAt (present tree) (dates_in new.waiting) i row

-- ---- a node with all below it

-- the numbers are those of node x and of all below it
abbrev pub AreBelow : Kept → ℕ → List ℕ → Type 0
AreBelow tree x numbers = (y : ℕ) → IsOn numbers y ↔ IsBelow (forest tree) x y

-- node x is gone with all below it, which are these, and their rows; and rows wait that read what
-- went
pub record TakesAway (s : Standing) (net : Net) (x : ℕ) (numbers : List ℕ) (old new : Beliefs) : Type 0 where
  pub below : AreBelow old.tree x numbers
  pub tree : Withdraws old.tree new.tree x
  pub rows : LosesRows s net old.tree numbers numbers old.decisions new.decisions
