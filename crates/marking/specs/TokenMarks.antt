-- Rows that wait since a token enters or leaves.
use Rattle.std.specs.Prelude.{◌≡◌, ℕ, ℤ, Bool, true, false, List, [], Some}
use Rattle.std.specs.Option.{option_map_or}
use Rattle.tmm_model.specs.Standing.{Standing}
use Rattle.dist_net.specs.Net.{Net}
use Rattle.spots.specs.Forest.{Member, member}
use Rattle.occ_tree.specs.Classes.{place_in}
use Rattle.occ_tree.specs.Places.{forest}
use Rattle.occ_tree.specs.Standing.{Kept, State, present, early}
use Rattle.undo_rows.specs.declared.row.Row.{Row as TableRow}
use Rattle.undo_rows.specs.Tables.{Table}
use Rattle.decision_rows.specs.declared.row.Pair.{Pair}
use Rattle.joined.specs.Gaps.{reads_rival}
use Rattle.joined.specs.Listed.{IsListedUnder}
use Rattle.joined.specs.Marking.{Mark, AsksFor}
use Rattle.belief_table.specs.declared.state.Decisions.{Decisions}
use Rattle.belief_table.specs.Decided.{table_of, rule_in}
use Rattle.belief_table.specs.Marks.{Marks, IsAsLate}
use Rattle.belief_table.specs.Waiting.{dates_in}
use Rattle.bearing.specs.Windows.{IsSparedBy}
use Rattle.std.specs.Prelude.{◌⊎◌}

-- those rows wait that read the class, at events no earlier than the date
pub record MarksClass (s : State) (class : List ℕ) (from : ℤ) (old new : Decisions) : Type 0 where
  pub rows : new.rows ≡ old.rows
  pub rules : new.rules ≡ old.rules
  pub number : ℕ
  pub numbered : place_in new.classes class ≡ Some number
  pub marks : Marks s (table_of old) (λ i row. IsListedUnder (table_of old) number i × IsAsLate s from row) (dates_in old.waiting) (dates_in new.waiting)

-- Those rows wait that read the class of the token at node x, at events no earlier, but where it is
-- spared: there the token, which enters or leaves with these nodes, bears on no decision by its
-- class.
pub record MarksOwn (net : Net) (tree : Kept) (moving : List ℕ) (x : ℕ) (class : List ℕ) (old new : Decisions) : Type 0 where
  pub rows : new.rows ≡ old.rows
  pub rules : new.rules ≡ old.rules
  pub number : ℕ
  pub numbered : place_in new.classes class ≡ Some number
  pub spares : ℕ → Bool
  pub spared : (t : ℕ) → spares t ≡ true → IsSparedBy net (forest tree) moving x t
  pub marks : Marks (present tree) (table_of old) (λ i row. IsListedUnder (table_of old) number i × IsAsLate (present tree) (early (present tree) x) row × (spares row.value.trigger ≡ false)) (dates_in old.waiting) (dates_in new.waiting)

-- those rows wait whose rules read what contradicts the fact, at events no earlier than the date
pub record MarksRivals (s : Standing) (st : State) (fact : List ℕ) (from : ℤ) (old new : Decisions) : Type 0 where
  pub same : new ≡ record old { waiting = new.waiting }
  pub marks : Marks st (table_of old) (λ i row. (reads_rival s (rule_in old row) fact ≡ true) × IsAsLate st from row) (dates_in old.waiting) (dates_in new.waiting)

-- what a node is: its kind or fact
abbrev pub what_at : Kept → ℕ → List ℕ
what_at tree y = option_map_or (λ (m : Member). m.what) (member (forest tree) y) []

-- the mark of the token at a node: the number of its class, its fact and its date, and what is
-- spared
abbrev pub mark_at : Kept → ℕ → ℕ → (ℕ → Bool) → Mark
mark_at tree x number spares = record { class = number; fact = what_at tree x; from = early (present tree) x; spares = spares }

-- the mark asks for the row of number i, of this rule, and its event is no earlier
abbrev pub Calls : Standing → State → Table Pair 8 → Mark → ℕ → TableRow Pair 8 → List ℕ → Type 0
Calls s st t mark i row rule = IsAsLate st mark.from row × AsksFor s t mark i row.value.trigger rule

-- Those rows wait on which the token at node x may bear, at events no earlier: those that read its
-- class, but where it is spared, and those whose rules read what contradicts it.
pub record MarksReaders (s : Standing) (net : Net) (tree : Kept) (moving : List ℕ) (x : ℕ) (class : List ℕ) (old new : Decisions) : Type 0 where
  pub rows : new.rows ≡ old.rows
  pub rules : new.rules ≡ old.rules
  pub number : ℕ
  pub numbered : place_in new.classes class ≡ Some number
  pub spares : ℕ → Bool
  pub spared : (t : ℕ) → spares t ≡ true → IsSparedBy net (forest tree) moving x t
  pub marks : Marks (present tree) (table_of old) (λ i row. Calls s (present tree) (table_of old) (mark_at tree x number spares) i row (rule_in old row)) (dates_in old.waiting) (dates_in new.waiting)

-- those rows wait on which a token of the class and the fact may bear, at events no earlier than
-- the date: those that read the class, and those whose rules read what contradicts the fact
pub record MarksToken (s : Standing) (st : State) (class fact : List ℕ) (from : ℤ) (old new : Decisions) : Type 0 where
  pub rows : new.rows ≡ old.rows
  pub rules : new.rules ≡ old.rules
  pub number : ℕ
  pub numbered : place_in new.classes class ≡ Some number
  pub marks : Marks st (table_of old) (λ i row. (IsListedUnder (table_of old) number i ⊎ (reads_rival s (rule_in old row) fact ≡ true)) × IsAsLate st from row)
      (dates_in old.waiting) (dates_in new.waiting)
