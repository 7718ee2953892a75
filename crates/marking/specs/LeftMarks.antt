-- Rows that wait since tokens left with erased premises, and those that rest.
use Rattle.std.specs.Prelude.{◌≡◌, ◌⊎◌, ℕ, pos, true, false, List, Some}
use Rattle.tmm_model.specs.Beliefs.{are_rivals}
use Rattle.tmm_model.specs.Standing.{Standing}
use Rattle.list_theory.proofs.Elements.{In}
use Rattle.dist_net.specs.Net.{Net}
use Rattle.undo_rows.specs.declared.row.Row.{Row as TableRow}
use Rattle.undo_rows.specs.Tables.{Table, AreListed}
use Rattle.decision_rows.specs.declared.row.Pair.{Pair}
use Rattle.occ_tree.specs.Classes.{place_in, HaveMore}
use Rattle.occ_tree.specs.Standing.{State, forest as forest_of}
use Rattle.joined.specs.Gaps.{reads_rival}
use Rattle.joined.specs.Listed.{IsListedUnder}
use Rattle.belief_table.specs.declared.erasing.Departed.{Departed}
use Rattle.bearing.specs.declared.gone_tokens.Gone.{Gone}
use Rattle.belief_table.specs.declared.state.Decisions.{Decisions}
use Rattle.belief_table.specs.Decided.{table_of, rule_in}
use Rattle.bearing.specs.Gone.{BoreNot}
use Rattle.belief_table.specs.Marks.{Marks, Wakes, WakesOf, IsAsLate}
use Rattle.belief_table.specs.Waiting.{Dates, dates_in}

-- the row of number i may read a token of one of these classes, by the numbers of classes
abbrev pub ReadsOneOf : Table Pair 8 → List (List ℕ) → List (List ℕ) → ℕ → Type 0
ReadsOneOf t numbers classes i = (class : List ℕ) × (k : ℕ) × In class classes × (place_in numbers class ≡ Some k) × IsListedUnder t k i

-- those rows wait that may read a token of one of these classes
pub record MarksClasses (s : State) (classes : List (List ℕ)) (old new : Decisions) : Type 0 where
  pub rows : new.rows ≡ old.rows
  pub rules : new.rules ≡ old.rules
  pub listed : AreListed (table_of old)
  pub more : HaveMore old.classes new.classes
  pub numbered : (class : List ℕ) → In class classes → (k : ℕ) × (place_in new.classes class ≡ Some k)
  pub marks : Marks s (table_of old) (λ i row. ReadsOneOf (table_of old) new.classes classes i × IsAsLate s (pos 0) row) (dates_in old.waiting) (dates_in new.waiting)

-- the rule reads what contradicts one of these facts
abbrev pub ReadsRivalOf : Standing → List ℕ → List (List ℕ) → Type 0
ReadsRivalOf s r facts = (fact : List ℕ) × In fact facts × (reads_rival s r fact ≡ true)

-- those rows wait whose rules do
pub record MarksFacts (s : Standing) (st : State) (facts : List (List ℕ)) (old new : Decisions) : Type 0 where
  pub same : new ≡ record old { waiting = new.waiting }
  pub marks : Marks st (table_of old) (λ i row. ReadsRivalOf s (rule_in old row) facts × IsAsLate st (pos 0) row) (dates_in old.waiting) (dates_in new.waiting)

-- all rows have been looked at that read the class of a token that left: of these those that do not
-- wait are at events at which it bore on no decision
abbrev pub WakesGone : State → Table Pair 8 → Net → Gone → (ℕ → Type 0) → Dates → Dates → Type 0
WakesGone s t net gone = WakesOf s t (λ x. Unit {0}) (BoreNot net (forest_of s) gone)

-- so they have, by the number that its class has now
pub record MarksGone (net : Net) (s : State) (gone : Gone) (old new : Decisions) : Type 0 where
  pub rows : new.rows ≡ old.rows
  pub rules : new.rules ≡ old.rules
  pub number : ℕ
  pub numbered : place_in new.classes gone.class ≡ Some number
  pub wakes : WakesGone s (table_of old) net gone (IsListedUnder (table_of old) number) (dates_in old.waiting) (dates_in new.waiting)

-- the row of number i reads the class of one of these tokens, by the numbers of classes
abbrev pub ReadsGone : Table Pair 8 → List (List ℕ) → List Gone → ℕ → Type 0
ReadsGone t numbers tokens i = (gone : Gone) × (k : ℕ) × In gone tokens × (place_in numbers gone.class ≡ Some k) × IsListedUnder t k i

-- no token of a class that the row reads bore on a decision at its event
abbrev pub RestsFromGone : Net → State → Table Pair 8 → List (List ℕ) → List Gone → ℕ → TableRow Pair 8 → Type 0
RestsFromGone net s t numbers tokens i row = (gone : Gone) (k : ℕ) → In gone tokens → place_in numbers gone.class ≡ Some k → IsListedUnder t k i → BoreNot net (forest_of s) gone row.value.trigger

-- all rows have been looked at that read a class of one of these tokens
pub record MarksTokens (net : Net) (s : State) (tokens : List Gone) (old new : Decisions) : Type 0 where
  pub rows : new.rows ≡ old.rows
  pub rules : new.rules ≡ old.rules
  pub listed : AreListed (table_of old)
  pub more : HaveMore old.classes new.classes
  pub numbered : (gone : Gone) → In gone tokens → (k : ℕ) × (place_in new.classes gone.class ≡ Some k)
  pub wakes : Wakes s (table_of old) (λ i row. ReadsGone (table_of old) new.classes tokens i) (RestsFromGone net s (table_of old) new.classes tokens) (dates_in old.waiting) (dates_in new.waiting)

-- no premise of either list says that facts contradict each other
abbrev pub SayNone : Standing → Standing → Type 0
SayNone was s = (f g : List ℕ) → (are_rivals was f g ≡ false) × (are_rivals s f g ≡ false)

-- no premise says so, and no token of a class that the row reads bore on a decision at its event; or
-- it reads none
abbrev pub RestsFromAll : Standing → Standing → Net → State → Table Pair 8 → List (List ℕ) → List Gone → ℕ → TableRow Pair 8 → Type 0
RestsFromAll was s net st t numbers tokens i row =
    IsAsLate st (pos 0) row → (gone : Gone) (k : ℕ) → In gone tokens → place_in numbers gone.class ≡ Some k → IsListedUnder t k i
    → SayNone was s × BoreNot net (forest_of st) gone row.value.trigger

-- all rows have been looked at that read one of these classes, which are those of the tokens
pub record MarksRead (was s : Standing) (net : Net) (st : State) (classes : List (List ℕ)) (tokens : List Gone) (old new : Decisions) : Type 0 where
  pub rows : new.rows ≡ old.rows
  pub rules : new.rules ≡ old.rules
  pub listed : AreListed (table_of old)
  pub more : HaveMore old.classes new.classes
  pub numbered : (gone : Gone) → In gone tokens → (k : ℕ) × (place_in new.classes gone.class ≡ Some k)
  pub wakes : Wakes st (table_of old) (λ i row. ReadsOneOf (table_of old) new.classes classes i) (RestsFromAll was s net st (table_of old) new.classes tokens) (dates_in old.waiting) (dates_in new.waiting)

-- Of the rows that read a class of a token that left, or whose rules read what contradicts its fact,
-- those wait on which it may have borne.
pub record MarksLeft (was s : Standing) (net : Net) (st : State) (left : Departed) (old new : Decisions) : Type 0 where
  pub rows : new.rows ≡ old.rows
  pub rules : new.rules ≡ old.rules
  pub listed : AreListed (table_of old)
  pub more : HaveMore old.classes new.classes
  pub numbered : (gone : Gone) → In gone left.tokens.items → (k : ℕ) × (place_in new.classes gone.class ≡ Some k)
  pub wakes : Wakes st (table_of old) (λ i row. ReadsOneOf (table_of old) new.classes left.classes i ⊎ ReadsRivalOf s (rule_in old row) left.facts)
      (λ i row. RestsFromAll was s net st (table_of old) new.classes left.tokens.items i row × (ReadsRivalOf s (rule_in old row) left.facts → IsAsLate st (pos 0) row → ⊥))
      (dates_in old.waiting) (dates_in new.waiting)
