-- The events of a kind, as the rows of a rule on it tell them.
use Rattle.std.specs.Prelude.{◌≡◌, ◌≢◌, ℕ, List, Some}
use Rattle.tmm_model.specs.declared.premise.Premise.{Premise}
use Rattle.tmm_model.specs.declared.premise.Premise.TheVariants.{Rule}
use Rattle.tmm_model.specs.Beliefs.{rules_on}
use Rattle.tmm_model.specs.Standing.{Standing}
use Rattle.list_theory.proofs.Elements.{In}
use Rattle.undo_rows.specs.declared.row.Row.{Row as TableRow}
use Rattle.decision_rows.specs.declared.row.Pair.{Pair}
use Rattle.occ_tree.specs.Standing.{Kept}
use Rattle.belief_table.specs.declared.state.Beliefs.{Beliefs}
use Rattle.belief_table.specs.declared.state.Decisions.{Decisions}
use Rattle.belief_net.specs.Adding.{IsEventOf}
use Rattle.belief_table.specs.Decided.{table_of, rule_in}

-- the rule has a row at the event of node x
abbrev pub HasRowAt : Decisions → ℕ → List ℕ → Type 0
HasRowAt d x rule = (i : ℕ) × (row : TableRow Pair 8) × ((table_of d).row i ≡ Some row) × (row.value.trigger ≡ x) × (rule_in d row ≡ rule)

-- no rule has two rows at one event
abbrev pub HaveOneEach : Decisions → Type 0
HaveOneEach d = (i j : ℕ) (row other : TableRow Pair 8) → (table_of d).row i ≡ Some row → (table_of d).row j ≡ Some other
    → row.value.trigger ≡ other.value.trigger → rule_in d row ≡ rule_in d other → i ≡ j

-- each rule on the kind but this one has its row at each event of the kind
pub record HaveOthers (s : Standing) (tree : Kept) (d : Decisions) (rule kind : List ℕ) : Type 0 where
  pub each : (x : ℕ) (other : List ℕ) → IsEventOf tree kind x → In other (rules_on s kind) → other ≢ rule → HasRowAt d x other
  pub once : HaveOneEach d

-- where the premise is a rule, the others on its kind have their rows
abbrev pub FindsOthers : Standing → Premise → Beliefs → Type 0
FindsOthers s (Rule name trigger lo hi effect given unless_facts) b = HaveOthers s b.tree b.decisions name trigger
FindsOthers s _ b = Unit {0}
