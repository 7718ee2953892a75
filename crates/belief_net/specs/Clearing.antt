-- When exactly that is left of the list before which still occurs after an edit.
use Rattle.std.specs.Prelude.{◌≡◌, ℕ, List, Some}
use Rattle.std.specs.List.{Contains}
use Rattle.tmm_model.specs.declared.premise.Edit.{Edit}
use Rattle.tmm_model.specs.Beliefs.{rules_at}
use Rattle.tmm_model.specs.Edits.{next_list}
use Rattle.tmm_model.specs.Standing.{Standing, points_in}
use Rattle.list_theory.specs.WellNamed.{IsSound}
use Rattle.list_theory.proofs.Elements.{In}
use Rattle.belief_theory.specs.Right.{Occurs}
use Rattle.dist_net.specs.Net.{Net}
use Rattle.net_theory.specs.Fits.{IsNetOf}
use Rattle.net_theory.specs.KeptNumbers.{PointsKeepNumbers}
use Rattle.spots.specs.Forest.{Member, member, IsLive, moment, moment_at}
use Rattle.spots.specs.OfLists.{IsForestOf}
use Rattle.undo_rows.specs.declared.row.Row.{Row as TableRow}
use Rattle.decision_rows.specs.declared.row.Pair.{Pair}
use Rattle.occ_tree.specs.Places.{forest}
use Rattle.list_theory.specs.LeftOut.{IsLeftOut}
use Rattle.joined.specs.Netted.{IsCurrent}
use Rattle.joined.specs.Telling.{LeaveFirst}
use Rattle.belief_table.specs.declared.erasing.Departed.{Departed}
use Rattle.belief_table.specs.declared.state.Beliefs.{Beliefs}
use Rattle.belief_table.specs.Decided.{table_of, rule_in, AreUnder}
use Rattle.belief_table.specs.Erasing.{moments_of, ShedsAll, Spares, IsFreeOf}
use Rattle.belief_turns.specs.Turning.{rows_of, IsFit}

-- Of the nodes b has of the list before, e has those that occur in the list after, and of their
-- rows those of rules that stand there.
pub record IsCleared (old new : Standing) (b e : Beliefs) : Type 0 where
  pub occur : (x : ℕ) (m : Member) → member (forest e.tree) x ≡ Some m → Occurs new (moment m)
  pub nodes : (x : ℕ) (m : Member) → member (forest b.tree) x ≡ Some m → Occurs new (moment m) → member (forest e.tree) x ≡ Some m
  pub stand : (i : ℕ) (row : TableRow Pair 8) → (table_of e.decisions).row i ≡ Some row → Contains (rules_at new (moment_at (forest e.tree) row.value.trigger)) (rule_in e.decisions row)
  pub rows : (i : ℕ) (row : TableRow Pair 8) → (table_of b.decisions).row i ≡ Some row → IsLive (forest e.tree) row.value.trigger
      → Contains (rules_at new (moment_at (forest e.tree) row.value.trigger)) (rule_in b.decisions row) → (table_of e.decisions).row i ≡ Some row
  pub under : AreUnder new e.decisions

-- the nodes are seen by the list after, in any network of it in which points keep their numbers
abbrev pub AreSeenAfter : Standing → Net → Beliefs → Type 0
AreSeenAfter new net e = (after : Net) → IsNetOf new after → PointsKeepNumbers (points_in new.premises) net.names after.names → IsForestOf new after (forest e.tree)

-- **When the erased premises are gone, exactly what still occurs is left**, with its rows; and what
-- left is told.
abbrev pub ErasedAreCleared : Type 0
ErasedAreCleared =
    (old : Standing) (edit : Edit) (net : Net) (b e : Beliefs) (all : Departed) (names : List (List ℕ))
    → IsSound (next_list old edit) → IsFit old net b → IsCurrent old net (forest b.tree) (rows_of b) → IsLeftOut old (next_list old edit) names
    → ShedsAll b e all → Spares (next_list old edit) b e → ((name : List ℕ) → In name names → IsFreeOf e name)
    → IsCleared old (next_list old edit) b e × AreSeenAfter (next_list old edit) net e × LeaveFirst old (next_list old edit) (moments_of all.left.items)
