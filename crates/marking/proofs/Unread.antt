-- Rows of rules that read nothing.
use Rattle.std.proofs.Common.{refl, inl, inr}
use Rattle.std.proofs.lemmas.Bool.{cases_Bool}
use Rattle.std.specs.Prelude.{pos}
use Rattle.tmm_model.specs.Standing.{Standing}
use Rattle.spots.specs.declared.spot.Spot.TheVariants.{Declared, Node}
use Rattle.spots.specs.Forest.{Forest}
use Rattle.spots.specs.Spots.{base_of}
use Rattle.undo_rows.specs.declared.row.Row.{Row as TableRow}
use Rattle.decision_rows.specs.declared.row.Pair.{Pair}
use Rattle.bearing.specs.declared.what_moved.Moves.{Moves}
use Rattle.belief_table.specs.declared.state.Decisions.{Decisions}
use Rattle.bearing.specs.PointSets.{has_pair}
use Rattle.marking.specs.Woken.{MovesFrom, KeepsDate}

-- an event that is no other distance from `start` keeps its date
pub keeps_date : (moves : Moves) (list : Standing) (f : Forest) (d : Decisions) (row : TableRow Pair 8) → (MovesFrom moves f row.value.trigger → ⊥) → KeepsDate moves list f d row
keeps_date moves list f d row still none = elim (cases_Bool (has_pair moves.pairs.items (base_of f (Node row.value.trigger)) 0)) [
  | inl pair ↦ absurd (still (record { from = Node row.value.trigger; to = Declared 0; from_is = inr refl; to_is = inl refl; most = pos 0; bounded = refl; moved = pair }))
  | inr none_moved ↦ none_moved
]
