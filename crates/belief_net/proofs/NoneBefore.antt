-- No event is before 0.
use Rattle.std.proofs.Common.{◌≡◌, ℕ, Some, sym, subst}
use Rattle.std.specs.Prelude.{pos, ◌≤ℤ◌}
use Rattle.tmm_model.specs.Standing.{Standing}
use Rattle.belief_theory.proofs.SoundBeliefs.{sound_timed}
use Rattle.dist_net.specs.Net.{Net}
use Rattle.spots.specs.Forest.{moment_at}
use Rattle.spots.proofs.Seen.{occurs_at}
use Rattle.undo_rows.specs.declared.row.Row.{Row as TableRow}
use Rattle.decision_rows.specs.declared.row.Pair.{Pair}
use Rattle.occ_tree.specs.Places.{forest}
use Rattle.occ_tree.specs.Standing.{present}
use Rattle.belief_table.specs.declared.state.Beliefs.{Beliefs}
use Rattle.belief_table.specs.Decided.{table_of}
use Rattle.belief_table.specs.Marks.{IsAsLate}
use Rattle.belief_turns.specs.Turning.{IsFit}
use Rattle.belief_turns.proofs.Turned.{date_is}

-- no event is before 0
pub none_before_0 : (s : Standing) (net : Net) (b : Beliefs) → IsFit s net b → (i : ℕ) (row : TableRow Pair 8) → (table_of b.decisions).row i ≡ Some row → IsAsLate (present b.tree) (pos 0) row
none_before_0 s net b fit i row at =
    let live = fit.events i row at in
    subst (λ z. pos 0 ≤ℤ z) (sym (date_is s net b fit row.value.trigger live))
    ((sound_timed s fit.tree.seen.network.sound).not_before_start (moment_at (forest b.tree) row.value.trigger) (occurs_at s net (forest b.tree) fit.tree.seen row.value.trigger live))
