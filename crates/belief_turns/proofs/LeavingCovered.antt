-- What an edit has marked, after nodes leave.
use Rattle.std.proofs.Common.{ℕ, List}
use Rattle.tmm_model.specs.Standing.{Standing}
use Rattle.dist_net.specs.Net.{Net}
use Rattle.occ_tree.specs.Edits.{Withdraws}
use Rattle.occ_tree.specs.Standing.{Kept, present}
use Rattle.belief_table.specs.declared.state.Decisions.{Decisions}
use Rattle.marking.specs.EditMarks.{Marked}
use Rattle.marking.specs.Covered.{Covers}
use Rattle.belief_turns.specs.Leaving.{LosesRows, AreBelow}
use Rattle.marking.proofs.Covering.{dates_covered}

pub withdrawn_covered : (s : Standing) (net : Net) (old new : Kept) (x : ℕ) (numbers : List ℕ) (before after : Decisions) (m : Marked)
    → AreBelow old x numbers → Withdraws old new x → LosesRows s net old numbers numbers before after → Covers s (present old) after m → Covers s (present new) after m
withdrawn_covered s net old new x numbers before after m below takes lost =
    dates_covered s (present old) (present new) after m (λ i r here. takes.shrinks.dates r.value.trigger (λ under. lost.none i r here ((below r.value.trigger).1 under)))
