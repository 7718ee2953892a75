use Rattle.std.proofs.Common.{arith}
use Rattle.undo_rows.specs.Changes.{present as table}
use Rattle.occ_tree.specs.Places.{forest}
use Rattle.occ_tree.specs.Standing.{present}
use Rattle.bearing.specs.Gone.{BoreNot}
use Rattle.belief_table.specs.Waiting.{dates_in}
use Rattle.marking.proofs.Waking.{under_none, under_next, under_all}
use Rattle.marking.proofs.tokens_departed.wake_under.Goals as goal

pub loop-place-init : goal.loop-place-init
loop-place-init c =
    under_none (present c.args.tree.now) (table c.args.rows.now) (λ x. Unit {0}) (BoreNot c.args.net.now.committed (forest c.args.tree.now) c.args.gone.now) c.args.number (dates_in c.args.waiting.now)

pub loop-place-preserved : goal.loop-place-preserved
loop-place-preserved c =
    under_next (present c.args.tree.now) (table c.args.rows.now) (λ x. Unit {0}) (BoreNot c.args.net.now.committed (forest c.args.tree.now) c.args.gone.now) c.loop-place.place c.args.number
    (dates_in c.args.waiting.now) (dates_in c.loop-place.waiting) (dates_in c.wake_list.new.waiting) c.loop-place.invariant c.in_ok-wake_list.ensures

pub returns : goal.returns
returns c =
    under_all (present c.args.tree.now) (table c.args.rows.now) (λ x. Unit {0}) (BoreNot c.args.net.now.committed (forest c.args.tree.now) c.args.gone.now) c.loop-place.place c.args.number
    (dates_in c.args.waiting.now) (dates_in c.loop-place.waiting) (omega arith) c.loop-place.invariant
