use Rattle.std.proofs.Common.{arith}
use Rattle.undo_rows.specs.Changes.{present}
use Rattle.undo_rows.proofs.First.{first_is_on}
use Rattle.undo_trials.proofs.rows.second.Goals as goal

pub next-requires : goal.next-requires
next-requires c = (omega arith, (c.args.head, first_is_on c.in_ok-first.field-0 ((present c.args.rows.now).list c.args.family c.args.head) c.in_ok-first.ensures.first))
