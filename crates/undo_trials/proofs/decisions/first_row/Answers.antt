use Rattle.std.proofs.Common.{◌≡◌, ℕ, Option, Some, None, IsSome, IfSome}
use Rattle.row_links.specs.Lists.{first_or}
use Rattle.undo_rows.specs.Tables.{Table, AreListed}
use Rattle.undo_rows.specs.Changes.{present}
use Rattle.undo_rows.proofs.First.{first_is_there}
use Rattle.decision_rows.specs.declared.row.Pair.{Pair}
use Rattle.undo_trials.proofs.decisions.first_row.Goals as goal

there_if_some : (t : Table Pair 8) (f h : ℕ) (o : Option ℕ) → AreListed t → o ≡ first_or None (t.list f h) → IfSome o (λ x. IsSome (t.row x))
there_if_some t f h None listed is = tt
there_if_some t f h (Some x) listed is = first_is_there t f h x listed is

pub returns : goal.returns
returns c = there_if_some (present c.args.rows.now) c.args.family c.args.head c.first.result c.first.ensures.listed c.first.ensures.first
