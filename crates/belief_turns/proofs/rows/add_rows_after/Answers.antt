use Rattle.std.proofs.Common.{sym, subst}
use Rattle.std.specs.List.{All}
use Rattle.projection.specs.Places.{IsRuleAt}
use Rattle.belief_turns.proofs.rows.add_rows_after.Goals as goal

pub add_rows_at-requires-clause-places : goal.add_rows_at-requires-clause-places
add_rows_at-requires-clause-places c = subst (All (IsRuleAt c.args.standing.now.present)) (sym c.places.ensures) (c.in_ok-ask.ensures.told c.if-not-branch.false).rules
