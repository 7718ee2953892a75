use Rattle.std.proofs.Common.{◌∙◌, sym}
use Rattle.supports.proofs.ByDate.{tree_in, by_date}
use Rattle.supports.proofs.Answered.{support_is}
use Rattle.supports.proofs.TokenRows.{rows_live}
use Rattle.supports.proofs.alone.is_supported.Goals as goal

pub is_held-requires-clause-live : goal.is_held-requires-clause-live
is_held-requires-clause-live c = rows_live c.requires.seen c.tokens-rows.ensures.rows

pub returns : goal.returns
returns c b holds =
    c.is_held.ensures
    ∙ support_is c.requires.seen.seen c.tokens-rows.ensures.rows holds
    c.args.fact (sym c.class_of.ensures ∙ c.in-Some.is) c.requires.alone c.args.p c.args.q c.requires.p c.requires.q

pub is_held-requires-clause-by_date : goal.is_held-requires-clause-by_date
is_held-requires-clause-by_date c = by_date (tree_in c.requires.seen) c.tokens-rows.ensures.rows c.tokens-rows.ensures.in_order
