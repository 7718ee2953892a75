use Rattle.std.proofs.Common.{◌∙◌, sym, ap, Some, None}
use Rattle.std.specs.Option.{option_map}
use Rattle.spots.specs.Forest.{moment_at}
use Rattle.spots.specs.Spots.{spot_moment}
use Rattle.occ_tree.specs.Places.{forest}
use Rattle.supports.proofs.ByDate.{tree_in, by_date}
use Rattle.supports.proofs.Answered.{holder_is}
use Rattle.supports.proofs.TokenRows.{no_row, rows_live, rows_of_nodes, live_at_place}
use Rattle.supports.proofs.alone.supporter.Goals as goal

pub first_holder-requires-clause-live : goal.first_holder-requires-clause-live
first_holder-requires-clause-live c = rows_live c.requires.seen c.tokens-rows.ensures.rows

pub returns-in_err-place-clause-first : goal.returns-in_err-place-clause-first
returns-in_err-place-clause-first c b holds =
    ap (option_map (moment_at (forest c.args.map.now.tree.now))) c.from_residual.ensures
    ∙ holder_is c.requires.seen.seen c.tokens-rows.ensures.rows holds
    c.args.fact (sym c.class_of.ensures ∙ c.in-Some.is) c.requires.alone c.args.p c.args.q c.requires.p c.requires.q None c.in_err-place.ensures no_row

pub node_at-requires-clause-nodes : goal.node_at-requires-clause-nodes
node_at-requires-clause-nodes c = rows_of_nodes c.requires.seen.seen c.tokens-rows.ensures.rows

pub returns-clause-live : goal.returns-clause-live
returns-clause-live c = live_at_place c.requires.seen.seen c.tokens-rows.ensures.rows c.in_ok-place.place c.node_at.result c.in_ok-place.ensures.within c.node_at.ensures

pub returns-clause-first : goal.returns-clause-first
returns-clause-first c b holds =
    ap (λ z. Some (spot_moment c.args.map.now.net.now.present.names (forest c.args.map.now.tree.now) z)) (sym (c.node_at.ensures no_row))
    ∙ holder_is c.requires.seen.seen c.tokens-rows.ensures.rows holds
    c.args.fact (sym c.class_of.ensures ∙ c.in-Some.is) c.requires.alone c.args.p c.args.q c.requires.p c.requires.q (Some c.in_ok-place.place) c.in_ok-place.ensures no_row

pub first_holder-requires-clause-by_date : goal.first_holder-requires-clause-by_date
first_holder-requires-clause-by_date c = by_date (tree_in c.requires.seen) c.tokens-rows.ensures.rows c.tokens-rows.ensures.in_order
