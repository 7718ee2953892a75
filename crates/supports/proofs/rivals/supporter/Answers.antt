use Rattle.std.proofs.Common.{◌≡◌, ◌∙◌, ◌<◌, List, sym, ap, subst, Some, None, length, slice_index_or, arith}
use Rattle.std.specs.List.{All}
use Rattle.std.specs.Option.{option_map}
use Rattle.tmm_model.specs.declared.token.TokenRow.{TokenRow}
use Rattle.spots.specs.declared.spot.Spot.{Spot}
use Rattle.spots.specs.declared.spot.Spot.TheVariants.{Node}
use Rattle.spots.specs.Forest.{moment_at}
use Rattle.spots.specs.Spots.{spot_moment}
use Rattle.occ_tree.specs.Places.{forest}
use Rattle.occ_tree.specs.Standing.{present}
use Rattle.supports.specs.Nodes.{IsOfNode}
use Rattle.supports.proofs.AmongLists.{is_class_list, holder_among}
use Rattle.supports.proofs.ByDate.{tree_in}
use Rattle.supports.proofs.ListsThere.{all_live, all_by_date, nodes_at}
use Rattle.supports.proofs.TokenRows.{no_row, live_at_place}
use Rattle.supports.proofs.rivals.supporter.Goals as goal

pub holder-requires-clause-all_live : goal.holder-requires-clause-all_live
holder-requires-clause-all_live c = all_live (tree_in c.requires.seen) c.args.map.now.standing.now.present c.args.fact c.in-Some.class c.have_tokens.ensures.rows

pub holder-requires-clause-by_date : goal.holder-requires-clause-by_date
holder-requires-clause-by_date c = all_by_date (tree_in c.requires.seen) c.args.map.now.standing.now.present c.args.fact c.in-Some.class c.have_tokens.ensures.rows c.have_tokens.ensures.in_order

pub holder-requires-clause-by_class : goal.holder-requires-clause-by_class
holder-requires-clause-by_class c = is_class_list c.args.map.now.standing.now.present (present c.args.map.now.tree.now).tokens c.args.fact c.in-Some.class (forest c.args.map.now.tree.now) c.have_tokens.ensures.rows

pub returns-in_err-place-clause-first : goal.returns-in_err-place-clause-first
returns-in_err-place-clause-first c b holds =
    ap (option_map (moment_at (forest c.args.map.now.tree.now))) c.from_residual.ensures
    ∙ holder_among c.requires.seen.seen holds (present c.args.map.now.tree.now).tokens c.have_tokens.ensures.rows c.args.fact c.in-Some.class (sym c.class_of.ensures ∙ c.in-Some.is)
    c.args.p c.args.q c.requires.p c.requires.q None c.in_err-place.ensures no_row

pub node_at-requires-clause-within : goal.node_at-requires-clause-within
node_at-requires-clause-within c = subst (λ (rows : List (TokenRow Spot)). c.in_ok-place.place < length rows) (sym c.list.ensures) c.in_ok-place.ensures.within

pub node_at-requires-clause-nodes : goal.node_at-requires-clause-nodes
node_at-requires-clause-nodes c = subst (All IsOfNode) (sym c.list.ensures) (nodes_at (tree_in c.requires.seen) c.args.map.now.standing.now.present c.args.fact c.in-Some.class c.have_tokens.ensures.rows 0 (omega arith))

pub returns-clause-live : goal.returns-clause-live
returns-clause-live c =
    live_at_place c.requires.seen.seen (c.have_tokens.ensures.rows c.in-Some.class) c.in_ok-place.place c.node_at.result c.in_ok-place.ensures.within
    (λ d. subst (λ (rows : List (TokenRow Spot)). (slice_index_or rows c.in_ok-place.place d).spot ≡ Node c.node_at.result) c.list.ensures (c.node_at.ensures d))

pub returns-clause-first : goal.returns-clause-first
returns-clause-first c b holds =
    ap (λ z. Some (spot_moment c.args.map.now.net.now.present.names (forest c.args.map.now.tree.now) z)) (sym (subst (λ (rows : List (TokenRow Spot)). (slice_index_or rows c.in_ok-place.place no_row).spot ≡ Node c.node_at.result) c.list.ensures (c.node_at.ensures no_row)))
    ∙ holder_among c.requires.seen.seen holds (present c.args.map.now.tree.now).tokens c.have_tokens.ensures.rows c.args.fact c.in-Some.class (sym c.class_of.ensures ∙ c.in-Some.is)
    c.args.p c.args.q c.requires.p c.requires.q (Some c.in_ok-place.place) c.in_ok-place.ensures no_row
