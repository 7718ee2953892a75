use Rattle.std.proofs.Common.{◌≡◌, ◌∙◌, ◌<◌, List, sym, ap, subst, Some, None, length, slice_index_or, arith}
use Rattle.std.specs.List.{All}
use Rattle.tmm_model.specs.declared.token.TokenRow.{TokenRow}
use Rattle.tmm_model.specs.Answers.{clipped}
use Rattle.tmm_model.specs.Beliefs.{holder, token_of}
use Rattle.tmm_model.specs.Standing.{far_in}
use Rattle.supports.specs.Entries.{fact_at, node_at as number_at}
use Rattle.clipping.specs.declared.across.Fault.TheVariants.{Late, Clipped, Ends}
use Rattle.spots.specs.declared.spot.Spot.{Spot}
use Rattle.spots.specs.declared.spot.Spot.TheVariants.{Node}
use Rattle.spots.specs.Forest.{IsLive, moment_at}
use Rattle.spots.specs.Spots.{spot_moment}
use Rattle.occ_tree.specs.Places.{forest}
use Rattle.occ_tree.specs.Standing.{present}
use Rattle.supports.specs.Nodes.{IsOfNode}
use Rattle.supports.proofs.AmongLists.{is_class_list}
use Rattle.supports.proofs.AtPlaces.{own_place, no_support_here, fault_here, cutter_placed}
use Rattle.supports.proofs.ByDate.{tree_in}
use Rattle.supports.proofs.ListsThere.{nodes_at, all_live, all_by_date, node_live}
use Rattle.supports.proofs.TokenRows.{no_row}
use Rattle.supports.proofs.blame.Goals as goal

pub invariant_of-tokens : goal.invariant_of-tokens
invariant_of-tokens c = record { own_is = (own_place (forest c.args.map.now.tree.now) (present c.args.map.now.tree.now).tokens c.have_tokens.ensures.rows c.args.rows.now c.requires.rows c.args.at c.requires.within c.index-rows-at.result c.index-rows-at.is).rows_are }

pub blame-requires-clause-all_live : goal.blame-requires-clause-all_live
blame-requires-clause-all_live c =
    all_live (tree_in c.requires.seen) c.args.map.now.standing.now.present c.index-rows-at.result.fact c.index-rows-at.result.class c.have_tokens.ensures.rows

pub blame-requires-clause-by_date : goal.blame-requires-clause-by_date
blame-requires-clause-by_date c =
    all_by_date (tree_in c.requires.seen) c.args.map.now.standing.now.present c.index-rows-at.result.fact c.index-rows-at.result.class c.have_tokens.ensures.rows c.have_tokens.ensures.in_order

pub blame-requires-clause-by_class : goal.blame-requires-clause-by_class
blame-requires-clause-by_class c =
    is_class_list c.args.map.now.standing.now.present (present c.args.map.now.tree.now).tokens c.index-rows-at.result.fact c.index-rows-at.result.class (forest c.args.map.now.tree.now) c.have_tokens.ensures.rows

pub blame-requires-clause-within : goal.blame-requires-clause-within
blame-requires-clause-within c =
    let own = own_place (forest c.args.map.now.tree.now) (present c.args.map.now.tree.now).tokens c.have_tokens.ensures.rows c.args.rows.now c.requires.rows c.args.at c.requires.within c.index-rows-at.result c.index-rows-at.is in
    record { list = omega arith; within = own.within }

pub blame-requires-clause-no_supporter : goal.blame-requires-clause-no_supporter
blame-requires-clause-no_supporter c =
    let row = c.index-rows-at.result in
    let own = own_place (forest c.args.map.now.tree.now) (present c.args.map.now.tree.now).tokens c.have_tokens.ensures.rows c.args.rows.now c.requires.rows c.args.at c.requires.within c.index-rows-at.result c.index-rows-at.is in
    let (b, holds, none) = c.requires.no_supporter in
    no_support_here c.args.map.now.standing.now.present c.args.map.now.net.now.present (forest c.args.map.now.tree.now) (present c.args.map.now.tree.now).tokens row.fact row.class c.requires.seen.seen c.have_tokens.ensures.rows c.args.at own.within own.fact_is c.args.p c.args.q c.requires.p c.requires.q b holds
    (subst (λ w. holder c.args.map.now.standing.now.present (far_in c.args.map.now.standing.now.present.premises) b w (spot_moment c.args.map.now.net.now.present.names (forest c.args.map.now.tree.now) c.args.p) (spot_moment c.args.map.now.net.now.present.names (forest c.args.map.now.tree.now) c.args.q) ≡ None) (ap (λ rows. fact_at rows c.args.at) own.rows_are ∙ own.fact_is) none)

pub list-requires : goal.list-requires
list-requires c =
    let row = c.index-rows-at.result in
    let own = own_place (forest c.args.map.now.tree.now) (present c.args.map.now.tree.now).tokens c.have_tokens.ensures.rows c.args.rows.now c.requires.rows c.args.at c.requires.within c.index-rows-at.result c.index-rows-at.is in
    let placed = cutter_placed c.args.map.now.standing.now.present c.args.map.now.net.now.present (forest c.args.map.now.tree.now) (present c.args.map.now.tree.now).tokens row.fact row.class c.args.at c.args.p c.args.q c.in-Clipped.c own.within c.in-Clipped.ensures in
    record { within = placed.list }

pub node_at-requires-clause-within : goal.node_at-requires-clause-within
node_at-requires-clause-within c =
    let row = c.index-rows-at.result in
    let own = own_place (forest c.args.map.now.tree.now) (present c.args.map.now.tree.now).tokens c.have_tokens.ensures.rows c.args.rows.now c.requires.rows c.args.at c.requires.within c.index-rows-at.result c.index-rows-at.is in
    let placed = cutter_placed c.args.map.now.standing.now.present c.args.map.now.net.now.present (forest c.args.map.now.tree.now) (present c.args.map.now.tree.now).tokens row.fact row.class c.args.at c.args.p c.args.q c.in-Clipped.c own.within c.in-Clipped.ensures in
    subst (λ (rows : List (TokenRow Spot)). c.in-Clipped.c.at < length rows) (sym c.list.ensures) placed.within

pub node_at-requires-clause-nodes : goal.node_at-requires-clause-nodes
node_at-requires-clause-nodes c =
    let row = c.index-rows-at.result in
    let own = own_place (forest c.args.map.now.tree.now) (present c.args.map.now.tree.now).tokens c.have_tokens.ensures.rows c.args.rows.now c.requires.rows c.args.at c.requires.within c.index-rows-at.result c.index-rows-at.is in
    let placed = cutter_placed c.args.map.now.standing.now.present c.args.map.now.net.now.present (forest c.args.map.now.tree.now) (present c.args.map.now.tree.now).tokens row.fact row.class c.args.at c.args.p c.args.q c.in-Clipped.c own.within c.in-Clipped.ensures in
    subst (All IsOfNode) (sym c.list.ensures) (nodes_at (tree_in c.requires.seen) c.args.map.now.standing.now.present row.fact row.class c.have_tokens.ensures.rows c.in-Clipped.c.list placed.list)

pub returns-in-Clipped-clause-live : goal.returns-in-Clipped-clause-live
returns-in-Clipped-clause-live c x e =
    let row = c.index-rows-at.result in
    let own = own_place (forest c.args.map.now.tree.now) (present c.args.map.now.tree.now).tokens c.have_tokens.ensures.rows c.args.rows.now c.requires.rows c.args.at c.requires.within c.index-rows-at.result c.index-rows-at.is in
    let placed = cutter_placed c.args.map.now.standing.now.present c.args.map.now.net.now.present (forest c.args.map.now.tree.now) (present c.args.map.now.tree.now).tokens row.fact row.class c.args.at c.args.p c.args.q c.in-Clipped.c own.within c.in-Clipped.ensures in
    let same : c.node_at.result ≡ x = cc in
    subst (IsLive (forest c.args.map.now.tree.now)) same
    (node_live (tree_in c.requires.seen) c.args.map.now.standing.now.present row.fact row.class c.have_tokens.ensures.rows c.in-Clipped.c.list c.in-Clipped.c.at c.node_at.result placed.list placed.within
    (λ d. subst (λ (rows : List (TokenRow Spot)). (slice_index_or rows c.in-Clipped.c.at d).spot ≡ Node c.node_at.result) c.list.ensures (c.node_at.ensures d)))

pub returns-in-Late-clause-fault : goal.returns-in-Late-clause-fault
returns-in-Late-clause-fault c b k holds token =
    let row = c.index-rows-at.result in
    let own = own_place (forest c.args.map.now.tree.now) (present c.args.map.now.tree.now).tokens c.have_tokens.ensures.rows c.args.rows.now c.requires.rows c.args.at c.requires.within c.index-rows-at.result c.index-rows-at.is in
    fault_here c.args.map.now.standing.now.present c.args.map.now.net.now.present (forest c.args.map.now.tree.now) (present c.args.map.now.tree.now).tokens row.fact row.class c.requires.seen.seen c.have_tokens.ensures.rows c.args.at own.within own.fact_is c.args.p c.args.q c.requires.p c.requires.q Late c.in-Late.ensures b k holds
    (subst (λ rows. token_of c.args.map.now.standing.now.present (moment_at (forest c.args.map.now.tree.now) (number_at rows c.args.at)) ≡ Some k) own.rows_are token)

pub returns-in-Clipped-clause-fault : goal.returns-in-Clipped-clause-fault
returns-in-Clipped-clause-fault c b k holds token =
    let row = c.index-rows-at.result in
    let own = own_place (forest c.args.map.now.tree.now) (present c.args.map.now.tree.now).tokens c.have_tokens.ensures.rows c.args.rows.now c.requires.rows c.args.at c.requires.within c.index-rows-at.result c.index-rows-at.is in
    fault_here c.args.map.now.standing.now.present c.args.map.now.net.now.present (forest c.args.map.now.tree.now) (present c.args.map.now.tree.now).tokens row.fact row.class c.requires.seen.seen c.have_tokens.ensures.rows c.args.at own.within own.fact_is c.args.p c.args.q c.requires.p c.requires.q (Clipped c.in-Clipped.c) c.in-Clipped.ensures b k holds
    (subst (λ rows. token_of c.args.map.now.standing.now.present (moment_at (forest c.args.map.now.tree.now) (number_at rows c.args.at)) ≡ Some k) own.rows_are token)
    ∙ ap (λ z. clipped (spot_moment c.args.map.now.net.now.present.names (forest c.args.map.now.tree.now) z)) (subst (λ (rows : List (TokenRow Spot)). (slice_index_or rows c.in-Clipped.c.at no_row).spot ≡ Node c.node_at.result) c.list.ensures (c.node_at.ensures no_row))

pub returns-in-Ends-clause-fault : goal.returns-in-Ends-clause-fault
returns-in-Ends-clause-fault c b k holds token =
    let row = c.index-rows-at.result in
    let own = own_place (forest c.args.map.now.tree.now) (present c.args.map.now.tree.now).tokens c.have_tokens.ensures.rows c.args.rows.now c.requires.rows c.args.at c.requires.within c.index-rows-at.result c.index-rows-at.is in
    fault_here c.args.map.now.standing.now.present c.args.map.now.net.now.present (forest c.args.map.now.tree.now) (present c.args.map.now.tree.now).tokens row.fact row.class c.requires.seen.seen c.have_tokens.ensures.rows c.args.at own.within own.fact_is c.args.p c.args.q c.requires.p c.requires.q Ends c.in-Ends.ensures b k holds
    (subst (λ rows. token_of c.args.map.now.standing.now.present (moment_at (forest c.args.map.now.tree.now) (number_at rows c.args.at)) ≡ Some k) own.rows_are token)
