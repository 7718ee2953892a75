use Rattle.std.proofs.Common.{◌∙◌, ◌-◌, ap, sym, subst, map}
use Rattle.std.specs.List.{All}
use Rattle.tmm_model.specs.Answers.{fails, most_blames}
use Rattle.tmm_model.specs.Maps.{built}
use Rattle.spots.specs.Spots.{spot_moment}
use Rattle.occ_tree.specs.Places.{forest}
use Rattle.supports.proofs.ByDate.{tree_in}
use Rattle.tt_query.specs.Firsts.{blame_at, placed_nodes, HasNoSupporter}
use Rattle.tt_query.proofs.FirstNodes.{nodes_sorted, placed_all}
use Rattle.tt_query.proofs.FirstTokens.{found_is, no_supporters}
use Rattle.tt_query.proofs.asking.blamed.Goals as goal

pub blames-requires-clause-none : goal.blames-requires-clause-none
blames-requires-clause-none c =
    let s = c.args.map.now.standing.now.present in
    let n = c.args.map.now.net.now.present in
    let f = forest c.args.map.now.tree.now in
    let p = spot_moment n.names f c.args.p in
    let q = spot_moment n.names f c.args.q in
    placed_all (HasNoSupporter s f p q) c.as_slice.result.now
    (subst (All (HasNoSupporter s f p q)) (sym (ap placed_nodes c.as_slice.ensures.value ∙ c.first_tokens-first.ensures.nodes))
    (no_supporters s n f c.requires.seen.seen c.requires.holds c.args.fact c.in-Some.class (sym c.class_of.ensures ∙ c.in-Some.is) c.tokens-rows.result.now c.tokens-rows.ensures.rows p q c.requires.none))

pub blames-requires-clause-rows : goal.blames-requires-clause-rows
blames-requires-clause-rows c = (c.in-Some.class, c.tokens-rows.ensures.list)

pub blames-requires-clause-tokens : goal.blames-requires-clause-tokens
blames-requires-clause-tokens c = (c.in-Some.class, c.tokens-rows.ensures.rows)

pub returns : goal.returns
returns c =
    let s = c.args.map.now.standing.now.present in
    let n = c.args.map.now.net.now.present in
    let f = forest c.args.map.now.tree.now in
    let p = spot_moment n.names f c.args.p in
    let q = spot_moment n.names f c.args.q in
    let rows = c.tokens-rows.result.now in
    let up = nodes_sorted (tree_in c.requires.seen) c.in-Some.class rows c.tokens-rows.ensures.rows c.tokens-rows.ensures.in_order c.args.fact in
    (λ i. fails ((c.in_ok-blames.ensures ∙ ap (map (blame_at (built s) f p q)) (ap placed_nodes c.as_slice.ensures.value ∙ c.first_tokens-first.ensures.nodes)) i)
    ((c.saturating_sub.ensures ∙ ap (λ k. k - most_blames) c.first_tokens-first.ensures.count) i))
    ∙ sym (found_is s n f c.requires.seen.seen c.requires.holds c.args.fact c.in-Some.class (sym c.class_of.ensures ∙ c.in-Some.is) rows c.tokens-rows.ensures.rows up p q)
