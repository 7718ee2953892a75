use Rattle.std.proofs.Common.{◌≡◌, ◌∙◌, ◌+◌, [], ◌∷◌, ◌++◌, map, take, sym, ap}
use Rattle.std.specs.Prelude.{slice_index_or}
use Rattle.std.proofs.lemmas.List.{take_more, map-append}
use Rattle.tmm_model.specs.Answers.{blame_of}
use Rattle.tmm_model.specs.Maps.{built}
use Rattle.spots.specs.Spots.{spot_moment}
use Rattle.occ_tree.specs.Places.{forest}
use Rattle.tt_query.specs.declared.firsts.Placed.{Placed}
use Rattle.tt_query.specs.Firsts.{blame_at, placed_nodes}
use Rattle.tt_query.proofs.asking.blames.Goals as goal

pub blame_token-requires-clause-none : goal.blame_token-requires-clause-none
blame_token-requires-clause-none c = c.requires.none c.loop-token.token-index (record { node = 0; place = 0 }) c.loop-token-test.true

pub loop-token-preserved : goal.loop-token-preserved
loop-token-preserved c =
    let names = c.args.map.now.net.now.present.names in
    let f = forest c.args.map.now.tree.now in
    let at = blame_at (built c.args.map.now.standing.now.present) f (spot_moment names f c.args.p) (spot_moment names f c.args.q) in
    let tokens = c.args.tokens.now in
    let i = c.loop-token.token-index in
    let token : Placed = slice_index_or tokens c.loop-token.token-index (record { node = 0; place = 0 }) in
    let nodes : placed_nodes (take (c.loop-token.token-index + 1) tokens) ≡ placed_nodes (take i tokens) ++ token.node ∷ [] =
    ap placed_nodes (take_more tokens i (record { node = 0; place = 0 }) c.loop-token-test.true) ∙ map-append (λ (t : Placed). t.node) (take i tokens) (token ∷ []) in
    ap (map blame_of) c.in_ok-push.ensures ∙ map-append blame_of c.loop-token.blames.items (c.in_ok-blame_token.field-0 ∷ [])
    ∙ (λ t. c.loop-token.invariant t ++ c.in_ok-blame_token.ensures t ∷ [])
    ∙ sym (ap (map at) nodes ∙ map-append at (placed_nodes (take i tokens)) (token.node ∷ []))
