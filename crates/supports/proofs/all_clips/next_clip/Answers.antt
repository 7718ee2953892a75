use Rattle.std.proofs.Common.{◌<◌, ◌∙◌, length, sym, ap, subst, arith}
use Rattle.std.proofs.lemmas.List.{length-map}
use Rattle.clipping.proofs.OneFact.{row_read}
use Rattle.clipping.specs.Stretches.{rows_of}
use Rattle.occ_tree.specs.Places.{forest}
use Rattle.spots.specs.Spots.{IsSpot}
use Rattle.supports.specs.Nodes.{IsOfNode}
use Rattle.supports.proofs.all_clips.next_clip.Goals as goal

pub node_of-requires : goal.node_of-requires
node_of-requires c =
    let token = c.index-behind-place in
    let place : c.in_ok-place.place < length (rows_of c.args.behind.now) = c.in_ok-place.ensures.within in
    let within : c.in_ok-place.place < length c.args.behind.now = omega (arith, place, length-map c.args.behind.now (λ t. t.row)) in
    subst IsOfNode (row_read c.args.behind.now c.in_ok-place.place within token.result (sym token.is) token.result.row ∙ ap (λ t. t.row) token.is)
    (c.requires.nodes c.in_ok-place.place token.result.row place)

pub returns-clause-live : goal.returns-clause-live
returns-clause-live c =
    let token = c.index-behind-place in
    let place : c.in_ok-place.place < length (rows_of c.args.behind.now) = c.in_ok-place.ensures.within in
    let within : c.in_ok-place.place < length c.args.behind.now = omega (arith, place, length-map c.args.behind.now (λ t. t.row)) in
    subst (IsSpot c.args.net.now.present.names (forest c.args.tree.now))
    (ap (λ row. row.spot) (row_read c.args.behind.now c.in_ok-place.place within token.result (sym token.is) token.result.row) ∙ ap (λ t. t.row.spot) token.is ∙ c.node_of.ensures)
    (c.requires.live c.in_ok-place.place token.result.row place).0
