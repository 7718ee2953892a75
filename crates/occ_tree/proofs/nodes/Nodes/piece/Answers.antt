use Rattle.std.proofs.Common.{◌∙◌, sym, arith}
use Rattle.occ_tree.specs.Standing.{nodes_in, present_rows}
use Rattle.occ_tree.proofs.Ways.{length-way}
use Rattle.occ_tree.proofs.Pieces.{no_piece, is_piece, ancestor_live, short_name}
use Rattle.occ_tree.proofs.nodes.Nodes.piece.Goals as goal

pub returns-then-depth-last : goal.returns-then-depth-last
returns-then-depth-last c = c.new.ensures ∙ sym (no_piece (nodes_in (present_rows c.args.self.now)) c.args.x c.args.depth c.get.result.now c.get.ensures.node c.if-depth-last.true)

pub ancestor_at-requires : goal.ancestor_at-requires
ancestor_at-requires c = let long = length-way (nodes_in (present_rows c.args.self.now)) c.args.x c.get.result.now c.get.ensures.node in record { node = omega (arith, long) }

pub get-at-requires : goal.get-at-requires
get-at-requires c = ancestor_live (nodes_in (present_rows c.args.self.now)) c.args.x c.args.depth c.ancestor_at.result c.get.result.now c.get.ensures.node c.if-depth-last.false c.ancestor_at.ensures

pub piece-requires : goal.piece-requires
piece-requires c = short_name c.get-at.result.now.name (c.get-at.ensures.stands.placed.each c.ancestor_at.result c.get-at.result.now c.get-at.ensures.node).word

pub returns : goal.returns
returns c =
    c.piece.ensures
    ∙ sym (is_piece (nodes_in (present_rows c.args.self.now)) c.args.x c.args.depth c.ancestor_at.result c.get.result.now c.get.ensures.node c.if-depth-last.false c.ancestor_at.ensures c.get-at.result.now c.get-at.ensures.node)
