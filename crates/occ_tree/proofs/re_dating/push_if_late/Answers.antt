use Rattle.std.proofs.Common.{◌≡◌, ◌∙◌, None, Some, inr, refl, sym, ap, subst, arith, w64, to_z}
use Rattle.std.specs.Prelude.{MatchOption}
use Rattle.std.proofs.lemmas.Int.{ints}
use Rattle.spots.proofs.InUse.{begin_in_use}
use Rattle.occ_tree.specs.declared.node.Node.{Node}
use Rattle.occ_tree.specs.Nodes.{way_to, member_of, forest_in, HasParent}
use Rattle.occ_tree.specs.Standing.{nodes_in, present_rows}
use Rattle.occ_tree.proofs.Effects.{member_at, seen}
use Rattle.occ_tree.proofs.Late.{right_root}
use Rattle.occ_tree.proofs.re_dating.push_if_late.Goals as goal

pub date_of-requires-clause-point : goal.date_of-requires-clause-point
date_of-requires-clause-point c =
    let node = nodes_in (present_rows c.args.nodes.now) in
    let n = c.get-node.result.now in
    begin_in_use c.args.net.now.present (forest_in node) c.requires.list c.args.root (member_of (way_to node c.args.root) n) (member_at node c.args.root n c.get-node.ensures.node)

pub returns-then-node-date_of : goal.returns-then-node-date_of
returns-then-node-date_of c =
    let node = nodes_in (present_rows c.args.nodes.now) in
    let x = c.args.root in
    let n = c.get-node.result.now in
    let at = c.get-node.ensures.node in
    let placed = c.get-node.ensures.stands.placed in
    let (r, r_at, r_root) = c.requires.root in
    let both : Some r ≡ Some n = sym r_at ∙ at in
    let same : r ≡ n = cc in
    let root : n.above ≡ None = ap (λ (q : Node). q.above) (sym same) ∙ r_root in
    let level : n.depth ≡ 0 = subst (λ o. MatchOption o (n.depth ≡ 0) (HasParent node n)) root (placed.each x n at).parent in
    let (low, high) = (placed.each x n at).date in
    let (least, most) = c.date_of.ensures.small in
    let early = seen n.early (omega (arith, ints, low, level), omega (arith, ints, high, level)) in
    let date = seen c.date_of.result (omega (arith, ints, least), omega (arith, ints, most)) in
    let is : n.early ≡ c.date_of.result = sym early ∙ ap (to_z w64) c.if-node-date_of.true ∙ date in
    inr (refl, right_root c.args.net.now.present node placed c.requires.list x n at root (is ∙ c.date_of.ensures.date))
