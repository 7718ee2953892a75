use Rattle.std.proofs.Common.{◌≡◌, ◌∙◌, refl, ap, sym, subst, w64, of_z, to_z}
use Rattle.std.specs.Prelude.{Some}
use Rattle.spots.specs.declared.node_row.NodeRow.{NodeRow}
use Rattle.spots.specs.Forest.{Forest, Member}
use Rattle.spots.specs.Rows.{IsRow}
use Rattle.spots.proofs.Delays.{low_from_sums, high_from_sums}
use Rattle.occ_tree.specs.Nodes.{way_to, member_of, forest_in}
use Rattle.occ_tree.specs.Standing.{Grove, nodes_in, present_rows, present, forest}
use Rattle.occ_tree.proofs.Effects.{member_at}
use Rattle.occ_tree.proofs.Telling.{parent_told, name_told, root_told}
use Rattle.occ_tree.proofs.Ways.{length-links}
use Rattle.occ_tree.proofs.tree.Tree.row.Goals as goal

pub returns : goal.returns
returns c m at =
    let x = c.args.x in
    let node = nodes_in (present_rows c.nodes.result.now) in
    let view : forest_in node ≡ forest (present c.args.self.now) = ap (λ (g : Grove). forest_in (nodes_in (present_rows g))) c.nodes.ensures in
    let n = c.get-node.result.now in
    let here : node x ≡ Some n = c.get-node.ensures.node in
    let placed = c.get-node.ensures.stands.placed in
    let own = placed.each x n here in
    let e : Some (member_of (way_to node x) n) ≡ Some m = sym (member_at node x n here) ∙ ap (λ (f : Forest). f x) view ∙ at in
    let is : member_of (way_to node x) n ≡ m = cc in
    let row : NodeRow = record {
      parent = c.parent.result;
      name = n.name;
      root = c.root.result;
      rules = n.depth;
      low = to_z w64 (of_z w64 n.sums.low);
      high = c.high.result;
      begin = n.begin;
      «end» = n.end;
      what = n.what;
      class = n.class;
      shape = n.shape;
    } in
    let told : IsRow (forest_in node) (member_of (way_to node x) n) row = record {
      parent = rw c.parent.ensures (parent_told node placed x n here);
      name = name_told node placed x n here;
      root = rw c.root.ensures (root_told node placed x n here);
      rules = sym (length-links node x n here);
      low = low_from_sums n.sums (way_to node x).links own.light own.sums;
      high = c.high.ensures ∙ high_from_sums n.sums (way_to node x).links own.sums;
      begin = refl;
      «end» = refl;
      what = refl;
      class = refl;
      shape = refl;
    } in
    subst (λ (f : Forest). IsRow f m row) view (subst (λ (k : Member). IsRow (forest_in node) k row) is told)
