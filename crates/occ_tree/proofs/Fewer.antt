-- Nodes of which some are gone with all below them.
use Rattle.std.proofs.Common.{◌≡◌, ◌≢◌, ℕ, ◌+◌, ◌<◌, List, [], length, take, Option, Some, None, refl, sym, ap, ◌∙◌, subst, arith}
use Rattle.std.specs.Prelude.{MatchOption, pos, ◌+ℤ◌}
use Rattle.std.specs.Option.{option_map, option_map_or}
use Rattle.std.proofs.lemmas.List.{length-take-le}
use Rattle.ancestors.specs.Jumps.{jump_depth}
use Rattle.ancestors.proofs.Jumps.{jump_within}
use Rattle.row_links.specs.Lists.{IsOn}
use Rattle.tmm_model.specs.declared.token.TokenRow.{TokenRow}
use Rattle.undo_rows.specs.declared.row.Row.{Row}
use Rattle.undo_rows.specs.Tables.{Table, without_row}
use Rattle.undo_rows.proofs.Written.{with_row-same, with_row-other}
use Rattle.occ_tree.specs.Below.{IsRightBelow}
use Rattle.occ_tree.specs.declared.node.Node.{Node}
use Rattle.occ_tree.specs.declared.node.Above.{Above}
use Rattle.spots.specs.declared.spot.Spot.{Spot}
use Rattle.spots.specs.Light.{AreLight}
use Rattle.spots.specs.Sums.{AreSums}
use Rattle.occ_tree.specs.Nodes.{Nodes, Way, root_of, jump_of, way_to, member_of, forest_in, HasParent, IsPlaced, ArePlaced}
use Rattle.occ_tree.specs.Standing.{nodes_in, IsStanding, AreKept}
use Rattle.occ_tree.specs.Tokens.{AreTokensBut}
use Rattle.occ_tree.proofs.Effects.{member_at}
use Rattle.occ_tree.proofs.Grown.{no_node_at}
use Rattle.occ_tree.proofs.InOrder.{on_front}
use Rattle.occ_tree.proofs.Keeping.{root_there}
use Rattle.occ_tree.proofs.OnWays.{on_own, on_way}
use Rattle.occ_tree.proofs.Ways.{Extends, HaveParents, way-same, length-way, node_on_way}

module _ (a b : Nodes) (fewer : (y : ℕ) (n : Node) → a y ≡ Some n → b y ≡ Some n) (parents : HaveParents a) where
  extends : Extends a b
  extends y n at = (n, fewer y n at, refl)

  pub way_kept : (y : ℕ) (n : Node) → a y ≡ Some n → way_to a y ≡ way_to b y
  way_kept y n at = sym (way-same a b extends parents y n at)

  pub member_kept : (y : ℕ) (n : Node) → a y ≡ Some n → forest_in a y ≡ forest_in b y
  member_kept y n at = member_at a y n at ∙ ap (λ w. Some (member_of w n)) (way_kept y n at) ∙ sym (member_at b y n (fewer y n at))

  -- what stands on the way to a node that is left is left
  stays_on : (y : ℕ) (n : Node) → a y ≡ Some n → (j k : ℕ) → (way_to b j).numbers ≡ take k (way_to b y).numbers → 0 < length (take k (way_to b y).numbers) → (way_to a j).numbers ≡ take k (way_to a y).numbers
  stays_on y n at j k is some =
      let (m, j_at) = node_on_way b j (subst (λ l. 0 < length l) (sym is) some) in
      let on : IsOn (way_to b y).numbers j = on_front k (way_to b y).numbers j (subst (λ l. IsOn l j) is (on_own b j m j_at)) in
      let (q, q_at, less) = on_way a parents j y n at (subst (λ (w : Way). IsOn w.numbers j) (sym (way_kept y n at)) on) in
      ap (λ (w : Way). w.numbers) (way_kept j q q_at) ∙ is ∙ ap (λ (w : Way). take k w.numbers) (sym (way_kept y n at))

  module _ (placed : ArePlaced b) where
    each_left : (y : ℕ) (n : Node) → a y ≡ Some n → IsPlaced a y n
    each_left y n at =
        let was = fewer y n at in
        let p = placed.each y n was in
        let numbers = (way_to b y).numbers in
        let long : length numbers ≡ n.depth + 1 = length-way b y n was in
        let first : 0 < length (take 1 numbers) = (let l = length-take-le 1 numbers (omega (arith, long)) in omega (arith, l)) in
        let up : 0 < length (take (jump_depth n.depth + 1) numbers) = (let l = length-take-le (jump_depth n.depth + 1) numbers (omega (arith, long, jump_within n.depth)) in omega (arith, l)) in
        record {
          parent = parents y n at;
          root = stays_on y n at (root_of y n) 1 p.root first;
          jump = stays_on y n at (jump_of y n) (jump_depth n.depth + 1) p.jump up;
          light = subst (λ (w : Way). AreLight w.links) (sym (way_kept y n at)) p.light;
          sums = subst (λ (w : Way). AreSums n.sums w.links) (sym (way_kept y n at)) p.sums;
          word = p.word;
          class = p.class;
          date = p.date;
        }

    pub placed_fewer : ArePlaced a
    placed_fewer = record { each = each_left; apart = λ x y m n x_at y_at. placed.apart x y m n (fewer x m x_at) (fewer y n y_at) }

    pub kept_fewer : (names : List (List ℕ)) (rows left : ℕ → List (TokenRow Spot)) → AreKept names b rows → AreTokensBut a left [] → AreKept names a left
    kept_fewer names rows left kept tokens = record {
      tokens = tokens;
      numbers = λ y n at. kept.numbers y n (fewer y n at);
      dates = λ y n at.
          let (r, r_at) = root_there a placed_fewer y n at in
          let same : a (root_of y n) ≡ b (root_of y n) = r_at ∙ sym (fewer (root_of y n) r r_at) in
          kept.dates y n (fewer y n at) ∙ ap (λ o. option_map_or (λ (q : Node). q.early) o (pos 0) +ℤ n.sums.low) (sym same);
    }

-- ---- one node less

module _ (t u : Table Node 1) (x : ℕ) (is : u ≡ without_row t x) where
  row_gone : u.row x ≡ None
  row_gone = ap (λ (v : Table Node 1). v.row x) is ∙ with_row-same t.row x None

  row_left : (y : ℕ) → y ≢ x → u.row y ≡ t.row y
  row_left y other = ap (λ (v : Table Node 1). v.row y) is ∙ with_row-other t.row x None y other

  pub node_gone : nodes_in u x ≡ None
  node_gone = no_node_at u x row_gone

  pub node_left : (y : ℕ) → y ≢ x → nodes_in u y ≡ nodes_in t y
  node_left y other = ap (option_map (λ (r : Row Node 1). r.value)) (row_left y other)

  other_than : (y : ℕ) (n : Node) → nodes_in u y ≡ Some n → y ≢ x
  other_than y n at same = let both : Some n ≡ None = sym at ∙ ap (nodes_in u) same ∙ node_gone in cc

  pub left_was : (y : ℕ) (n : Node) → nodes_in u y ≡ Some n → nodes_in t y ≡ Some n
  left_was y n at = sym (node_left y (other_than y n at)) ∙ at

  module _ (leaf : (y : ℕ) → IsRightBelow (nodes_in t) x y → ⊥) where
    pub parents_left : HaveParents (nodes_in t) → HaveParents (nodes_in u)
    parents_left parents y n at = by n.above refl (parents y n (left_was y n at))
      where
        by : (o : Option Above) → n.above ≡ o → MatchOption o (n.depth ≡ 0) (HasParent (nodes_in t) n) → MatchOption o (n.depth ≡ 0) (HasParent (nodes_in u) n)
        by None above level = level
        by (Some up) above (p, p_at, deep, begin) =
            let other : up.parent ≢ x = λ same. leaf y (n, left_was y n at, ap (option_map (λ (c : Above). c.parent)) above ∙ ap (λ z. Some z) same) in
            (p, node_left up.parent other ∙ p_at, deep, begin)

    pub member_left : HaveParents (nodes_in t) → (y : ℕ) → y ≢ x → forest_in (nodes_in u) y ≡ forest_in (nodes_in t) y
    member_left parents y other = by (nodes_in u y) refl
      where
        by : (o : Option Node) → nodes_in u y ≡ o → forest_in (nodes_in u) y ≡ forest_in (nodes_in t) y
        by (Some n) at = member_kept (nodes_in u) (nodes_in t) left_was (parents_left parents) y n at
        by None none =
            ap (option_map (member_of (way_to (nodes_in u) y))) none
            ∙ ap (option_map (member_of (way_to (nodes_in t) y))) (sym none ∙ node_left y other)

    pub standing_left : (limit : ℕ) → HaveParents (nodes_in t) → IsStanding limit t → IsStanding limit u
    standing_left limit parents s = record {
      placed = placed_fewer (nodes_in u) (nodes_in t) left_was (parents_left parents) s.placed;
      heads = λ y r at. s.heads y r (row_was y r at);
      below = λ y r at. s.below y r (row_was y r at);
    }
      where
        row_was : (y : ℕ) (r : Row Node 1) → u.row y ≡ Some r → t.row y ≡ Some r
        row_was y r at = sym (row_left y (λ same. let both : Some r ≡ None = sym at ∙ ap u.row same ∙ row_gone in cc)) ∙ at
