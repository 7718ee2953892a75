use Rattle.std.proofs.Common.{◌≡◌, ◌∙◌, ℕ, ◌+◌, ◌-◌, ◌<◌, List, length, take, sym, ap, arith}
use Rattle.std.specs.Cmp.Lexicographic.{bytes_decides}
use Rattle.std.specs.Prelude.{slice_index_or}
use Rattle.tmm_model.specs.declared.point.PointName.TheVariants.{Begin}
use Rattle.tmm_model.specs.Moments.{At, After, along}
use Rattle.tmm_model.specs.Points.{same_name}
use Rattle.spots.specs.Forest.{moment_at}
use Rattle.occ_tree.specs.Places.{forest}
use Rattle.map_engine.proofs.AtNode.{above, declared, led_one_more, not_false}
use Rattle.map_engine.proofs.at_node.is_told.Goals as goal

pub loop-left-preserved : goal.loop-left-preserved
loop-left-preserved c =
    let f = forest c.args.tree.now in
    let root = At (Begin c.args.occ.now.root) in
    let rules = c.args.occ.now.rules.items in
    let i = c.loop-left.left - 1 in
    let row = c.row-row.result in
    let r = c.index-rules-left.result in
    let (live, is) = above f c.loop-left.node c.in-Some.parent row c.row-row.ensures c.loop-left.invariant.live c.in-Some.is in
    let within : i < length rules = omega (arith, c.loop-left.invariant.within, c.loop-left-test.true) in
    let one : i + 1 ≡ c.loop-left.left = omega (arith, c.loop-left-test.true) in
    let named : row.name ≡ r = (bytes_decides row.name r).0 (not_false (same_name row.name r) (sym c.if-ne.ensures)) in
    let at : r ≡ slice_index_or rules i r = c.index-rules-left.is ∙ ap (λ (l : List (List ℕ)). slice_index_or l i r) c.items-rules.ensures in
    record {
      live = live;
      within = omega (arith, within);
      follows = λ here. c.loop-left.invariant.follows
          (is ∙ ap (After (moment_at f c.in-Some.parent)) named ∙ led_one_more root (moment_at f c.in-Some.parent) rules i r r within at here ∙ ap (λ (n : ℕ). along root (take n rules)) one);
    }

pub returns-then-row-eq0 : goal.returns-then-row-eq0
returns-then-row-eq0 c = λ same.
    let f = forest c.args.tree.now in
    let row = c.row-row-2.result in
    let root = c.args.occ.now.root in
    let none : 0 ≡ c.loop-left.left = omega (arith, c.loop-left-test.false) in
    c.loop-left.invariant.follows
    (declared f c.loop-left.node row c.row-row-2.ensures c.loop-left.invariant.live c.if-row-eq0.true
    ∙ ap (λ (n : List ℕ). At (Begin n)) ((bytes_decides row.name root).0 (sym c.eq.ensures ∙ same))
    ∙ ap (λ (n : ℕ). along (At (Begin root)) (take n c.args.occ.now.rules.items)) none)
