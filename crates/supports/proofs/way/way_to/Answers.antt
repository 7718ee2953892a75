use Rattle.std.proofs.Common.{◌≡◌, ◌∙◌, ◌<◌, [], ◌∷◌, ◌++◌, Some, ap, sym, subst}
use Rattle.std.specs.List.{All}
use Rattle.std.proofs.lemmas.List.Elements.{All-push, All-nil}
use Rattle.spots.proofs.Nodes.{live_at}
use Rattle.occ_tree.specs.Places.{forest}
use Rattle.supports.specs.Under.{IsUnder}
use Rattle.supports.proofs.Ways.{Climbs, steps, climb_start, climb, fewer}
use Rattle.supports.proofs.way.way_to.Goals as goal

pub row-next-requires : goal.row-next-requires
row-next-requires c =
    let (u, _) = subst (Climbs (forest c.args.tree.now) c.args.x c.loop-next.way.items) c.in-Some.is c.loop-next.invariant.climbs in
    live_at (forest c.args.tree.now) c.in-Some.y u.above u.above_at

pub loop-next-preserved : goal.loop-next-preserved
loop-next-preserved c =
    let f = forest c.args.tree.now in
    let way = c.loop-next.way.items in
    let (u, longer) = subst (Climbs f c.args.x way) c.in-Some.is c.loop-next.invariant.climbs in
    let row = c.row-next.ensures u.above u.above_at in
    let pushed : c.push_reserved.new.self.items ≡ way ++ c.in-Some.y ∷ [] = c.push_reserved.ensures.items ∙ ap (λ l. l ++ c.in-Some.y ∷ []) c.reserve.ensures.items in
    record {
      own = subst (All (λ y. IsUnder f y c.args.x)) (sym pushed) (All-push (λ y. IsUnder f y c.args.x) way c.in-Some.y c.loop-next.invariant.own u);
      climbs = subst (λ l. Climbs f c.args.x l c.row-next.result.parent) (sym pushed) (climb f c.args.x c.in-Some.y way u longer c.row-next.result.parent row.parent);
    }

pub returns : goal.returns
returns c = record {
  own = c.loop-next.invariant.own;
  all = subst (Climbs (forest c.args.tree.now) c.args.x c.loop-next.way.items) c.in_default.is c.loop-next.invariant.climbs;
}

pub loop-next-init : goal.loop-next-init
loop-next-init c = record {
  own = subst (All (λ y. IsUnder (forest c.args.tree.now) y c.args.x)) (sym c.new-way.ensures.items) (All-nil (λ y. IsUnder (forest c.args.tree.now) y c.args.x));
  climbs = subst (λ l. Climbs (forest c.args.tree.now) c.args.x l (Some c.args.x)) (sym c.new-way.ensures.items) (climb_start (forest c.args.tree.now) c.args.x c.requires);
}

pub loop-next-smaller : goal.loop-next-smaller
loop-next-smaller c =
    let f = forest c.args.tree.now in
    let (u, longer) = subst (Climbs f c.args.x c.loop-next.way.items) c.in-Some.is c.loop-next.invariant.climbs in
    subst (λ o. steps f c.row-next.result.parent < steps f o) (sym c.in-Some.is)
    (fewer f c.args.x c.in-Some.y c.loop-next.way.items u longer c.row-next.result.parent (c.row-next.ensures u.above u.above_at).parent)
