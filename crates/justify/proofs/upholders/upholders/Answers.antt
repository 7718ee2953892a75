use Rattle.std.proofs.Common.{◌∙◌, ◌<◌, ◌≤◌, ap, subst, arith}
use Rattle.std.specs.Prelude.{nat_eq}
use Rattle.std.proofs.lemmas.List.Elements.{All-contains}
use Rattle.tmm_model.specs.Maps.{built}
use Rattle.list_theory.proofs.Elements.{Contains-from_In}
use Rattle.indexmap.specs.IndexSet.{insert_key}
use Rattle.spots.specs.Forest.{IsLive}
use Rattle.occ_tree.specs.Places.{forest}
use Rattle.justify.proofs.Reached.{walked_first, live_next, walked_more, walked_all, walked_below}
use Rattle.justify.proofs.upholders.upholders.Goals as goal

pub loop-next-init : goal.loop-next-init
loop-next-init c =
    walked_first (built c.args.map.now.standing.now.present) (forest c.args.map.now.tree.now) c.args.x c.add.new.found.keys c.requires.live
    (c.in_ok-add.ensures ∙ ap (λ keys. insert_key nat_eq keys c.args.x) c.new-found.ensures.empty)

pub add_grounds-requires-clause-live : goal.add_grounds-requires-clause-live
add_grounds-requires-clause-live c =
    let keys = c.loop-next.found.keys in
    let y = c.index-y.result.now in
    All-contains (IsLive (forest c.args.map.now.tree.now)) keys y c.loop-next.invariant.live
    (Contains-from_In keys y (live_next (built c.args.map.now.standing.now.present) (forest c.args.map.now.tree.now) c.args.x keys c.loop-next.next y c.loop-next.invariant c.index-y.ensures))

pub loop-next-smaller : goal.loop-next-smaller
loop-next-smaller c =
    let low : c.loop-next.next < c.limit-limit.result =
    walked_below (built c.args.map.now.standing.now.present) (forest c.args.map.now.tree.now) c.args.x c.limit-limit.result c.limit-limit.ensures.above c.loop-next.found.keys c.loop-next.next c.index-y.result.now c.loop-next.invariant c.index-y.ensures in
    omega arith

pub loop-next-preserved : goal.loop-next-preserved
loop-next-preserved c =
    walked_more (built c.args.map.now.standing.now.present) (forest c.args.map.now.tree.now) c.args.x c.loop-next.found.keys c.add_grounds.new.found.keys c.loop-next.next c.index-y.result.now
    c.loop-next.invariant c.index-y.ensures c.in_ok-add_grounds.ensures

pub returns : goal.returns
returns c =
    walked_all (built c.args.map.now.standing.now.present) (forest c.args.map.now.tree.now) c.args.x c.loop-next.found.keys c.loop-next.next c.loop-next.invariant
    (subst (λ n. n ≤ c.loop-next.next) c.len.ensures.len c.loop-next-test.false)
