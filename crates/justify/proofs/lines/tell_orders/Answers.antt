use Rattle.std.proofs.Common.{◌+◌, ◌++◌, List, [], map, take, get_or, sym, subst}
use Rattle.std.specs.List.{All, flat_map}
use Rattle.std.proofs.lemmas.List.Elements.{All-contains, Contains-get_or}
use Rattle.tmm_model.specs.Maps.{built}
use Rattle.tmm_model.specs.Moments.{Moment}
use Rattle.tmm_model.specs.Reasons.{pairs_of}
use Rattle.spots.specs.Forest.{moment_at}
use Rattle.occ_tree.specs.Places.{forest}
use Rattle.justify.specs.Lines.{IsInOrder, AreOrders}
use Rattle.justify.proofs.Told.{flat_more, hears_none, hears_more, more_orders}
use Rattle.justify.proofs.lines.tell_orders.Goals as goal

pub tell_orders_of-requires-clause-in_order : goal.tell_orders_of-requires-clause-in_order
tell_orders_of-requires-clause-in_order g c =
    let m = built c.args.map.now.standing.now.present in
    let f = forest c.args.map.now.tree.now in
    let xs = c.args.supports.now in
    let i = c.loop-x.x-index in
    All-contains (λ x. All (IsInOrder m) (pairs_of m (moment_at f c.args.event) (moment_at f x))) xs (get_or xs i 0) c.requires.in_order (Contains-get_or xs i 0 c.loop-x-test.true)

pub loop-x-init : goal.loop-x-init
loop-x-init g c = hears_none g.R.Listener.parts_of (AreOrders (built c.args.map.now.standing.now.present) []) tt (g.R.Listener.heard c.args.listener.now)

pub loop-x-preserved : goal.loop-x-preserved
loop-x-preserved g c =
    let m = built c.args.map.now.standing.now.present in
    let f = forest c.args.map.now.tree.now in
    let t = moment_at f c.args.event in
    let i = c.loop-x.x-index in
    let xs = c.args.supports.now in
    let x = get_or xs i 0 in
    let before = flat_map (pairs_of m t) (map (moment_at f) (take i xs)) in
    let behind = pairs_of m t (moment_at f x) in
    let after = flat_map (pairs_of m t) (map (moment_at f) (take (i + 1) xs)) in
    hears_more g.R.Listener.parts_of (AreOrders m before) (AreOrders m behind) (AreOrders m after)
    (λ ls ks first second.
    subst (λ (ps : List (Moment × Moment)). AreOrders m ps (ls ++ ks)) (sym (flat_more (moment_at f) (pairs_of m t) xs i 0 c.loop-x-test.true)) (more_orders m before behind ls ks first second))
    _ _ _ c.loop-x.invariant c.in_ok-tell_orders_of.ensures
