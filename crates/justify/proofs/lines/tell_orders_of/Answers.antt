use Rattle.std.proofs.Common.{◌∙◌, List, [], ◌∷◌, ◌++◌, sym, subst}
use Rattle.std.specs.Prelude.{Some, None}
use Rattle.std.specs.List.{All}
use Rattle.std.specs.Option.{option_and_then}
use Rattle.std.proofs.lemmas.List.Elements.{All-head, All-tail}
use Rattle.std.proofs.lemmas.Result.{on_ok_weaker}
use Rattle.tmm_model.specs.Beliefs.{token_of}
use Rattle.tmm_model.specs.Maps.{built}
use Rattle.tmm_model.specs.Moments.{Moment}
use Rattle.tmm_model.specs.Reasons.{end_pair}
use Rattle.spots.specs.declared.spot.Spot.TheVariants.{Declared}
use Rattle.spots.specs.Forest.{moment_at}
use Rattle.spots.specs.Spots.{spot_moment}
use Rattle.occ_tree.specs.Places.{forest}
use Rattle.spots.proofs.Nodes.{node_at}
use Rattle.map_core.specs.Heard.{Hears}
use Rattle.justify.specs.Lines.{IsInOrder, AreOrders}
use Rattle.justify.proofs.Told.{end_in_use, hears_more, more_orders, pairs_are}
use Rattle.justify.proofs.lines.tell_orders_of.Goals as goal

pub tell_order-requires-clause-in_order : goal.tell_order-requires-clause-in_order
tell_order-requires-clause-in_order g c =
    let s = c.args.map.now.standing.now.present in
    let t = moment_at (forest c.args.map.now.tree.now) c.args.event in
    let k = moment_at (forest c.args.map.now.tree.now) c.args.x in
    All-head (IsInOrder (built s)) (k, t) (end_pair (built s) t (option_and_then (λ row. row.end) (token_of s k))) c.requires.in_order

pub tell_order-requires-in-Some-clause-second : goal.tell_order-requires-in-Some-clause-second
tell_order-requires-in-Some-clause-second g c =
    let f = forest c.args.map.now.tree.now in
    let (m, here) = node_at f c.args.x c.requires.live in
    end_in_use c.args.map.now.standing.now.present c.args.map.now.net.now.present f c.requires.seen.seen c.args.x m here c.in-Some.end (sym (c.row.ensures m here).end ∙ c.in-Some.is)

pub tell_order-requires-in-Some-clause-in_order : goal.tell_order-requires-in-Some-clause-in_order
tell_order-requires-in-Some-clause-in_order g c =
    let s = c.args.map.now.standing.now.present in
    let net = c.args.map.now.net.now.present in
    let f = forest c.args.map.now.tree.now in
    let t = moment_at f c.args.event in
    let k = moment_at f c.args.x in
    let (m, here) = node_at f c.args.x c.requires.live in
    let ends = sym (c.row.ensures m here).end ∙ c.in-Some.is in
    let both = subst (All (IsInOrder (built s))) (pairs_are s net f c.requires.seen.seen c.args.x m here t (Some c.in-Some.end) ends) c.requires.in_order in
    let last : Moment × Moment = (t, spot_moment net.names f (Declared c.in-Some.end)) in
    All-head (IsInOrder (built s)) last [] (All-tail (IsInOrder (built s)) (k, t) (last ∷ []) both)

pub returns-in-Some : goal.returns-in-Some
returns-in-Some g c =
    let s = c.args.map.now.standing.now.present in
    let net = c.args.map.now.net.now.present in
    let f = forest c.args.map.now.tree.now in
    let t = moment_at f c.args.event in
    let k = moment_at f c.args.x in
    let (m, here) = node_at f c.args.x c.requires.live in
    let ends = sym (c.row.ensures m here).end ∙ c.in-Some.is in
    let begins : List (Moment × Moment) = (k, t) ∷ [] in
    let lasts : List (Moment × Moment) = (t, spot_moment net.names f (Declared c.in-Some.end)) ∷ [] in
    let old = g.R.Listener.heard c.args.listener.now in
    let new = g.R.Listener.heard c.tell_order-in-Some.new.listener in
    on_ok_weaker c.tell_order-in-Some.result
    (λ second.
    subst (λ (ps : List (Moment × Moment)). Hears g.R.Listener.parts_of (AreOrders (built s) ps) old new) (sym (pairs_are s net f c.requires.seen.seen c.args.x m here t (Some c.in-Some.end) ends))
    (hears_more g.R.Listener.parts_of (AreOrders (built s) begins) (AreOrders (built s) lasts) (AreOrders (built s) (begins ++ lasts)) (more_orders (built s) begins lasts) _ _ _ c.in_ok-tell_order.ensures second))
    c.tell_order-in-Some.ensures

pub returns-in-None : goal.returns-in-None
returns-in-None g c =
    let s = c.args.map.now.standing.now.present in
    let net = c.args.map.now.net.now.present in
    let f = forest c.args.map.now.tree.now in
    let (m, here) = node_at f c.args.x c.requires.live in
    let ends = sym (c.row.ensures m here).end ∙ c.in-None.is in
    let old = g.R.Listener.heard c.args.listener.now in
    let new = g.R.Listener.heard c.tell_order.new.listener in
    subst (λ (ps : List (Moment × Moment)). Hears g.R.Listener.parts_of (AreOrders (built s) ps) old new)
    (sym (pairs_are s net f c.requires.seen.seen c.args.x m here (moment_at f c.args.event) None ends)) c.in_ok-tell_order.ensures
