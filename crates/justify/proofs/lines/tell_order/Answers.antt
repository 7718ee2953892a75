use Rattle.std.proofs.Common.{[], ◌∷◌}
use Rattle.std.proofs.lemmas.Result.{on_ok_weaker}
use Rattle.tmm_model.specs.Maps.{built}
use Rattle.spots.specs.Spots.{spot_moment}
use Rattle.occ_tree.specs.Places.{forest}
use Rattle.justify.specs.Lines.{AreOrders}
use Rattle.justify.proofs.Told.{hears_one}
use Rattle.justify.proofs.lines.tell_order.Goals as goal

pub returns : goal.returns
returns g c =
    let names = c.args.map.now.net.now.present.names in
    let f = forest c.args.map.now.tree.now in
    on_ok_weaker c.hear.result
    (hears_one g.R.Listener.parts_of (AreOrders (built c.args.map.now.standing.now.present) ((spot_moment names f c.args.first, spot_moment names f c.args.second) ∷ [])) c.in_ok-order_line.field-0
    (c.in_ok-order_line.ensures.order, tt) c.in_ok-order_line.ensures.shaped _ _)
    c.hear.ensures
