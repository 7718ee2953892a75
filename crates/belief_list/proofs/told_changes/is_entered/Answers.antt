use Rattle.std.proofs.Common.{◌≡◌, ◌∙◌, true, sym, ap}
use Rattle.std.specs.Prelude.{◌&&◌}
use Rattle.std.specs.Option.{is_none}
use Rattle.tmm_model.specs.Moments.{is_derived}
use Rattle.spots.specs.Forest.{moment_at}
use Rattle.occ_tree.specs.Places.{forest}
use Rattle.spots.proofs.Nodes.{node_at}
use Rattle.belief_list.proofs.Lookups.{has_parent}
use Rattle.belief_list.proofs.Told.{absent_is}
use Rattle.belief_list.proofs.told_changes.is_entered.Goals as goal

pub returns-then-is_none : goal.returns-then-is_none
returns-then-is_none c =
    let f = forest c.args.tree.now in
    let d = c.args.d.now in
    let (m, here) = node_at f d.node c.requires in
    let absent : true ≡ is_none d.was = sym c.if-is_none.true ∙ absent_is d.was c.is_none.result c.is_none.ensures in
    c.is_some.ensures
    ∙ has_parent f d.node m c.row.result.parent here (c.row.ensures m here).parent
    ∙ ap (λ b. b && is_derived (moment_at f d.node)) absent
