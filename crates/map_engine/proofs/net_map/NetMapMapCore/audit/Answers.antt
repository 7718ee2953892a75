use Rattle.std.proofs.Common.{◌∙◌, ap, sym, subst}
use Rattle.tmm_model.specs.Maps.{built}
use Rattle.tmm_model.specs.Standing.{Standing}
use Rattle.occ_tree.specs.OfLists.{IsTreeOf}
use Rattle.occ_tree.specs.Places.{forest}
use Rattle.occ_tree.specs.Standing.{Kept}
use Rattle.spots.specs.OfLists.{HasOccurrences}
use Rattle.map_core.specs.MapStates.{MapState}
use Rattle.map_engine.specs.Reads.{IsReadOf, read_of}
use Rattle.map_engine.proofs.net_map.NetMapMapCore.audit.Goals as goal

pub audited_view-requires-clause-seen : goal.audited_view-requires-clause-seen
audited_view-requires-clause-seen c = subst (IsTreeOf c.self.inside.standing.present c.self.inside.net.present) (sym c.tree.ensures) c.self.invariant.next_nodes.fit.tree

pub audited_view-requires-clause-holds : goal.audited_view-requires-clause-holds
audited_view-requires-clause-holds c =
    subst (λ (k : Kept). HasOccurrences (built c.self.inside.standing.present).believed (forest k)) (sym c.tree.ensures) c.self.invariant.next_nodes.current.holds

pub audited_view-requires-clause-view : goal.audited_view-requires-clause-view
audited_view-requires-clause-view c =
    let m = c.self.inside in
    let idle = ap (λ (m : MapState). m.pending) c.self.view_is ∙ c.requires.idle in
    let settled = c.self.invariant.settled idle in
    let rests = c.self.invariant.rests idle in
    subst (λ (k : Kept). IsReadOf m.standing.present (forest k) (read_of m.view)) (sym c.tree.ensures)
    (subst (λ (s : Standing). IsReadOf s (forest m.nodes.tree) (read_of m.view)) (sym settled.list) rests.view)
