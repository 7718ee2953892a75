use Rattle.std.proofs.Common.{◌≡◌, ◌∙◌, map, ap, sym, subst}
use Rattle.tmm_model.specs.Answers.{rows, row_of}
use Rattle.tmm_model.specs.Maps.{built}
use Rattle.tmm_model.specs.Standing.{Standing}
use Rattle.occ_tree.specs.OfLists.{IsTreeOf}
use Rattle.occ_tree.specs.Places.{forest}
use Rattle.occ_tree.specs.Standing.{Kept}
use Rattle.spots.specs.OfLists.{HasOccurrences}
use Rattle.map_core.specs.MapStates.{MapState}
use Rattle.map_engine.specs.Reads.{IsReadOf, read_of}
use Rattle.belief_list.proofs.WholeChanges.{if_ok}
use Rattle.map_engine.proofs.net_map.NetMapMapCore.list.Goals as goal

pub kept_rows-requires-clause-seen : goal.kept_rows-requires-clause-seen
kept_rows-requires-clause-seen c = subst (IsTreeOf c.self.inside.standing.present c.self.inside.net.present) (sym c.tree.ensures) c.self.invariant.next_nodes.fit.tree

pub kept_rows-requires-clause-holds : goal.kept_rows-requires-clause-holds
kept_rows-requires-clause-holds c =
    subst (λ (k : Kept). HasOccurrences (built c.self.inside.standing.present).believed (forest k)) (sym c.tree.ensures) c.self.invariant.next_nodes.current.holds

pub kept_rows-requires-clause-view : goal.kept_rows-requires-clause-view
kept_rows-requires-clause-view c =
    let m = c.self.inside in
    let idle = ap (λ (m : MapState). m.pending) c.self.view_is ∙ c.requires.idle in
    let settled = c.self.invariant.settled idle in
    let rests = c.self.invariant.rests idle in
    subst (λ (k : Kept). IsReadOf m.standing.present (forest k) (read_of m.view)) (sym c.tree.ensures)
    (subst (λ (s : Standing). IsReadOf s (forest m.nodes.tree) (read_of m.view)) (sym settled.list) rests.view)

pub returns : goal.returns
returns c =
    let lists = c.self.inside.standing in
    let settled = c.self.invariant.settled (ap (λ (m : MapState). m.pending) c.self.view_is ∙ c.requires.idle) in
    if_ok (λ found. map row_of found.items ≡ rows (built lists.present)) (λ found. map row_of found.items ≡ rows (built c.args.self.now.list))
    (λ found is. is ∙ ap (λ (s : Standing). rows (built s)) settled.list ∙ ap (λ (m : MapState). rows (built m.list)) c.self.view_is)
    c.kept_rows.result c.kept_rows.ensures
