use Rattle.std.proofs.Common.{sym, subst}
use Rattle.tmm_model.specs.Maps.{built}
use Rattle.spots.specs.OfLists.{HasOccurrences}
use Rattle.occ_tree.specs.OfLists.{IsTreeOf}
use Rattle.occ_tree.specs.Places.{forest}
use Rattle.occ_tree.specs.Standing.{Kept}
use Rattle.map_engine.proofs.net_map.NetMapMapCore.bounds.Goals as goal

pub bounds_between-requires-clause-seen : goal.bounds_between-requires-clause-seen
bounds_between-requires-clause-seen c = subst (IsTreeOf c.self.inside.standing.present c.self.inside.net.present) (sym c.tree.ensures) c.self.invariant.next_nodes.fit.tree

pub bounds_between-requires-clause-holds : goal.bounds_between-requires-clause-holds
bounds_between-requires-clause-holds c =
    subst (λ (k : Kept). HasOccurrences (built c.self.inside.standing.present).believed (forest k)) (sym c.tree.ensures) c.self.invariant.next_nodes.current.holds
