use Rattle.std.proofs.Common.{sym, subst}
use Rattle.tmm_model.specs.Maps.{built}
use Rattle.spots.specs.OfLists.{HasOccurrences}
use Rattle.occ_tree.specs.OfLists.{IsTreeOf}
use Rattle.occ_tree.specs.Places.{forest}
use Rattle.occ_tree.specs.Standing.{Kept}
use Rattle.map_engine.proofs.net_map.NetMapMapCore.why.Goals as goal

pub tell_why-requires-clause-seen : goal.tell_why-requires-clause-seen
tell_why-requires-clause-seen g c = subst (IsTreeOf c.self.inside.standing.present c.self.inside.net.present) (sym c.tree.ensures) c.self.invariant.next_nodes.fit.tree

pub tell_why-requires-clause-holds : goal.tell_why-requires-clause-holds
tell_why-requires-clause-holds g c =
    subst (λ (k : Kept). HasOccurrences (built c.self.inside.standing.present).believed (forest k)) (sym c.tree.ensures) c.self.invariant.next_nodes.current.holds
