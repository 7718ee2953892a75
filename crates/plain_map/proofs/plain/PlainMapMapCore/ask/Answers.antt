use Rattle.std.proofs.Common.{◌∙◌, ap, sym, subst}
use Rattle.tmm_model.specs.Maps.{built}
use Rattle.tmm_model.specs.Standing.{Standing}
use Rattle.spots.specs.OfLists.{HasOccurrences}
use Rattle.occ_tree.specs.Places.{forest}
use Rattle.map_core.specs.MapStates.{MapState}
use Rattle.plain_map.proofs.Nothing.{none_pending}
use Rattle.plain_map.proofs.plain.PlainMapMapCore.ask.Goals as goal

pub ask_between-requires-clause-holds : goal.ask_between-requires-clause-holds
ask_between-requires-clause-holds c =
    let settled = c.self.invariant.settled (none_pending c.self.inside.standing.present c.self.inside.next (ap (λ (m : MapState). m.pending) c.self.view_is ∙ c.requires.idle)) in
    subst (λ (s : Standing). HasOccurrences (built s).believed (forest c.self.inside.beliefs.tree)) (sym settled.list) c.self.invariant.believed.holds
