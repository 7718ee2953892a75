use Rattle.std.proofs.Common.{refl}
use Rattle.map_engine.specs.declared.next.Next.TheVariants.{Nothing}
use Rattle.map_engine.proofs.NetMaps.{at_rest}
use Rattle.map_engine.proofs.net_map.resting_map.Goals as goal

pub invariant_of-result : goal.invariant_of-result
invariant_of-result c = at_rest c.args.standing c.args.net c.args.nodes c.args.view c.args.guarded Nothing refl c.requires.settled c.requires.held c.requires.rests
