use Rattle.std.proofs.Common.{refl}
use Rattle.map_engine.specs.declared.next.Next.TheVariants.{Nothing}
use Rattle.map_engine.proofs.NetMaps.{rolled_back}
use Rattle.map_engine.proofs.net_map.NetMapMapCore.rollback.Goals as goal

pub invariant_of-self : goal.invariant_of-self
invariant_of-self c =
    let m = c.self.inside in
    rolled_back m.standing m.net m.nodes m.view m.guarded m.next c.self.invariant c.roll_back.new.standing c.roll_back.new.net c.rollback.new.self Nothing
    c.roll_back.ensures.list c.roll_back.ensures.net c.rollback.ensures.nodes c.rollback.ensures.kept refl
