use Rattle.std.proofs.Common.{◌∙◌, ap}
use Rattle.map_engine.specs.declared.next.Next.{Next}
use Rattle.map_engine.specs.Nexts.{after}
use Rattle.map_engine.proofs.NetMaps.{committed_map}
use Rattle.map_engine.proofs.net_map.NetMapMapCore.commit.Goals as goal

pub invariant_of-self : goal.invariant_of-self
invariant_of-self c =
    let m = c.self.inside in
    committed_map m.standing m.net m.nodes m.view m.guarded m.next c.self.invariant c.commit.new.self c.commit-2.new.self c.commit-3.new.self c.keep.new.view c.replace-next.new.dest
    c.commit.ensures c.commit-2.ensures c.commit-3.ensures.nodes c.commit-3.ensures.kept
    (c.keep.ensures ∙ ap (λ (n : Next). after m.view n) c.replace-next.ensures.value) c.replace-next.ensures.after
