use Rattle.std.proofs.Common.{arith}
use Rattle.occ_tree.specs.Standing.{nodes_in, present_rows}
use Rattle.occ_tree.proofs.Ways.{length-way}
use Rattle.occ_tree.proofs.Effects.{effect_room, effect_placed, effect_is}
use Rattle.occ_tree.proofs.nodes.Nodes.effect.Goals as goal

pub jump_below-requires : goal.jump_below-requires
jump_below-requires c = let long = length-way (nodes_in (present_rows c.args.self.now)) c.args.parent c.get-event.result.now c.get-event.ensures.node in omega (arith, long)

pub overflow_add-result : goal.overflow_add-result
overflow_add-result c =
    let (m, m_at, trigger) = c.requires.trigger in
    let few = effect_room (nodes_in (present_rows c.args.self.now)) c.get-event.ensures.stands.placed c.args.parent c.get-event.result.now c.get-event.ensures.node m m_at c.args.link.now.rule trigger in
    omega (arith, few)

pub returns-clause-placed : goal.returns-clause-placed
returns-clause-placed c =
    let a = c.args in
    let node = nodes_in (present_rows a.self.now) in
    let p = c.get-event.result.now in
    let at = c.get-event.ensures.node in
    let placed = c.get-event.ensures.stands.placed in
    let (m, m_at, trigger) = c.requires.trigger in
    effect_placed node placed a.parent p at m m_at a.link.now trigger c.requires.light c.root.result c.jump_below.result c.with.result a.what a.class a.list a.shape
    c.requires.word c.root.ensures (c.jump_below.ensures p.depth (length-way node a.parent p at)) (c.with.ensures _ (placed.each a.parent p at).sums) c.requires.class

pub returns-clause-effect : goal.returns-clause-effect
returns-clause-effect c =
    let a = c.args in
    let node = nodes_in (present_rows a.self.now) in
    let (m, m_at, trigger) = c.requires.trigger in
    effect_is node c.get-event.ensures.stands.placed a.parent c.get-event.result.now c.get-event.ensures.node m m_at a.link.now trigger c.requires.light c.root.result c.jump_below.result c.with.result a.what a.class a.list a.shape
