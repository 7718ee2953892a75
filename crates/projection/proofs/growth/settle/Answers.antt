use Rattle.std.proofs.Common.{◌≡◌, ◌∙◌, false, sym, rules}
use Rattle.projection.proofs.Decided.{entry, decided_blocked}
use Rattle.occ_tree.specs.Places.{forest}
use Rattle.projection.proofs.growth.settle.Goals as goal

pub is_free-requires-clause-trigger : goal.is_free-requires-clause-trigger
is_free-requires-clause-trigger c =
    (entry c.args.standing.now.present c.args.net.now.present (forest c.args.growing.now.tree) c.requires.before.1.queue c.args.growing.now.size c.requires.before.1.growing c.args.pending.now c.args.growing.now.queue c.requires.before.1.next).live

pub is_free-requires-clause-place : goal.is_free-requires-clause-place
is_free-requires-clause-place c =
    (entry c.args.standing.now.present c.args.net.now.present (forest c.args.growing.now.tree) c.requires.before.1.queue c.args.growing.now.size c.requires.before.1.growing c.args.pending.now c.args.growing.now.queue c.requires.before.1.next).place

pub is_free-requires-clause-rule : goal.is_free-requires-clause-rule
is_free-requires-clause-rule c =
    (entry c.args.standing.now.present c.args.net.now.present (forest c.args.growing.now.tree) c.requires.before.1.queue c.args.growing.now.size c.requires.before.1.growing c.args.pending.now c.args.growing.now.queue c.requires.before.1.next).stands

pub returns-else-is_free-clause-after : goal.returns-else-is_free-clause-after
returns-else-is_free-clause-after c made before =
    let blocked : c.is_free.result ≡ false = search rules in
    decided_blocked c.args.standing.now.present c.args.net.now.present (forest c.args.growing.now.tree) before.queue c.args.growing.now.size before.growing c.args.pending.now c.args.growing.now.queue before.next
    (sym (c.is_free.ensures before.growing.entered before.growing.grown.holds) ∙ blocked)

pub is_free-requires-clause-seen : goal.is_free-requires-clause-seen
is_free-requires-clause-seen c = record { seen = c.requires.before.1.growing.grown.seen; dated = c.requires.dated }

pub bring_about-requires-clause-fires : goal.bring_about-requires-clause-fires
bring_about-requires-clause-fires c b holds = sym (c.is_free.ensures b holds) ∙ c.if-is_free.true
