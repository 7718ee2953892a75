use Rattle.timeline.proofs.Rows.{not_before}
use Rattle.timeline.proofs.roots.declare.Goals as goal

pub enter-requires-clause-soon : goal.enter-requires-clause-soon
enter-requires-clause-soon g c = not_before (g.M.MapCore.list c.args.core.now) c.requires.kept.sound c.in-Some.row c.in-Some.ensures.own
