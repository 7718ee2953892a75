use Rattle.tmm_model.specs.Maps.{built}
use Rattle.protections.specs.Found.{found_in}
use Rattle.map_engine.proofs.Unmoved.{none_reported}
use Rattle.map_engine.proofs.moved.reviewed.Goals as goal

pub returns-then-not-guarded : goal.returns-then-not-guarded
returns-then-not-guarded c =
    let lists = c.args.map.now.standing.now in
    c.none.ensures (built lists.committed) (built lists.present) (found_in c.args.before.now) c.requires.before
    (none_reported lists.committed (c.requires.unguarded_before c.if-not-guarded.true))
    (none_reported lists.present (c.requires.unguarded_now c.if-not-guarded.true))
