use Rattle.tmm_model.specs.Changes.{delta_of}
use Rattle.repairs.proofs.Erasing.{left}
use Rattle.repairs.proofs.trials.Erased.make.Goals as goal

pub returns-in-Ok : goal.returns-in-Ok
returns-in-Ok g c =
    let l = left (g.M.MapCore.list c.args.core.now) (g.M.MapCore.list c.in_ok-map.map) (g.M.MapCore.list c.commit.new.self) c.args.name (delta_of c.in-Ok.made.changes)
    (g.M.MapCore.pending c.apply.new.self) c.in_ok-map.ensures.list c.in-Ok.ensures.accepted c.in-Ok.ensures.pending c.commit.ensures.list c.in-Ok.ensures.changes in
    record { accepted = l.accepted; leaves = l.leaves; settled = c.commit.ensures.idle; told = l.told }
