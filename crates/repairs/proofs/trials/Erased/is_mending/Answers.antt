use Rattle.tmm_model.specs.Changes.{delta_of}
use Rattle.repairs.proofs.Erasing.{mending_after}
use Rattle.repairs.proofs.trials.Erased.is_mending.Goals as goal

pub returns-in-Ok-clause-value : goal.returns-in-Ok-clause-value
returns-in-Ok-clause-value g c =
    mending_after c.args.standing.now.present (g.M.MapCore.list c.args.self.now.map) c.args.erased.now c.args.name.now c.args.edit.now (delta_of c.args.self.now.changes) (delta_of c.in-Ok.made.changes)
    c.tell_mended.result c.requires.erased.leaves c.requires.erased.told c.in-Ok.ensures.accepted c.in-Ok.ensures.changes c.tell_mended.ensures
