use Rattle.tmm_model.specs.declared.point.PointName.TheVariants.{Start}
use Rattle.dist_net.proofs.Indexing.{AreIndexed-start, noted_there}
use Rattle.dist_net.proofs.index.Index.make.Goals as goal

pub returns : goal.returns
returns c = AreIndexed-start c.note.new.self (noted_there c.in_ok-with_capacity.field-0.entries Start 0 c.note.new.self c.note.ensures.noted)
