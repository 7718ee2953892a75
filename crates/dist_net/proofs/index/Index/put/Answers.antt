use Rattle.std.proofs.Common.{None, ◌∙◌, arith}
use Rattle.std.proofs.lemmas.List.{get_or_default}
use Rattle.dist_net.proofs.Indexing.{IsIndexed-noted, IsIndexed-kept}
use Rattle.dist_net.proofs.index.Index.put.Goals as goal

pub returns-then-len-lt-ROOM-clause-put : goal.returns-then-len-lt-ROOM-clause-put
returns-then-len-lt-ROOM-clause-put c =
    IsIndexed-noted c.args.self.now c.in-Some.name c.args.p c.note.new.self c.note.ensures.noted c.args.names.now
    (get_or_default c.args.names.now c.args.p None _ (omega (arith, c.requires.place, c.requires.places)) ∙ c.in-Some.is)

pub returns-then-len-lt-ROOM-clause-others : goal.returns-then-len-lt-ROOM-clause-others
returns-then-len-lt-ROOM-clause-others c =
    IsIndexed-kept c.args.self.now c.in-Some.name c.args.p c.note.new.self c.note.ensures.noted c.args.names.now
    (get_or_default c.args.names.now c.args.p None _ (omega (arith, c.requires.place, c.requires.places)) ∙ c.in-Some.is) c.requires.distinct
