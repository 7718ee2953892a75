use Rattle.std.proofs.Common.{◌∷◌, [], ◌++◌, ap, ◌∙◌}
use Rattle.undo_lists.proofs.Written.{HaveGrown-pushed}
use Rattle.undo_lists.proofs.steps.push_empty.Goals as goal

pub returns-clause-grown : goal.returns-clause-grown
returns-clause-grown g c =
    HaveGrown-pushed c.args.lists.now.items c.push_reserved.new.self.items c.make.result c.make.ensures (c.push_reserved.ensures.items ∙ ap (λ l. l ++ c.make.result ∷ []) c.reserve.ensures.items)
