use Rattle.std.proofs.Common.{sym, subst}
use Rattle.tmm_model.specs.Beliefs.{roots}
use Rattle.just_check.specs.Checking.{AwaitsRoots}
use Rattle.just_check.proofs.Answering.{checked_first}
use Rattle.just_check.proofs.auditing.audit_from.Goals as goal

pub take_all-requires-clause-before : goal.take_all-requires-clause-before
take_all-requires-clause-before c =
    let none = c.none-checked.ensures in
    checked_first c.args.standing.now.present c.args.net.now.present c.none-checked.result c.requires.network none.tree none.nodes none.decided (subst (AwaitsRoots (roots c.args.standing.now.present)) (sym none.expected) c.requires.roots)
