use Rattle.std.proofs.Common.{List, subst}
use Rattle.occ_tree.specs.Standing.{present}
use Rattle.bearing.specs.declared.gone_tokens.Gone.{Gone}
use Rattle.marking.specs.LeftMarks.{MarksTokens}
use Rattle.marking.proofs.LeftMarked.{read_by_tokens, read_by_classes}
use Rattle.marking.proofs.Waking.{ok_then}
use Rattle.marking.proofs.tokens_departed.mark_read.Goals as goal

pub returns-then-says_none-clause-ok : goal.returns-then-says_none-clause-ok
returns-then-says_none-clause-ok c =
    let was = c.args.standing.now.committed in
    let to = c.args.standing.now.present in
    let net = c.args.net.now.committed in
    let s = present c.args.tree.now in
    let d = c.args.departed.now in
    let old = c.args.decisions.now in
    let new = c.mark_tokens.new.decisions in
    ok_then c.mark_tokens.result
    (λ p. read_by_tokens was to net s d.classes d.tokens.items c.requires.classes old new (c.says_none.ensures c.if-says_none.true)
    (subst (λ (l : List Gone). MarksTokens net s l old new) c.deref.ensures.value p))
    c.mark_tokens.ensures.ok

pub returns-else-len-le-FEW-clause-ok : goal.returns-else-len-le-FEW-clause-ok
returns-else-len-le-FEW-clause-ok c =
    let d = c.args.departed.now in
    ok_then c.mark_classes.result
    (λ p. read_by_classes c.args.standing.now.committed c.args.standing.now.present c.args.net.now.committed (present c.args.tree.now) d.classes d.tokens.items c.requires.classes c.args.decisions.now
    c.mark_classes.new.decisions p)
    c.mark_classes.ensures.ok
