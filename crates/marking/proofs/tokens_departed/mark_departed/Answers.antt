use Rattle.std.proofs.Common.{sym, subst}
use Rattle.undo_rows.specs.Changes.{Logged, present as table}
use Rattle.decision_rows.specs.declared.row.Pair.{Pair}
use Rattle.occ_tree.specs.Standing.{present}
use Rattle.belief_table.specs.Marks.{HaveEvents}
use Rattle.marking.proofs.MarkedUnder.{marks_under}
use Rattle.belief_table.proofs.Named.{last_on}
use Rattle.marking.proofs.Contradicting.{waiting_last, left_marked}
use Rattle.marking.proofs.Waking.{ok_then}
use Rattle.marking.proofs.tokens_departed.mark_departed.Goals as goal

pub mark_facts-requires-clause-events : goal.mark_facts-requires-clause-events
mark_facts-requires-clause-events c = subst (λ (rs : Logged Pair 8). HaveEvents c.args.tree.now (table rs)) (sym c.in_ok-mark_read.ensures.ok.rows) c.requires.events

pub mark_facts-requires-clause-under : goal.mark_facts-requires-clause-under
mark_facts-requires-clause-under c =
    let own = c.in_ok-mark_read.ensures in
    let (list, under) = c.requires.under in
    (list, marks_under list c.args.decisions.now c.mark_read.new.decisions own.ok.rows own.ok.rules own.last under)

pub returns-clause-ok : goal.returns-clause-ok
returns-clause-ok c =
    let new = c.args.standing.now.present in
    let was = c.args.standing.now.committed in
    let s = present c.args.tree.now in
    let mid = c.mark_read.new.decisions in
    ok_then c.mark_facts.result
    (λ facts. left_marked new s was c.args.net.now.committed c.args.departed.now c.args.decisions.now mid c.mark_facts.new.decisions c.in_ok-mark_read.ensures.ok facts) c.mark_facts.ensures.ok

pub returns-clause-last : goal.returns-clause-last
returns-clause-last c =
    last_on c.args.decisions.now c.mark_read.new.decisions c.mark_facts.new.decisions c.mark_read.ensures.last
    (waiting_last c.mark_read.new.decisions c.mark_facts.new.decisions c.mark_facts.ensures.others)
