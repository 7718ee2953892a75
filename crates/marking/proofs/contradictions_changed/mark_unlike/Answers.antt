use Rattle.std.specs.Prelude.{pos}
use Rattle.row_links.specs.Lists.{IsOn}
use Rattle.undo_rows.specs.Changes.{present as table}
use Rattle.occ_tree.specs.Standing.{present}
use Rattle.belief_table.specs.Waiting.{dates_in}
use Rattle.belief_table.proofs.Marked.{none_spared}
use Rattle.marking.proofs.Unlike.{unlike_wake, alike_wake}
use Rattle.marking.proofs.Waking.{ok_then}
use Rattle.marking.proofs.contradictions_changed.mark_unlike.Goals as goal

pub returns-then-reads_unlike : goal.returns-then-reads_unlike
returns-then-reads_unlike c =
    let s = present c.args.tree.now in
    let t = table c.args.rows.now in
    let old = dates_in c.args.waiting.now in
    let new = dates_in c.mark_list.new.waiting in
    ok_then c.mark_list.result
    (λ marks. unlike_wake s t c.args.standing.now.committed c.args.standing.now.present c.args.name c.args.rule (c.reads_unlike.ensures.yes c.if-reads_unlike.true) old new
    (none_spared s t (IsOn (t.list 1 c.args.rule)) (pos 0) old new marks))
    c.mark_list.ensures

pub returns-else-reads_unlike : goal.returns-else-reads_unlike
returns-else-reads_unlike c =
    alike_wake (present c.args.tree.now) (table c.args.rows.now) c.args.standing.now.committed c.args.standing.now.present c.args.name c.args.rule (c.reads_unlike.ensures.no c.if-reads_unlike.false) (dates_in c.args.waiting.now)
