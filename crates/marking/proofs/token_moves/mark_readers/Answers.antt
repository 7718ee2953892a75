use Rattle.std.proofs.Common.{◌≡◌, ◌∙◌, [], sym, ap, subst, rules, w64, to_z, of_z}
use Rattle.std.specs.Prelude.{FitsSigned}
use Rattle.std.specs.Option.{option_map_or}
use Rattle.std.proofs.lemmas.Int.{to_z-of_z}
use Rattle.std.proofs.lemmas.Result.{on_ok_weaker}
use Rattle.spots.specs.Forest.{Member}
use Rattle.occ_tree.specs.Standing.{present}
use Rattle.undo_rows.specs.Changes.{Logged, present as table}
use Rattle.decision_rows.specs.declared.row.Pair.{Pair}
use Rattle.marking.specs.TokenMarks.{MarksRivals, MarksReaders, what_at}
use Rattle.belief_table.specs.Marks.{HaveEvents}
use Rattle.marking.proofs.MarkedUnder.{marks_under}
use Rattle.belief_table.proofs.Named.{last_on}
use Rattle.marking.proofs.Contradicting.{waiting_last, readers_marked}
use Rattle.marking.proofs.token_moves.mark_readers.Goals as goal

pub mark_rivals_once-requires-clause-events : goal.mark_rivals_once-requires-clause-events
mark_rivals_once-requires-clause-events c = subst (λ (rs : Logged Pair 8). HaveEvents c.args.tree.now (table rs)) (sym c.in_ok-mark_own.ensures.ok.rows) c.requires.events

pub mark_rivals_once-requires-clause-under : goal.mark_rivals_once-requires-clause-under
mark_rivals_once-requires-clause-under c =
    let own = c.in_ok-mark_own.ensures.ok in
    let (list, under) = c.requires.under in
    (list, marks_under list c.args.decisions.now c.mark_own.new.decisions own.rows own.rules c.in_ok-mark_own.ensures.last under)

pub mark_rivals_once-requires-clause-covered : goal.mark_rivals_once-requires-clause-covered
mark_rivals_once-requires-clause-covered c = c.in_ok-mark_own.ensures.covered c.args.standing.now.present c.requires.covered

pub returns-clause-ok : goal.returns-clause-ok
returns-clause-ok c =
    let list = c.args.standing.now.present in
    let tree = c.args.tree.now in
    let x = c.args.x in
    let old = c.args.decisions.now in
    let mid = c.mark_own.new.decisions in
    let new = c.mark_rivals_once.new.decisions in
    let (m, at, _) = c.requires.token in
    let fits : FitsSigned w64 c.early-from.result = search rules in
    let date = to_z-of_z w64 c.early-from.result fits ∙ c.early-from.ensures.date in
    let what : c.row-fact.result.what ≡ what_at tree x = (c.row-fact.ensures m at).what ∙ sym (ap (λ o. option_map_or (λ (k : Member). k.what) o []) at) in
    on_ok_weaker {P = MarksRivals list (present tree) c.row-fact.result.what (to_z w64 (of_z w64 c.early-from.result)) mid new}
    {Q = MarksReaders list c.args.net.now.present tree c.args.moving.now x c.args.class old new} c.mark_rivals_once.result
    (λ rivals. readers_marked list c.args.net.now.present tree c.args.moving.now x c.args.class old mid new c.in_ok-mark_own.ensures.ok
    (subst (λ z. MarksRivals list (present tree) (what_at tree x) z mid new) date (subst (λ w. MarksRivals list (present tree) w (to_z w64 (of_z w64 c.early-from.result)) mid new) what rivals)))
    c.mark_rivals_once.ensures.ok

pub returns-clause-last : goal.returns-clause-last
returns-clause-last c =
    last_on c.args.decisions.now c.mark_own.new.decisions c.mark_rivals_once.new.decisions c.mark_own.ensures.last
    (waiting_last c.mark_own.new.decisions c.mark_rivals_once.new.decisions c.mark_rivals_once.ensures.others)
