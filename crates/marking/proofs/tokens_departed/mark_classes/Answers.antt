use Rattle.std.proofs.Common.{◌≡◌, ◌<◌, [], length, take, sym, subst, arith}
use Rattle.std.specs.Prelude.{pos}
use Rattle.std.proofs.lemmas.List.{take_more, take_all}
use Rattle.undo_rows.specs.Changes.{Logged, present as table}
use Rattle.decision_rows.specs.declared.row.Pair.{Pair}
use Rattle.occ_tree.specs.Standing.{present}
use Rattle.marking.specs.LeftMarks.{MarksClasses}
use Rattle.marking.specs.TokenMarks.{MarksClass}
use Rattle.belief_table.specs.Marks.{HaveEvents}
use Rattle.belief_table.specs.Numbers.{name_in}
use Rattle.belief_table.proofs.Named.{last_stays, last_on}
use Rattle.marking.proofs.Noted.{classes_none, classes_next}
use Rattle.marking.proofs.tokens_departed.mark_classes.Goals as goal

pub loop-k-init : goal.loop-k-init
loop-k-init c = record { marks = classes_none (present c.args.tree.now) c.args.decisions.now c.first.ensures.listed; last = last_stays c.args.decisions.now }

pub mark_token-requires : goal.mark_token-requires
mark_token-requires c = subst (λ (rows : Logged Pair 8). HaveEvents c.args.tree.now (table rows)) (sym c.loop-k.invariant.marks.rows) c.requires

pub loop-k-preserved : goal.loop-k-preserved
loop-k-preserved c =
    let s = present c.args.tree.now in
    let names = c.args.classes.now in
    let k = c.loop-k.k in
    let old = c.args.decisions.now in
    let mid = c.loop-k.decisions in
    let new = c.mark_token.new.decisions in
    let within : k < length names = omega (arith, c.loop-k-test.true, c.len-k-end.ensures) in
    record {
      marks = subst (λ l. MarksClasses s l old new) (sym (take_more names k [] within))
          (classes_next s (take k names) (name_in names k) old mid new c.loop-k.invariant.marks (subst (λ z. MarksClass s z (pos 0) mid new) c.name.ensures c.in_ok-mark_token.ensures.ok) c.in_ok-mark_token.ensures.last);
      last = last_on old mid new c.loop-k.invariant.last c.in_ok-mark_token.ensures.last;
    }

pub returns-in_err-mark_token-clause-last : goal.returns-in_err-mark_token-clause-last
returns-in_err-mark_token-clause-last c = last_on c.args.decisions.now c.loop-k.decisions c.mark_token.new.decisions c.loop-k.invariant.last c.mark_token.ensures.last

pub returns-clause-ok : goal.returns-clause-ok
returns-clause-ok c =
    let names = c.args.classes.now in
    let all : take c.loop-k.k names ≡ names = take_all c.loop-k.k names (omega (arith, c.loop-k-test.false, c.len-k-end.ensures)) in
    subst (λ l. MarksClasses (present c.args.tree.now) l c.args.decisions.now c.loop-k.decisions) all c.loop-k.invariant.marks
