use Rattle.std.proofs.Common.{◌≡◌, ◌∙◌, ◌<◌, [], length, take, sym, ap, subst, arith}
use Rattle.std.specs.Prelude.{pos}
use Rattle.std.proofs.lemmas.List.{take_more, take_all}
use Rattle.occ_tree.specs.Standing.{present}
use Rattle.belief_table.specs.declared.state.Decisions.{Decisions}
use Rattle.marking.specs.LeftMarks.{MarksFacts}
use Rattle.belief_table.specs.Decided.{table_of}
use Rattle.marking.specs.TokenMarks.{MarksRivals}
use Rattle.belief_table.specs.Marks.{HaveEvents}
use Rattle.belief_table.specs.Numbers.{name_in}
use Rattle.marking.proofs.MarkedUnder.{marks_under}
use Rattle.marking.proofs.Contradicting.{waiting_last, facts_none, facts_next}
use Rattle.marking.proofs.tokens_departed.mark_facts.Goals as goal

pub loop-k-init : goal.loop-k-init
loop-k-init c = facts_none c.args.standing.now.present (present c.args.tree.now) c.args.decisions.now

pub mark_rivals-requires-clause-events : goal.mark_rivals-requires-clause-events
mark_rivals-requires-clause-events c = subst (λ (d : Decisions). HaveEvents c.args.tree.now (table_of d)) (sym c.loop-k.invariant.same) c.requires.events

pub mark_rivals-requires-clause-under : goal.mark_rivals-requires-clause-under
mark_rivals-requires-clause-under c =
    let (list, under) = c.requires.under in
    let same = c.loop-k.invariant.same in
    let d = c.args.decisions.now in
    (list, marks_under list d c.loop-k.decisions (ap (λ (z : Decisions). z.rows) same) (ap (λ (z : Decisions). z.rules) same) (waiting_last d c.loop-k.decisions same) under)

pub loop-k-preserved : goal.loop-k-preserved
loop-k-preserved c =
    let s = present c.args.tree.now in
    let list = c.args.standing.now.present in
    let names = c.args.facts.now in
    let k = c.loop-k.k in
    let old = c.args.decisions.now in
    let mid = c.loop-k.decisions in
    let new = c.mark_rivals.new.decisions in
    let within : k < length names = omega (arith, c.loop-k-test.true, c.len-k-end.ensures) in
    subst (λ l. MarksFacts list s l old new) (sym (take_more names k [] within))
    (facts_next list s (take k names) (name_in names k) old mid new c.loop-k.invariant (subst (λ z. MarksRivals list s z (pos 0) mid new) c.name.ensures c.in_ok-mark_rivals.ensures.ok))

pub returns-clause-ok : goal.returns-clause-ok
returns-clause-ok c =
    let names = c.args.facts.now in
    let all : take c.loop-k.k names ≡ names = take_all c.loop-k.k names (omega (arith, c.loop-k-test.false, c.len-k-end.ensures)) in
    subst (λ l. MarksFacts c.args.standing.now.present (present c.args.tree.now) l c.args.decisions.now c.loop-k.decisions) all c.loop-k.invariant

pub returns-clause-others : goal.returns-clause-others
returns-clause-others c = c.loop-k.invariant.same

pub returns-in_err-mark_rivals-clause-others : goal.returns-in_err-mark_rivals-clause-others
returns-in_err-mark_rivals-clause-others c =
    c.mark_rivals.ensures.others ∙ ap (λ (d : Decisions). record d { waiting = c.mark_rivals.new.decisions.waiting }) c.loop-k.invariant.same
