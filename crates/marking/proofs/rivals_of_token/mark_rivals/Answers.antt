use Rattle.std.proofs.Common.{◌≡◌, ◌∙◌, true, refl, ap, subst, rules, w64, to_z, of_z, arith}
use Rattle.std.specs.Prelude.{FitsSigned}
use Rattle.std.proofs.lemmas.Int.{to_z-of_z}
use Rattle.occ_tree.specs.Standing.{present}
use Rattle.joined.specs.Gaps.{reads_rival}
use Rattle.belief_table.specs.declared.state.Decisions.{Decisions}
use Rattle.belief_table.specs.Decided.{table_of, rule_in}
use Rattle.belief_table.specs.Marks.{Marks, IsAsLate}
use Rattle.belief_table.specs.Numbers.{name_in}
use Rattle.belief_table.specs.Waiting.{dates_in}
use Rattle.marking.proofs.Contradicting.{no_rivals, rivals_none, rivals_next, rivals_all}
use Rattle.marking.proofs.rivals_of_token.mark_rivals.Goals as goal

pub loop-rule-init : goal.loop-rule-init
loop-rule-init c = record {
  marks = rivals_none c.requires.under.0 c.args.decisions.now c.requires.under.1 c.first.ensures.listed c.args.standing.now.present (present c.args.tree.now) c.args.fact
      (to_z w64 (of_z w64 c.args.from)) (dates_in c.args.decisions.now.waiting);
  others = refl;
}

pub loop-rule-preserved : goal.loop-rule-preserved
loop-rule-preserved c =
    let d = c.args.decisions.now in
    let n = c.loop-rule.rule in
    let others = c.loop-rule.invariant.others in
    record {
      marks = rivals_next c.requires.under.0 d c.requires.under.1 c.first.ensures.listed c.args.standing.now.present (present c.args.tree.now) c.args.fact (to_z w64 (of_z w64 c.args.from))
          n c.name-name.result c.loop-rule.decisions.rows (dates_in d.waiting) (dates_in c.loop-rule.decisions.waiting) (dates_in c.mark_rival.new.waiting)
          (ap (λ (z : Decisions). z.rows) others) (c.name-name.ensures ∙ ap (λ (z : Decisions). name_in z.rules n) others) c.loop-rule.invariant.marks
          (λ reads. c.in_ok-mark_rival.ensures.reads reads) (λ other. ap dates_in (c.in_ok-mark_rival.ensures.other other));
      others = ap (λ (z : Decisions). record z { waiting = c.mark_rival.new.waiting }) others;
    }

pub returns-clause-ok : goal.returns-clause-ok
returns-clause-ok c =
    let d = c.args.decisions.now in
    let s = present c.args.tree.now in
    let list = c.args.standing.now.present in
    let fits : FitsSigned w64 c.args.from = search rules in
    record {
      same = c.loop-rule.invariant.others;
      marks = subst (λ z. Marks s (table_of d) (λ i row. (reads_rival list (rule_in d row) c.args.fact ≡ true) × IsAsLate s z row) (dates_in d.waiting) (dates_in c.loop-rule.decisions.waiting))
          (to_z-of_z w64 c.args.from fits)
          (rivals_all c.requires.under.0 d c.requires.under.1 c.first.ensures.listed list s c.args.fact (to_z w64 (of_z w64 c.args.from)) c.loop-rule.rule
          (dates_in d.waiting) (dates_in c.loop-rule.decisions.waiting)
          (λ i row at. (let h = c.requires.under.1.named i row at in omega (arith, h, c.loop-rule-test.false, c.len-rule-end.ensures)))
          c.loop-rule.invariant.marks);
    }

pub returns-clause-others : goal.returns-clause-others
returns-clause-others c = c.loop-rule.invariant.others

pub returns-then-not-has_rivals-clause-ok : goal.returns-then-not-has_rivals-clause-ok
returns-then-not-has_rivals-clause-ok c = no_rivals c.args.standing.now.present (present c.args.tree.now) c.args.decisions.now c.args.fact c.args.from (c.has_rivals.ensures c.if-not-has_rivals.true)
