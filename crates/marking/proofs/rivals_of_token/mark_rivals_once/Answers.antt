use Rattle.std.proofs.Common.{subst, rules, w64, to_z, of_z}
use Rattle.std.specs.Prelude.{FitsSigned}
use Rattle.std.proofs.lemmas.Int.{to_z-of_z}
use Rattle.std.proofs.lemmas.Result.{on_ok_weaker}
use Rattle.occ_tree.specs.Standing.{present}
use Rattle.marking.specs.Covered.{Covers}
use Rattle.marking.specs.EditMarks.{MarksFact}
use Rattle.marking.specs.TokenMarks.{MarksRivals}
use Rattle.marking.proofs.Contradicting.{no_rivals}
use Rattle.marking.proofs.Covering.{covered_rivals, fact_covered}
use Rattle.marking.proofs.rivals_of_token.mark_rivals_once.Goals as goal

pub returns-then-says_none-clause-ok : goal.returns-then-says_none-clause-ok
returns-then-says_none-clause-ok c = no_rivals c.args.standing.now.present (present c.args.tree.now) c.args.decisions.now c.args.fact c.args.from (λ f. c.says_none.ensures c.if-says_none.true f c.args.fact)

pub returns-then-covers_fact-clause-ok : goal.returns-then-covers_fact-clause-ok
returns-then-covers_fact-clause-ok c =
    let list = c.args.standing.now.present in
    let s = present c.args.tree.now in
    let d = c.args.decisions.now in
    let fits : FitsSigned w64 c.args.from = search rules in
    subst (λ z. MarksRivals list s c.args.fact z d d) (to_z-of_z w64 c.args.from fits)
    (covered_rivals list s d c.args.marks.now c.args.fact (to_z w64 (of_z w64 c.args.from)) c.requires.covered (c.covers_fact.ensures.0 c.if-covers_fact.true))

pub returns-clause-ok : goal.returns-clause-ok
returns-clause-ok c =
    let list = c.args.standing.now.present in
    let s = present c.args.tree.now in
    let old = c.args.decisions.now in
    let new = c.mark_rivals.new.decisions in
    let fits : FitsSigned w64 c.args.from = search rules in
    on_ok_weaker {P = MarksFact c.args.marks.now c.mark_fact.new.self c.args.fact (to_z w64 (of_z w64 c.args.from))} {Q = MarksRivals list s c.args.fact c.args.from old new} c.mark_fact.result
    (λ marked. subst (λ z. MarksRivals list s c.args.fact z old new) (to_z-of_z w64 c.args.from fits) c.in_ok-mark_rivals.ensures.ok)
    c.mark_fact.ensures

pub returns-clause-covered : goal.returns-clause-covered
returns-clause-covered c =
    let list = c.args.standing.now.present in
    let s = present c.args.tree.now in
    let old = c.args.decisions.now in
    let new = c.mark_rivals.new.decisions in
    let from = to_z w64 (of_z w64 c.args.from) in
    on_ok_weaker {P = MarksFact c.args.marks.now c.mark_fact.new.self c.args.fact from} {Q = Covers list s new c.mark_fact.new.self} c.mark_fact.result
    (λ marked. fact_covered list s old new c.args.marks.now c.args.fact from c.in_ok-mark_rivals.ensures.ok c.requires.covered c.mark_fact.new.self marked)
    c.mark_fact.ensures
