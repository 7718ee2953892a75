use Rattle.std.proofs.Common.{◌≡◌, ◌∙◌, Some, refl, ap, sym, subst, rules, w64}
use Rattle.std.proofs.lemmas.Int.{to_z-of_z}
use Rattle.std.specs.Prelude.{IfSome, FitsSigned}
use Rattle.std.specs.List.{Contains}
use Rattle.tmm_model.specs.Beliefs.{rules_at}
use Rattle.spots.specs.Forest.{moment_at}
use Rattle.undo_rows.specs.declared.row.Row.{Row as TableRow}
use Rattle.decision_rows.specs.declared.row.Pair.{Pair}
use Rattle.occ_tree.specs.Places.{forest}
use Rattle.occ_tree.specs.Standing.{present, early}
use Rattle.marking.specs.EditMarks.{later_of}
use Rattle.marking.specs.Covered.{Covers}
use Rattle.belief_table.specs.Decided.{table_of}
use Rattle.belief_table.specs.Numbers.{name_in}
use Rattle.marking.proofs.Covering.{rest_covered, decided_covered}
use Rattle.belief_table.proofs.Marked.{one_row}
use Rattle.belief_turns.proofs.Turned.{stands_at}
use Rattle.belief_turns.proofs.turn.decide_first.Goals as goal

pub decide-found-requires-clause-rule : goal.decide-found-requires-clause-rule
decide-found-requires-clause-rule c =
    let s = c.args.standing.now.present in
    let b = c.args.beliefs.now in
    let (row, at, is) = c.requires.fit.dated c.in-Some.entry.row c.in-Some.entry.early.0 c.in-Some.ensures.first.waited in
    let pair = subst (λ o. IfSome o (λ (r : TableRow Pair 8). (c.pair-trigger.result.0 ≡ r.value.trigger) × (c.pair-trigger.result.1 ≡ r.value.rule))) at c.pair-trigger.ensures in
    let named = c.name-rule.ensures ∙ ap (name_in b.decisions.rules) pair.1 in
    subst (λ t. Contains (rules_at s (moment_at (forest b.tree) t)) c.name-rule.result) (sym pair.0)
    (subst (λ n. Contains (rules_at s (moment_at (forest b.tree) row.value.trigger)) n) (sym named) (stands_at s c.args.net.now.present b c.requires.fit c.requires.revising c.in-Some.entry.row row at))

pub returns-in_default-clause-covered : goal.returns-in_default-clause-covered
returns-in_default-clause-covered c =
    let b = c.args.beliefs.now in
    rest_covered c.args.standing.now.present (present b.tree) b.decisions (record b.decisions { waiting = c.pop.new.self }) c.args.marks.now refl refl c.in_default.ensures.first (c.in_default.ensures.rests refl) c.requires.covered

pub returns-clause-covered : goal.returns-clause-covered
returns-clause-covered c =
    let list = c.args.standing.now.present in
    let b = c.args.beliefs.now in
    let s = present b.tree in
    let d = b.decisions in
    let new = record d { rows = c.set.new.self; waiting = c.pop.new.self } in
    let m = c.args.marks.now in
    let i = c.in-Some.entry.row in
    let z = c.in-Some.entry.early.0 in
    let fits : FitsSigned w64 z = search rules in
    let takes = c.in-Some.ensures.first in
    let (row, at, is) = c.requires.fit.dated i z takes.waited in
    let dated = λ (r : TableRow Pair 8) (here : (table_of d).row i ≡ Some r). is ∙ ap (λ (q : TableRow Pair 8). early s q.value.trigger) (one_row (table_of d) i row r at here) in
    let all = decided_covered list s d new m i z c.decide-found.result takes c.in_ok-set.ensures.ok refl dated c.requires.covered in
    subst (Covers list s new) (sym c.decide.ensures)
    (subst (λ y. Covers list s new (record m { decided = later_of m.decided y })) (sym (to_z-of_z w64 z fits)) all)
