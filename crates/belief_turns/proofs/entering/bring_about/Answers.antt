use Rattle.std.proofs.Common.{◌∙◌, [], ◌∷◌, refl, sym, ap, subst, rules, w64, to_z, of_z}
use Rattle.std.specs.Prelude.{FitsSigned}
use Rattle.std.proofs.lemmas.Int.{to_z-of_z}
use Rattle.tmm_model.specs.Beliefs.{rules_on}
use Rattle.list_theory.proofs.Distinct.{Distinct}
use Rattle.spots.specs.Forest.{moment_at}
use Rattle.occ_tree.specs.Places.{forest}
use Rattle.occ_tree.specs.Standing.{present, early}
use Rattle.supports.proofs.ByDate.{tree_in}
use Rattle.spots.proofs.Rules.{rule_there}
use Rattle.belief_table.specs.Decided.{AddsRows}
use Rattle.marking.specs.TokenMarks.{MarksReaders}
use Rattle.belief_turns.specs.Entering.{a_token, an_event}
use Rattle.belief_turns.proofs.Brought.{once_on_kind, rules_on_kind}
use Rattle.belief_table.proofs.Classes.{class_is_at}
use Rattle.marking.proofs.MarkedUnder.{marks_under}
use Rattle.marking.proofs.Covering.{entered_covered, added_covered}
use Rattle.belief_turns.proofs.entering.bring_about.Goals as goal

pub enter_effect-requires-clause-rule : goal.enter_effect-requires-clause-rule
enter_effect-requires-clause-rule c =
    rule_there c.args.standing.now.present c.requires.tree.seen.network.sound (moment_at (forest c.args.beliefs.now.tree) c.args.trigger) c.args.rule c.requires.enters.stands

pub add_rows_after-requires-clause-once : goal.add_rows_after-requires-clause-once
add_rows_after-requires-clause-once c =
    let s = c.args.standing.now.present in
    let net = c.args.net.now.present in
    let en = c.in_ok-effect.ensures.ok net c.requires.tree in
    let row = c.row-row.ensures en.adds.node en.adds.enters.entered in
    subst (λ w. Distinct (rules_on s w)) (sym row.what)
    (once_on_kind s net (forest c.enter_effect.new.tree) en.tree.seen c.in_ok-effect.effect en.adds.node en.adds.enters.entered (sym row.class ∙ c.in-None.is))

pub mark_readers-requires-clause-tree : goal.mark_readers-requires-clause-tree
mark_readers-requires-clause-tree c = tree_in (c.in_ok-effect.ensures.ok c.args.net.now.present c.requires.tree).tree

pub mark_readers-requires-clause-token : goal.mark_readers-requires-clause-token
mark_readers-requires-clause-token c =
    let en = c.in_ok-effect.ensures.ok c.args.net.now.present c.requires.tree in
    (en.adds.node, en.adds.enters.entered, sym (c.row-row.ensures en.adds.node en.adds.enters.entered).class ∙ c.in-Some.is)

pub mark_readers-requires-clause-under : goal.mark_readers-requires-clause-under
mark_readers-requires-clause-under c = (c.args.standing.now.present, c.requires.under)

pub mark_readers-requires-clause-covered : goal.mark_readers-requires-clause-covered
mark_readers-requires-clause-covered c =
    let en = c.in_ok-effect.ensures.ok c.args.net.now.present c.requires.tree in
    entered_covered c.args.standing.now.present c.args.beliefs.now.tree c.enter_effect.new.tree c.args.beliefs.now.decisions c.args.marks.now c.requires.events en.dates c.requires.covered

pub returns-in_ok-add_rows_after-in-None-clause-covered : goal.returns-in_ok-add_rows_after-in-None-clause-covered
returns-in_ok-add_rows_after-in-None-clause-covered c =
    let old = c.args.beliefs.now.decisions in
    let t = c.enter_effect.new.tree in
    let en = c.in_ok-effect.ensures.ok c.args.net.now.present c.requires.tree in
    let fits : FitsSigned w64 c.early-early.result = search rules in
    added_covered c.args.standing.now.present (present t) old c.add_rows_after.new.decisions c.args.marks.now (rules_on c.args.standing.now.present c.row-row.result.what) c.in_ok-effect.effect (to_z w64 (of_z w64 c.early-early.result))
    (to_z-of_z w64 c.early-early.result fits ∙ c.early-early.ensures.date) c.requires.under c.in_ok-add_rows_after-in-None.ensures.last.rules c.in_ok-add_rows_after-in-None.ensures.adds
    (entered_covered c.args.standing.now.present c.args.beliefs.now.tree t old c.args.marks.now c.requires.events en.dates c.requires.covered)

pub returns-in_ok-mark_readers-in-Some-clause-ok : goal.returns-in_ok-mark_readers-in-Some-clause-ok
returns-in_ok-mark_readers-in-Some-clause-ok c =
    let s = c.args.standing.now.present in
    let net = c.args.net.now.present in
    let old = c.args.beliefs.now.decisions in
    let new = c.mark_readers.new.decisions in
    let t = c.enter_effect.new.tree in
    let y = c.in_ok-effect.effect in
    let en = c.in_ok-effect.ensures.ok net c.requires.tree in
    let row = c.row-row.ensures en.adds.node en.adds.enters.entered in
    let marks : MarksReaders s net t (y ∷ []) y c.in-Some.class old new = c.in_ok-mark_readers-in-Some.ensures.ok in
    record {
      number = y;
      enters = en;
      follows = a_token c.in-Some.class (class_is_at t y en.adds.node en.adds.enters.entered ∙ sym row.class ∙ c.in-Some.is) marks;
      under = marks_under s old new marks.rows marks.rules c.in_ok-mark_readers-in-Some.ensures.last c.requires.under;
      listed = c.first.ensures.listed;
    }

pub returns-in_ok-add_rows_after-in-None-clause-ok : goal.returns-in_ok-add_rows_after-in-None-clause-ok
returns-in_ok-add_rows_after-in-None-clause-ok c =
    let s = c.args.standing.now.present in
    let net = c.args.net.now.present in
    let old = c.args.beliefs.now.decisions in
    let new = c.add_rows_after.new.decisions in
    let t = c.enter_effect.new.tree in
    let y = c.in_ok-effect.effect in
    let en = c.in_ok-effect.ensures.ok net c.requires.tree in
    let row = c.row-row.ensures en.adds.node en.adds.enters.entered in
    let none = sym row.class ∙ c.in-None.is in
    let fits : FitsSigned w64 c.early-early.result = search rules in
    let rules_are = ap (rules_on s) row.what ∙ sym (rules_on_kind s net (forest t) en.tree.seen y en.adds.node en.adds.enters.entered none) in
    record {
      number = y;
      enters = en;
      follows = an_event (class_is_at t y en.adds.node en.adds.enters.entered ∙ none)
          (subst (λ l. AddsRows l y (early (present t) y) old new) rules_are
          (subst (λ z. AddsRows (rules_on s c.row-row.result.what) y z old new) (to_z-of_z w64 c.early-early.result fits ∙ c.early-early.ensures.date) c.in_ok-add_rows_after-in-None.ensures.adds));
      under = c.in_ok-add_rows_after-in-None.ensures.under;
      listed = c.first.ensures.listed;
    }

pub returns-in_ok-mark_readers-in-Some-clause-number : goal.returns-in_ok-mark_readers-in-Some-clause-number
unfolding returns-in_ok-mark_readers-in-Some-clause-ok
returns-in_ok-mark_readers-in-Some-clause-number c = (returns-in_ok-mark_readers-in-Some-clause-ok c, refl)

pub returns-in_ok-add_rows_after-in-None-clause-number : goal.returns-in_ok-add_rows_after-in-None-clause-number
unfolding returns-in_ok-add_rows_after-in-None-clause-ok
returns-in_ok-add_rows_after-in-None-clause-number c = (returns-in_ok-add_rows_after-in-None-clause-ok c, refl)
