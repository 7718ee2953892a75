use Rattle.std.proofs.Common.{◌≡◌, ◌∙◌, [], sym, ap, subst, rules, w64}
use Rattle.std.specs.Prelude.{FitsSigned, pos}
use Rattle.std.specs.Option.{option_map_or}
use Rattle.std.proofs.lemmas.Int.{to_z-of_z}
use Rattle.tmm_model.specs.Beliefs.{rules_on}
use Rattle.list_theory.proofs.Distinct.{Distinct}
use Rattle.spots.specs.Forest.{Member}
use Rattle.spots.proofs.Nodes.{node_at}
use Rattle.undo_rows.specs.Changes.{Logged, present as table}
use Rattle.decision_rows.specs.declared.row.Pair.{Pair}
use Rattle.occ_tree.specs.Places.{forest}
use Rattle.occ_tree.specs.Standing.{present, early}
use Rattle.belief_net.specs.Adding.{a_token, an_event}
use Rattle.belief_table.specs.declared.state.Decisions.{Decisions}
use Rattle.belief_table.specs.Decided.{AddsRows}
use Rattle.marking.specs.TokenMarks.{MarksRivals, what_at}
use Rattle.belief_table.specs.Marks.{HaveEvents}
use Rattle.belief_turns.proofs.Brought.{once_on_kind, rules_on_kind}
use Rattle.belief_table.proofs.Classes.{class_is_at}
use Rattle.marking.proofs.MarkedUnder.{marks_under}
use Rattle.belief_table.proofs.Named.{last_on}
use Rattle.marking.proofs.Contradicting.{waiting_last, token_marked}
use Rattle.belief_net.proofs.rooting.follow_root.Goals as goal

pub add_rows-requires-clause-once : goal.add_rows-requires-clause-once
add_rows-requires-clause-once c =
    let s = c.args.standing.now.present in
    let (net, fit) = c.requires.fit in
    let f = forest c.args.tree.now in
    let (m, at) = node_at f c.args.x c.requires.node in
    let row = c.row-row.ensures m at in
    subst (λ w. Distinct (rules_on s w)) (sym row.what) (once_on_kind s net f fit.tree.seen c.args.x m at (sym row.class ∙ c.in-None.is))

pub mark_rivals-requires-clause-events : goal.mark_rivals-requires-clause-events
mark_rivals-requires-clause-events c =
    let (net, fit) = c.requires.fit in
    subst (λ (rs : Logged Pair 8). HaveEvents c.args.tree.now (table rs)) (sym c.in_ok-mark_token-in-Some.ensures.ok.rows) fit.events

pub mark_rivals-requires-clause-under : goal.mark_rivals-requires-clause-under
mark_rivals-requires-clause-under c =
    let (net, fit) = c.requires.fit in
    let own = c.in_ok-mark_token-in-Some.ensures in
    (c.args.standing.now.present, marks_under c.args.standing.now.present c.args.decisions.now c.mark_token.new.decisions own.ok.rows own.ok.rules own.last fit.under)

pub returns-in_ok-mark_rivals-in-Some-clause-follows : goal.returns-in_ok-mark_rivals-in-Some-clause-follows
returns-in_ok-mark_rivals-in-Some-clause-follows c =
    let list = c.args.standing.now.present in
    let tree = c.args.tree.now in
    let (m, at) = node_at (forest tree) c.args.x c.requires.node in
    let row = c.row-row.ensures m at in
    let what : c.row-row.result.what ≡ what_at tree c.args.x = row.what ∙ sym (ap (λ o. option_map_or (λ (k : Member). k.what) o []) at) in
    a_token c.in-Some.class (class_is_at tree c.args.x m at ∙ sym row.class ∙ c.in-Some.is)
    (token_marked list (present tree) c.in-Some.class (what_at tree c.args.x) (pos 0) c.args.decisions.now c.mark_token.new.decisions c.mark_rivals.new.decisions c.in_ok-mark_token-in-Some.ensures.ok
    (subst (λ w. MarksRivals list (present tree) w (pos 0) c.mark_token.new.decisions c.mark_rivals.new.decisions) what c.in_ok-mark_rivals-in-Some.ensures.ok))

pub returns-in_ok-mark_rivals-in-Some-clause-under : goal.returns-in_ok-mark_rivals-in-Some-clause-under
returns-in_ok-mark_rivals-in-Some-clause-under c =
    let (net, fit) = c.requires.fit in
    let list = c.args.standing.now.present in
    let own = c.in_ok-mark_token-in-Some.ensures in
    let mid = c.mark_token.new.decisions in
    let new = c.mark_rivals.new.decisions in
    let others = c.mark_rivals.ensures.others in
    marks_under list mid new (ap (λ (d : Decisions). d.rows) others) (ap (λ (d : Decisions). d.rules) others) (waiting_last mid new others)
    (marks_under list c.args.decisions.now mid own.ok.rows own.ok.rules own.last fit.under)

pub returns-in_ok-mark_rivals-in-Some-clause-last : goal.returns-in_ok-mark_rivals-in-Some-clause-last
returns-in_ok-mark_rivals-in-Some-clause-last c =
    last_on c.args.decisions.now c.mark_token.new.decisions c.mark_rivals.new.decisions c.in_ok-mark_token-in-Some.ensures.last
    (waiting_last c.mark_token.new.decisions c.mark_rivals.new.decisions c.mark_rivals.ensures.others)

pub returns-in_ok-add_rows-in-None-clause-follows : goal.returns-in_ok-add_rows-in-None-clause-follows
returns-in_ok-add_rows-in-None-clause-follows c =
    let s = c.args.standing.now.present in
    let t = c.args.tree.now in
    let y = c.args.x in
    let old = c.args.decisions.now in
    let new = c.add_rows.new.decisions in
    let (net, fit) = c.requires.fit in
    let (m, at) = node_at (forest t) y c.requires.node in
    let row = c.row-row.ensures m at in
    let none = sym row.class ∙ c.in-None.is in
    let fits : FitsSigned w64 c.early.result = search rules in
    let rules_are = ap (rules_on s) row.what ∙ sym (rules_on_kind s net (forest t) fit.tree.seen y m at none) in
    an_event (class_is_at t y m at ∙ none)
    (subst (λ l. AddsRows l y (early (present t) y) old new) rules_are
    (subst (λ z. AddsRows (rules_on s c.row-row.result.what) y z old new) (to_z-of_z w64 c.early.result fits ∙ c.early.ensures.date) c.in_ok-add_rows-in-None.ensures.adds))
