use Rattle.std.proofs.Common.{◌∙◌, sym, ap, subst}
use Rattle.std.specs.Prelude.{IsSome}
use Rattle.std.specs.List.{All}
use Rattle.tmm_model.specs.Sorts.{class_in}
use Rattle.tmm_model.specs.Standing.{far_in}
use Rattle.spots.specs.Forest.{moment_at}
use Rattle.occ_tree.specs.Places.{forest}
use Rattle.spots.proofs.Rules.{rule_there, facts_known, exceptions_known}
use Rattle.projection.specs.Decisions.{tried_at}
use Rattle.projection.specs.Verdicts.{verdict_of}
use Rattle.projection.proofs.Tried.{is_tried, is_beyond}
use Rattle.projection.proofs.judging.judge.Goals as goal

pub judge_facts-requires-clause-facts : goal.judge_facts-requires-clause-facts
judge_facts-requires-clause-facts c =
    let s = c.args.standing.now.present in
    let t = moment_at (forest c.args.tree.now) c.args.trigger in
    subst (All (λ fact. IsSome (class_in s.premises fact))) (sym c.in-Some.ensures.given)
    (facts_known s c.requires.seen.seen.network.sound c.args.rule (rule_there s c.requires.seen.seen.network.sound t c.args.rule c.requires.rule))

pub judge_facts-requires-clause-exceptions : goal.judge_facts-requires-clause-exceptions
judge_facts-requires-clause-exceptions c =
    let s = c.args.standing.now.present in
    let t = moment_at (forest c.args.tree.now) c.args.trigger in
    subst (All (λ fact. IsSome (class_in s.premises fact))) (sym c.in-Some.ensures.exceptions)
    (exceptions_known s c.requires.seen.seen.network.sound c.args.rule (rule_there s c.requires.seen.seen.network.sound t c.args.rule c.requires.rule))

pub returns-in-Some-clause-verdict : goal.returns-in-Some-clause-verdict
returns-in-Some-clause-verdict c b holds =
    let s = c.args.standing.now.present in
    let t = moment_at (forest c.args.tree.now) c.args.trigger in
    let text = c.in-Some.ensures in
    c.judge_facts.ensures b holds
    ∙ ap verdict_of ((λ i. tried_at s b t (text.given i) (text.exceptions i)) ∙ is_tried s (far_in s.premises) b t c.args.rule text.in_time)

pub returns-in-None-clause-verdict : goal.returns-in-None-clause-verdict
returns-in-None-clause-verdict c b holds =
    let s = c.args.standing.now.present in
    ap verdict_of (is_beyond s (far_in s.premises) b (moment_at (forest c.args.tree.now) c.args.trigger) c.args.rule c.in-None.ensures)
