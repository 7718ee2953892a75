use Rattle.std.proofs.Common.{◌∙◌, sym, subst}
use Rattle.std.specs.Prelude.{IsSome}
use Rattle.std.specs.List.{All}
use Rattle.tmm_model.specs.Sorts.{class_in}
use Rattle.tmm_model.specs.Standing.{far_in}
use Rattle.spots.specs.Forest.{moment_at}
use Rattle.occ_tree.specs.Places.{forest}
use Rattle.spots.proofs.Rules.{rule_there, facts_known, exceptions_known}
use Rattle.projection.specs.Decisions.{tried_at}
use Rattle.projection.proofs.Tried.{is_tried, is_beyond}
use Rattle.projection.proofs.decision.decide.Goals as goal

pub try_facts-requires-clause-facts : goal.try_facts-requires-clause-facts
try_facts-requires-clause-facts c =
    let s = c.args.standing.now.present in
    let t = moment_at (forest c.args.tree.now) c.args.trigger in
    subst (All (λ fact. IsSome (class_in s.premises fact))) (sym c.in-Some.ensures.given)
    (facts_known s c.requires.seen.seen.network.sound c.args.rule (rule_there s c.requires.seen.seen.network.sound t c.args.rule c.requires.rule))

pub try_facts-requires-clause-exceptions : goal.try_facts-requires-clause-exceptions
try_facts-requires-clause-exceptions c =
    let s = c.args.standing.now.present in
    let t = moment_at (forest c.args.tree.now) c.args.trigger in
    subst (All (λ fact. IsSome (class_in s.premises fact))) (sym c.in-Some.ensures.exceptions)
    (exceptions_known s c.requires.seen.seen.network.sound c.args.rule (rule_there s c.requires.seen.seen.network.sound t c.args.rule c.requires.rule))

pub returns-in-Some-clause-outcome : goal.returns-in-Some-clause-outcome
returns-in-Some-clause-outcome c b holds =
    let s = c.args.standing.now.present in
    let t = moment_at (forest c.args.tree.now) c.args.trigger in
    let text = c.in-Some.ensures in
    c.try_facts.ensures.outcome b holds
    ∙ (λ i. tried_at s b t (text.given i) (text.exceptions i))
    ∙ is_tried s (far_in s.premises) b t c.args.rule text.in_time

pub returns-in-None-clause-outcome : goal.returns-in-None-clause-outcome
returns-in-None-clause-outcome c b holds =
    let s = c.args.standing.now.present in
    is_beyond s (far_in s.premises) b (moment_at (forest c.args.tree.now) c.args.trigger) c.args.rule c.in-None.ensures
