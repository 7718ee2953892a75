use Rattle.std.proofs.Common.{◌∙◌, sym, ap, subst}
use Rattle.std.specs.Prelude.{IsSome}
use Rattle.std.specs.List.{All}
use Rattle.tmm_model.specs.Beliefs.{supporters, against, is_free}
use Rattle.tmm_model.specs.Sorts.{class_in}
use Rattle.tmm_model.specs.Standing.{far_in}
use Rattle.belief_theory.proofs.Outcomes.{free_exactly}
use Rattle.spots.specs.Forest.{moment_at}
use Rattle.occ_tree.specs.Places.{forest}
use Rattle.spots.proofs.Rules.{rule_there, facts_known, exceptions_known}
use Rattle.projection.specs.Decisions.{tried_at}
use Rattle.projection.specs.Places.{name_at}
use Rattle.projection.specs.Verdicts.{verdict_of}
use Rattle.projection.proofs.Judged.{fires_by, unfired, fires_if_free}
use Rattle.projection.proofs.judging.is_free_with.Goals as goal

pub judge_facts-verdict-requires-clause-facts : goal.judge_facts-verdict-requires-clause-facts
judge_facts-verdict-requires-clause-facts c =
    let s = c.args.map.now.standing.now.present in
    let rule = name_at s c.args.place in
    let sound = c.requires.seen.seen.network.sound in
    subst (All (λ fact. IsSome (class_in s.premises fact))) (sym c.text_at-text.ensures.given)
    (facts_known s sound rule (rule_there s sound (moment_at (forest c.args.map.now.tree.now) c.args.trigger) rule c.requires.rule))

pub judge_facts-verdict-requires-clause-exceptions : goal.judge_facts-verdict-requires-clause-exceptions
judge_facts-verdict-requires-clause-exceptions c =
    let s = c.args.map.now.standing.now.present in
    let rule = name_at s c.args.place in
    let sound = c.requires.seen.seen.network.sound in
    subst (All (λ fact. IsSome (class_in s.premises fact))) (sym c.text_at-text.ensures.exceptions)
    (exceptions_known s sound rule (rule_there s sound (moment_at (forest c.args.map.now.tree.now) c.args.trigger) rule c.requires.rule))

pub returns-in-Fires : goal.returns-in-Fires
returns-in-Fires c b holds =
    let s = c.args.map.now.standing.now.present in
    let t = moment_at (forest c.args.map.now.tree.now) c.args.trigger in
    let rule = name_at s c.args.place in
    let is = c.in-Fires.ensures b holds ∙ (λ i. verdict_of (tried_at s b t (c.text_at-text.ensures.given i) (c.text_at-text.ensures.exceptions i))) in
    ap fires_by is
    ∙ fires_if_free (supporters s (far_in s.premises) b t rule) (against s (far_in s.premises) b t rule) (is_free s (far_in s.premises) b t rule) (free_exactly s (far_in s.premises) b t rule)

pub returns-in_default : goal.returns-in_default
returns-in_default c b holds =
    let s = c.args.map.now.standing.now.present in
    let t = moment_at (forest c.args.map.now.tree.now) c.args.trigger in
    let rule = name_at s c.args.place in
    let is = c.judge_facts-verdict.ensures b holds ∙ (λ i. verdict_of (tried_at s b t (c.text_at-text.ensures.given i) (c.text_at-text.ensures.exceptions i))) in
    sym (unfired c.judge_facts-verdict.result c.in_default.not-Fires)
    ∙ ap fires_by is
    ∙ fires_if_free (supporters s (far_in s.premises) b t rule) (against s (far_in s.premises) b t rule) (is_free s (far_in s.premises) b t rule) (free_exactly s (far_in s.premises) b t rule)
