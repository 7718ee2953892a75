use Rattle.std.proofs.Common.{rules, w64}
use Rattle.std.specs.Prelude.{FitsSigned}
use Rattle.tmm_model.specs.Beliefs.{due}
use Rattle.tmm_model.specs.Standing.{far_in}
use Rattle.spots.specs.Forest.{moment_at}
use Rattle.occ_tree.specs.Places.{forest}
use Rattle.spots.proofs.Rules.{rule_there}
use Rattle.projection.proofs.Dates.{told_in_time, untold_late, early_seen, delay_seen, due_is}
use Rattle.projection.proofs.rule.text_in_time.Goals as goal

pub rule_text-text-requires : goal.rule_text-text-requires
rule_text-text-requires c =
    rule_there c.args.map.now.standing.now.present c.requires.seen.seen.network.sound (moment_at (forest c.args.map.now.tree.now) c.args.trigger) c.args.rule c.requires.rule

pub due_by-requires-clause-early : goal.due_by-requires-clause-early
due_by-requires-clause-early c =
    let fits : FitsSigned w64 c.early-early.result = search rules in
    early_seen c.args.map.now.standing.now.present c.args.map.now.net.now.present (forest c.args.map.now.tree.now) c.requires.seen.seen c.args.trigger c.requires.trigger c.early-early.result fits c.early-early.ensures

pub due_by-requires-clause-delay : goal.due_by-requires-clause-delay
due_by-requires-clause-delay c =
    let fits : FitsSigned w64 c.early-early.result = search rules in
    let fits_lo : FitsSigned w64 c.rule_text-text.result.lo = search rules in
    delay_seen c.args.map.now.standing.now.present c.args.map.now.net.now.present (forest c.args.map.now.tree.now) c.requires.seen.seen c.args.trigger c.requires.trigger c.early-early.result fits c.early-early.ensures
    c.args.rule c.rule_text-text.result.lo fits_lo c.rule_text-text.ensures.lo c.requires.rule

pub returns-in-Some : goal.returns-in-Some
returns-in-Some c =
    let s = c.args.map.now.standing.now.present in
    let fits : FitsSigned w64 c.early-early.result = search rules in
    let fits_lo : FitsSigned w64 c.rule_text-text.result.lo = search rules in
    record {
      in_time = told_in_time s.horizon (due s (far_in s.premises) (moment_at (forest c.args.map.now.tree.now) c.args.trigger) c.args.rule) c.due_by.result
          (due_is s c.args.map.now.net.now.present (forest c.args.map.now.tree.now) c.requires.seen.seen c.args.trigger c.requires.trigger c.early-early.result fits c.early-early.ensures
          c.args.rule c.rule_text-text.result.lo fits_lo c.rule_text-text.ensures.lo c.horizon.result c.horizon.ensures c.due_by.result c.due_by.ensures) (search rules);
      given = c.rule_text-text.ensures.given;
      exceptions = c.rule_text-text.ensures.exceptions;
      few = c.rule_text-text.ensures.few;
    }

pub returns-in-None : goal.returns-in-None
returns-in-None c =
    let s = c.args.map.now.standing.now.present in
    let fits : FitsSigned w64 c.early-early.result = search rules in
    let fits_lo : FitsSigned w64 c.rule_text-text.result.lo = search rules in
    untold_late s.horizon (due s (far_in s.premises) (moment_at (forest c.args.map.now.tree.now) c.args.trigger) c.args.rule) c.due_by.result
    (due_is s c.args.map.now.net.now.present (forest c.args.map.now.tree.now) c.requires.seen.seen c.args.trigger c.requires.trigger c.early-early.result fits c.early-early.ensures
    c.args.rule c.rule_text-text.result.lo fits_lo c.rule_text-text.ensures.lo c.horizon.result c.horizon.ensures c.due_by.result c.due_by.ensures) (search rules)
