use Rattle.std.proofs.Common.{◌∙◌, map, sym, ap, subst, arith}
use Rattle.std.specs.List.{All}
use Rattle.tmm_model.specs.Beliefs.{on_kind, rules_on}
use Rattle.timeline.specs.Kinds.{name_at, IsRuleAt}
use Rattle.timeline.proofs.AtPlaces.{placed, length-filter_map-le}
use Rattle.timeline.proofs.kinds.RulesByKind.at.Goals as goal

pub returns-in-None-clause-places : goal.returns-in-None-clause-places
returns-in-None-clause-places c = subst (All (IsRuleAt c.args.standing.now.present)) (sym c.of.ensures) (c.requires.rules.places c.args.row.now.what)

pub returns-in-None-clause-few : goal.returns-in-None-clause-few
returns-in-None-clause-few c =
    let s = c.args.standing.now.present in
    let kind = c.args.row.now.what in
    let is = placed s c.of.result.now (rules_on s kind) (ap (map (name_at s)) c.of.ensures ∙ c.requires.rules.named kind) in
    omega (arith, is, length-filter_map-le (on_kind kind) s.premises, c.invariants.ensures.few)
