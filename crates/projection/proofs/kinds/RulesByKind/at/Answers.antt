use Rattle.std.proofs.Common.{◌∙◌, map, sym, ap, subst, arith}
use Rattle.std.specs.List.{All}
use Rattle.tmm_model.specs.Beliefs.{on_kind, rules_on}
use Rattle.spots.proofs.Nodes.{node_at}
use Rattle.projection.specs.Places.{name_at, IsRuleAt}
use Rattle.projection.proofs.AtPlaces.{placed}
use Rattle.supports.proofs.OnKinds.{rules_of_event, no_rules}
use Rattle.projection.proofs.OnKinds.{length-filter_map-le}
use Rattle.occ_tree.specs.Places.{forest}
use Rattle.projection.proofs.kinds.RulesByKind.at.Goals as goal

pub returns-in-Event-clause-value : goal.returns-in-Event-clause-value
returns-in-Event-clause-value c =
    let s = c.args.standing.now.present in
    let (m, at) = node_at (forest c.args.tree.now) c.args.x c.requires.live in
    let row = c.row-row.ensures m at in
    ap (map (name_at s)) c.of.ensures ∙ c.requires.rules.named c.row-row.result.what ∙ ap (rules_on s) row.what
    ∙ sym (rules_of_event s c.requires.members.0 (forest c.args.tree.now) c.requires.members.1 c.args.x m at (sym row.shape ∙ c.in-Event.is))

pub returns-in-Event-clause-places : goal.returns-in-Event-clause-places
returns-in-Event-clause-places c = subst (All (IsRuleAt c.args.standing.now.present)) (sym c.of.ensures) (c.requires.rules.places c.row-row.result.what)

pub returns-in-Event-clause-few : goal.returns-in-Event-clause-few
returns-in-Event-clause-few c =
    let s = c.args.standing.now.present in
    let kind = c.row-row.result.what in
    let is = placed s c.of.result.now (rules_on s kind) (ap (map (name_at s)) c.of.ensures ∙ c.requires.rules.named kind) in
    omega (arith, is, length-filter_map-le (on_kind kind) s.premises, c.invariants.ensures.few)

pub returns-in_default : goal.returns-in_default
returns-in_default c =
    let s = c.args.standing.now.present in
    let f = forest c.args.tree.now in
    let (m, at) = node_at f c.args.x c.requires.live in
    let row = c.row-row.ensures m at in
    record {
      value = sym (no_rules s c.requires.members.0 f c.requires.members.1 c.args.x m at (λ event. c.in_default.not-Event (row.shape ∙ event)));
      places = λ i d lt. absurd (omega (arith, lt));
      few = omega arith;
    }
