use Rattle.std.proofs.Common.{◌∙◌, sym, ap}
use Rattle.tmm_model.specs.Beliefs.{rules_on}
use Rattle.spots.proofs.Nodes.{node_at}
use Rattle.supports.proofs.OnKinds.{rules_of_event, no_rules}
use Rattle.occ_tree.specs.Places.{forest}
use Rattle.just_check.proofs.rules.RulesByKind.at.Goals as goal

pub returns-in-Event : goal.returns-in-Event
returns-in-Event c =
    let s = c.args.standing.now.present in
    let (m, at) = node_at (forest c.args.tree.now) c.args.x c.requires.live in
    let row = c.row-row.ensures m at in
    c.of.ensures ∙ c.requires.rules c.row-row.result.what ∙ ap (rules_on s) row.what
    ∙ sym (rules_of_event s c.requires.seen.0 (forest c.args.tree.now) c.requires.seen.1 c.args.x m at (sym row.shape ∙ c.in-Event.is))

pub returns-in_default : goal.returns-in_default
returns-in_default c =
    let s = c.args.standing.now.present in
    let (m, at) = node_at (forest c.args.tree.now) c.args.x c.requires.live in
    let row = c.row-row.ensures m at in
    sym (no_rules s c.requires.seen.0 (forest c.args.tree.now) c.requires.seen.1 c.args.x m at (λ event. c.in_default.not-Event (row.shape ∙ event)))
