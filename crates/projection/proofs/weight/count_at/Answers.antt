use Rattle.std.proofs.Common.{◌∙◌, length, sym, ap}
use Rattle.tmm_model.specs.Beliefs.{rules_on}
use Rattle.spots.proofs.Nodes.{node_at}
use Rattle.supports.proofs.OnKinds.{rules_of_event, no_rules}
use Rattle.occ_tree.specs.Places.{forest}
use Rattle.projection.proofs.weight.count_at.Goals as goal

pub returns-in-Event-clause-value : goal.returns-in-Event-clause-value
returns-in-Event-clause-value c =
    let s = c.args.standing.now.present in
    let f = forest c.args.tree.now in
    let (net, seen) = c.requires.seen in
    let (m, at) = node_at f c.args.x c.requires.live in
    let row = c.row-row.ensures m at in
    c.rules_on_kind.ensures.value ∙ ap (λ what. length (rules_on s what)) row.what ∙ ap length (sym (rules_of_event s net f seen c.args.x m at (sym row.shape ∙ c.in-Event.is)))

pub returns-in_default-clause-value : goal.returns-in_default-clause-value
returns-in_default-clause-value c =
    let s = c.args.standing.now.present in
    let f = forest c.args.tree.now in
    let (net, seen) = c.requires.seen in
    let (m, at) = node_at f c.args.x c.requires.live in
    let row = c.row-row.ensures m at in
    sym (ap length (no_rules s net f seen c.args.x m at (λ event. c.in_default.not-Event (row.shape ∙ event))))
