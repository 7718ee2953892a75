use Rattle.std.proofs.Common.{◌≡◌, ◌∙◌, length, sym}
use Rattle.std.proofs.lemmas.Bool.{eqb-true}
use Rattle.std.proofs.lemmas.List.{nil_from_length}
use Rattle.spots.proofs.Nodes.{node_at}
use Rattle.occ_tree.specs.Standing.{present, forest}
use Rattle.belief_trials.proofs.trees.is_root.Goals as goal

pub returns-then-is_live : goal.returns-then-is_live
returns-then-is_live c e =
    let (m, here) = node_at (forest (present c.args.tree.now)) c.args.x (c.is_live.ensures.0 c.if-is_live.true) in
    (m, here, nil_from_length m.links (sym (c.row.ensures m here).rules ∙ eqb-true c.row.result.rules 0 e))
