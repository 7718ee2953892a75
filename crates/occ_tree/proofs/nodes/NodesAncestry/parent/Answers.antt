use Rattle.std.proofs.Common.{◌∙◌, ap}
use Rattle.std.specs.Option.{unwrap_or}
use Rattle.occ_tree.specs.Standing.{nodes_in, present_rows}
use Rattle.occ_tree.proofs.Effects.{way_up}
use Rattle.occ_tree.proofs.nodes.NodesAncestry.parent.Goals as goal

pub returns : goal.returns
returns c =
    way_up (nodes_in (present_rows c.args.self.now)) c.get.ensures.stands.placed c.args.x c.get.result.now c.unwrap_or.result c.get.ensures.node c.requires
    (c.unwrap_or.ensures ∙ ap (λ o. unwrap_or o c.args.x) c.parent.ensures)
