use Rattle.std.proofs.Common.{◌∙◌, ap, subst}
use Rattle.occ_tree.specs.Places.{forest}
use Rattle.spots.proofs.Nodes.{node_at, live_at}
use Rattle.belief_list.specs.Heads.{front, AreBytes}
use Rattle.belief_list.proofs.Heads.{head_text_is}
use Rattle.belief_list.proofs.told_changes.headed_of.Goals as goal

pub row-root-requires : goal.row-root-requires
row-root-requires c =
    let f = forest c.args.tree.now in
    let (m, here) = node_at f c.args.difference.now.node c.requires.live in
    let (n, there, same, none) = (c.row-row.ensures m here).root in
    live_at f c.row-row.result.root n there

pub returns-clause-head : goal.returns-clause-head
returns-clause-head c = λ m here. c.head_of.ensures.value ∙ ap (front 8) (head_text_is (forest c.args.tree.now) m c.row-row.result c.row-root.result (c.row-row.ensures m here) c.row-root.ensures)

pub returns-clause-bytes : goal.returns-clause-bytes
returns-clause-bytes c = λ m here. subst (AreBytes 8) (head_text_is (forest c.args.tree.now) m c.row-row.result c.row-root.result (c.row-row.ensures m here) c.row-root.ensures) c.head_of.ensures.bytes
