use Rattle.std.proofs.Common.{◌∙◌, sym}
use Rattle.occ_tree.specs.Places.{forest}
use Rattle.spots.proofs.Nodes.{node_at}
use Rattle.belief_table.specs.Erasing.{class_at}
use Rattle.belief_table.proofs.Classes.{class_is_at}
use Rattle.belief_table.proofs.Parted.{notes_one, notes_no_token}
use Rattle.belief_table.proofs.erasing.note.Goals as goal

pub returns-in_ok-enter-in-Some : goal.returns-in_ok-enter-in-Some
returns-in_ok-enter-in-Some c =
    let t = c.args.tree.now in
    let (m, at) = node_at (forest t) c.args.y c.requires in
    notes_one t (class_at t) c.args.y c.in-Some.class c.args.classes.now c.enter.new.self (class_is_at t c.args.y m at ∙ sym (c.row.ensures m at).class ∙ c.in-Some.is)
    c.enter.ensures.more (c.in_ok-enter-in-Some.field-0, c.in_ok-enter-in-Some.ensures.entered) c.in_ok-enter-in-Some.ensures.only

pub returns-in-None : goal.returns-in-None
returns-in-None c =
    let t = c.args.tree.now in
    let (m, at) = node_at (forest t) c.args.y c.requires in
    notes_no_token t (class_at t) c.args.y c.args.classes.now (class_is_at t c.args.y m at ∙ sym (c.row.ensures m at).class ∙ c.in-None.is)
