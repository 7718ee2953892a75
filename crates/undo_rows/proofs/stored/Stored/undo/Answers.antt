use Rattle.std.proofs.Common.{◌≡◌, sym, ap, ◌∙◌, subst, Some, None}
use Rattle.row_links.specs.Lists.{without, last_or, put_after}
use Rattle.row_links.specs.Families.{list_in}
use Rattle.row_links.proofs.Lists.{last-IsOn}
use Rattle.undo_rows.specs.declared.change.Change.{Change}
use Rattle.undo_rows.specs.Changes.{before, table_in}
use Rattle.undo_rows.specs.RowsInside.{CanUndo, IsOpen}
use Rattle.undo_rows.proofs.Undoing.{is_head_on, undone_list}
use Rattle.undo_rows.proofs.stored.Stored.undo.Goals as goal

pub returns-in-Linked-clause-before : goal.returns-in-Linked-clause-before
returns-in-Linked-clause-before g c =
    let old = c.args.self.now.links in
    let f = c.in-Linked.family in
    let h = c.in-Linked.head in
    let x = c.in-Linked.row in
    let slots = c.args.self.now.rows.slots in
    let can : last_or None (list_in old f h) ≡ Some x = subst (λ (d : Change g.row.T.Denot). CanUndo old d (table_in slots old)) c.in-Linked.is c.requires in
    let within = is_head_on old f h x (last-IsOn (list_in old f h) x can) in
    undone_list old c.undo_link.new.self f h (without x (list_in old f h)) slots within c.undo_link.ensures
    ∙ ap (λ (d : Change g.row.T.Denot). before d (table_in slots old)) (sym c.in-Linked.is)

pub returns-in-Unlinked-clause-before : goal.returns-in-Unlinked-clause-before
returns-in-Unlinked-clause-before g c =
    let old = c.args.self.now.links in
    let f = c.in-Unlinked.family in
    let gap = c.in-Unlinked.gap in
    let x = c.in-Unlinked.row in
    let slots = c.args.self.now.rows.slots in
    let can : IsOpen old (table_in slots old) f gap x = subst (λ (d : Change g.row.T.Denot). CanUndo old d (table_in slots old)) c.in-Unlinked.is c.requires in
    undone_list old c.relink.new.self f gap.head (put_after gap.before x (list_in old f gap.head)) slots can.head c.relink.ensures
    ∙ ap (λ (d : Change g.row.T.Denot). before d (table_in slots old)) (sym c.in-Unlinked.is)
