use Rattle.std.proofs.Common.{◌≡◌, ◌+◌, ◌≤◌, IsSome, Option, Some, None, false, slice_index_or, arith, sym, subst}
use Rattle.undo_rows.specs.declared.row.Row.{Row}
use Rattle.undo_rows.specs.Tables.{live}
use Rattle.undo_rows.specs.Changes.{Logged, present, table_in}
use Rattle.undo_rows.proofs.Places.{HoldsBelow-set}
use Rattle.undo_rows.proofs.Edits.{not_gone, on_lists, removes}
use Rattle.undo_rows.proofs.rows.Rows.remove_reserved.Goals as goal

pub unlink_all-requires : goal.unlink_all-requires
unlink_all-requires g c =
    let slots = c.self.inside.stored.rows.slots in
    let links = c.self.inside.stored.links in
    let x = c.args.x in
    let r = c.index.result.now in
    let there : slice_index_or slots x None ≡ Some r = c.index.ensures in
    let present_before : IsSome (live (slice_index_or slots x None)) = subst (λ (l : Logged g.row.T.Denot g.row.F). IsSome ((present l).row x)) (sym c.self.view_is) c.requires.live in
    let stays : r.gone ≡ false = not_gone r (subst (λ (o : Option (Row g.row.T.Denot g.row.F)). IsSome (live o)) there present_before) in
    (omega arith, (on_lists (table_in slots links) x r c.self.invariant.0.now_listed there stays, let spare : g.row.F + 1 ≤ c.self.inside.log.spare = subst (λ (l : Logged g.row.T.Denot g.row.F). g.row.F + 1 ≤ l.spare) (sym c.self.view_is) c.requires.spare in omega (arith, spare)))

pub invariant_of-self : goal.invariant_of-self
invariant_of-self g c =
    let inside = c.self.inside in
    let is_live = subst (λ (l : Logged g.row.T.Denot g.row.F). IsSome ((present l).row c.args.x)) (sym c.self.view_is) c.requires.live in
    let e = c.unlink_all.ensures in
    let s = removes inside.stored.rows.slots inside.stored.links c.unlink_all.new.links c.args.x c.index.result.now c.index_mut.result.now inside.log.items c.unlink_all.new.log.items c.push.new.self.items
    c.index.ensures c.index_mut.ensures.value is_live e.lists e.back c.push.ensures.items c.self.invariant.0 in
    (s.rows, HoldsBelow-set inside.stored.rows.slots inside.places c.args.x c.index_mut.result.now _ c.index_mut.ensures.value c.self.invariant.1)

pub returns-clause-removed : goal.returns-clause-removed
returns-clause-removed g c =
    let inside = c.self.inside in
    let is_live = subst (λ (l : Logged g.row.T.Denot g.row.F). IsSome ((present l).row c.args.x)) (sym c.self.view_is) c.requires.live in
    let e = c.unlink_all.ensures in
    let s = removes inside.stored.rows.slots inside.stored.links c.unlink_all.new.links c.args.x c.index.result.now c.index_mut.result.now inside.log.items c.unlink_all.new.log.items c.push.new.self.items
    c.index.ensures c.index_mut.ensures.value is_live e.lists e.back c.push.ensures.items c.self.invariant.0 in
    rw (← c.self.view_is) (record { present_is = s.present_is; committed_is = s.committed_is })
