use Rattle.std.proofs.Common.{inl, inr, rules, ◌<◌, ◌≤◌, ◌≡◌, refl, sym, ap, ◌∙◌, subst, arith}
use Rattle.undo_rows.specs.declared.row.Row.{Row}
use Rattle.undo_rows.specs.Tables.{live}
use Rattle.std.proofs.lemmas.Result.{err_from_is_err_and}
use Rattle.slab.specs.Slab.{Slab}
use Rattle.undo_rows.specs.Tables.{new_row}
use Rattle.undo_rows.specs.Places.{AreBelow}
use Rattle.undo_rows.proofs.Places.{HoldsBelow-more, all_held}
use Rattle.undo_rows.proofs.Edits.{put_under, adds, grown_rows, grown_stays, was_free}
use Rattle.undo_rows.proofs.rows.Rows.add.Goals as goal

pub invariant_of-self-in_err-reserve_rows : goal.invariant_of-self-in_err-reserve_rows
invariant_of-self-in_err-reserve_rows g c =
    let slots = c.self.inside.stored.rows.slots in
    let links = c.self.inside.stored.links in
    let log = c.self.inside.log.items in
    let alike : c.reserve.new.self.slots ≡ slots = ap (λ (s : Slab (Row g.row.T.Denot g.row.F)). s.slots) c.reserve.ensures.rest_kept in
    (grown_rows slots c.reserve.new.self.slots links c.reserve_rows.new.self log log alike refl c.reserve_rows.ensures.kept c.self.invariant.0, subst (λ l. AreBelow l c.self.inside.places) (sym alike) c.self.invariant.1)

pub returns-in_err-reserve_rows-clause-err : goal.returns-in_err-reserve_rows-clause-err
returns-in_err-reserve_rows-clause-err g c =
    let slots = c.self.inside.stored.rows.slots in
    let links = c.self.inside.stored.links in
    let log = c.self.inside.log.items in
    let alike : c.reserve.new.self.slots ≡ slots = ap (λ (s : Slab (Row g.row.T.Denot g.row.F)). s.slots) c.reserve.ensures.rest_kept in
    let p = err_from_is_err_and c.from_residual-in_err-reserve_rows.result c.from_residual-in_err-reserve_rows.ensures.1 in
    rw (p.1, ← c.self.view_is) (grown_stays slots c.reserve.new.self.slots links c.reserve_rows.new.self log log _ _ _ alike refl c.reserve_rows.ensures.kept)

pub invariant_of-self-in_err-reserve-2 : goal.invariant_of-self-in_err-reserve-2
invariant_of-self-in_err-reserve-2 g c =
    let slots = c.self.inside.stored.rows.slots in
    let links = c.self.inside.stored.links in
    let log = c.self.inside.log.items in
    let alike : c.reserve.new.self.slots ≡ slots = ap (λ (s : Slab (Row g.row.T.Denot g.row.F)). s.slots) c.reserve.ensures.rest_kept in
    (grown_rows slots c.reserve.new.self.slots links c.reserve_rows.new.self log c.reserve-2.new.self.items alike c.reserve-2.ensures.items c.reserve_rows.ensures.kept c.self.invariant.0, subst (λ l. AreBelow l c.self.inside.places) (sym alike) c.self.invariant.1)

pub returns-in_err-reserve-2-clause-err : goal.returns-in_err-reserve-2-clause-err
returns-in_err-reserve-2-clause-err g c =
    let slots = c.self.inside.stored.rows.slots in
    let links = c.self.inside.stored.links in
    let log = c.self.inside.log.items in
    let alike : c.reserve.new.self.slots ≡ slots = ap (λ (s : Slab (Row g.row.T.Denot g.row.F)). s.slots) c.reserve.ensures.rest_kept in
    let p = err_from_is_err_and c.from_residual-in_err-reserve-2.result c.from_residual-in_err-reserve-2.ensures.1 in
    rw (p.1, ← c.self.view_is) (grown_stays slots c.reserve.new.self.slots links c.reserve_rows.new.self log c.reserve-2.new.self.items _ _ _ alike c.reserve-2.ensures.items c.reserve_rows.ensures.kept)

pub invariant_of-self-2 : goal.invariant_of-self-2
invariant_of-self-2 g c =
    let slots = c.self.inside.stored.rows.slots in
    let links = c.self.inside.stored.links in
    let log = c.self.inside.log.items in
    let x = c.in_ok-x.x in
    let insert = c.insert_reserved.ensures in
    let alike : c.reserve.new.self.slots ≡ slots = ap (λ (s : Slab (Row g.row.T.Denot g.row.F)). s.slots) c.reserve.ensures.rest_kept in
    let key : c.insert_reserved.result ≡ x = insert.key ∙ ap (λ (s : Slab (Row g.row.T.Denot g.row.F)). s.vacant_key) c.reserve.ensures.rest_kept ∙ sym c.vacant_key.ensures.value ∙ sym c.in_ok-x.ensures.number in
    let put = put_under slots c.reserve.new.self.slots c.insert_reserved.new.self.slots x c.insert_reserved.result (new_row c.args.heads c.args.value) alike key insert.was_vacant insert.updates.changed insert.updates.others in
    let s = adds slots c.insert_reserved.new.self.slots links c.reserve_rows.new.self c.link_all.new.links x (new_row c.args.heads c.args.value) log c.reserve-2.new.self.items c.push.new.self.items c.link_all.new.log.items
    put refl c.reserve-2.ensures.items c.reserve_rows.ensures.kept c.link_all.ensures.lists c.push.ensures.items c.link_all.ensures.back c.self.invariant.0 in
    let most = c.max-self-inside.result in
    let more : c.self.inside.places ≤ most = search rules in
    let within : x < most = search rules in
    (s.rows, HoldsBelow-more slots c.insert_reserved.new.self.slots c.self.inside.places most x more within put.others c.self.invariant.1)

pub returns-clause-ok : goal.returns-clause-ok
returns-clause-ok g c =
    let slots = c.self.inside.stored.rows.slots in
    let links = c.self.inside.stored.links in
    let log = c.self.inside.log.items in
    let x = c.in_ok-x.x in
    let insert = c.insert_reserved.ensures in
    let alike : c.reserve.new.self.slots ≡ slots = ap (λ (s : Slab (Row g.row.T.Denot g.row.F)). s.slots) c.reserve.ensures.rest_kept in
    let key : c.insert_reserved.result ≡ x = insert.key ∙ ap (λ (s : Slab (Row g.row.T.Denot g.row.F)). s.vacant_key) c.reserve.ensures.rest_kept ∙ sym c.vacant_key.ensures.value ∙ sym c.in_ok-x.ensures.number in
    let put = put_under slots c.reserve.new.self.slots c.insert_reserved.new.self.slots x c.insert_reserved.result (new_row c.args.heads c.args.value) alike key insert.was_vacant insert.updates.changed insert.updates.others in
    let s = adds slots c.insert_reserved.new.self.slots links c.reserve_rows.new.self c.link_all.new.links x (new_row c.args.heads c.args.value) log c.reserve-2.new.self.items c.push.new.self.items c.link_all.new.log.items
    put refl c.reserve-2.ensures.items c.reserve_rows.ensures.kept c.link_all.ensures.lists c.push.ensures.items c.link_all.ensures.back c.self.invariant.0 in
    rw (← c.self.view_is) (record {
      free = ap live put.free;
      was_free = was_free slots links log x put.free;
      present_is = s.present_is;
      committed_is = s.committed_is;
    })

pub returns-clause-grows : goal.returns-clause-grows
returns-clause-grows g c =
    let slots = c.self.inside.stored.rows.slots in
    let places = c.self.inside.places in
    let most = c.max-self-inside.ensures in
    rw (← c.self.view_is) (elim c.in_ok-x.ensures.next [
      | inl within ↦ inl (omega (arith, most, within))
      | inr next ↦ inr (omega (arith, most, next.0), all_held slots places (next.1 ∙ c.len.ensures) c.self.invariant.1)
    ])
