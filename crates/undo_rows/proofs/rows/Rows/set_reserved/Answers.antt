use Rattle.std.proofs.Common.{slice_set, ◌≡◌, refl, sym, ap, ◌∙◌, subst, Some, ◌++◌, [], ◌∷◌}
use Rattle.undo_rows.specs.declared.row.Row.{Row}
use Rattle.undo_rows.specs.Tables.{Table, AreListed, live_table}
use Rattle.undo_rows.specs.Changes.{table_in}
use Rattle.undo_rows.specs.declared.change.Change.TheVariants.{Replaced}
use Rattle.undo_rows.proofs.Gone.{AreLogged-written}
use Rattle.undo_rows.proofs.Written.{steps, table_replaced, replaced_back, present_replaced, listed_replaced}
use Rattle.undo_rows.proofs.Places.{HoldsBelow-set}
use Rattle.undo_rows.proofs.rows.Rows.set_reserved.Goals as goal

pub invariant_of-self : goal.invariant_of-self
invariant_of-self g c =
    let slots = c.self.inside.stored.rows.slots in
    let links = c.self.inside.stored.links in
    let r = c.index_mut-row.result.now in
    let log : c.push.new.self.items ≡ c.self.inside.log.items ++ Replaced c.args.x r.value ∷ [] = c.push.ensures.items in
    let new = slice_set slots c.args.x (Some (record r { value = c.args.value })) in
    let s = steps links c.self.inside.log.items c.push.new.self.items (Replaced c.args.x r.value) (table_in slots links) (table_in new links) log c.self.invariant.0.undoes tt
    (replaced_back slots new links c.args.x r c.args.value c.index_mut-row.ensures.value refl) in (
      record {
        now_listed = listed_replaced slots new links c.args.x r c.args.value c.index_mut-row.ensures.value refl c.self.invariant.0.now_listed;
        then_listed = subst AreListed (sym s.leads) c.self.invariant.0.then_listed;
        undoes = s.undoes;
        few = c.self.invariant.0.few;
        gone = AreLogged-written (table_in slots links).row (table_in new links).row c.self.inside.log.items c.push.new.self.items (Replaced c.args.x r.value ∷ []) c.args.x (Some (record r { value = c.args.value }))
            (ap (λ (t : Table g.row.T.Denot g.row.F). t.row) (table_replaced slots new links c.args.x r c.args.value c.index_mut-row.ensures.value refl)) log
            (λ q is gone. let e : record r { value = c.args.value } ≡ q = cc in (r, c.index_mut-row.ensures.value, ap (λ (z : Row g.row.T.Denot g.row.F). z.gone) e ∙ gone))
            c.self.invariant.0.gone;
      },
      HoldsBelow-set slots c.self.inside.places c.args.x r (Some (record r { value = c.args.value })) c.index_mut-row.ensures.value c.self.invariant.1,
    )

pub returns-clause-set : goal.returns-clause-set
returns-clause-set g c =
    let slots = c.self.inside.stored.rows.slots in
    let links = c.self.inside.stored.links in
    let r = c.index_mut-row.result.now in
    let log : c.push.new.self.items ≡ c.self.inside.log.items ++ Replaced c.args.x r.value ∷ [] = c.push.ensures.items in
    let new = slice_set slots c.args.x (Some (record r { value = c.args.value })) in
    let s = steps links c.self.inside.log.items c.push.new.self.items (Replaced c.args.x r.value) (table_in slots links) (table_in new links) log c.self.invariant.0.undoes tt
    (replaced_back slots new links c.args.x r c.args.value c.index_mut-row.ensures.value refl) in
    rw (← c.self.view_is) (record {
      present_is = present_replaced slots new links c.args.x r c.args.value c.index_mut-row.ensures.value refl;
      committed_is = ap live_table s.leads;
    })
