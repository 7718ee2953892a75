use Rattle.std.proofs.Common.{ap, sym, subst, ◌∙◌, arith, IsSome}
use Rattle.undo_rows.specs.Tables.{Table, without_row}
use Rattle.undo_rows.proofs.rows.Rows.remove.Goals as goal

pub remove_reserved-requires : goal.remove_reserved-requires
remove_reserved-requires g c =
    (omega arith, (subst (λ (t : Table g.row.T.Denot g.row.F). IsSome (t.row c.args.x)) (sym c.reserve.ensures.stays.present) c.requires, omega (arith, c.in_ok-reserve.ensures.ok, c.changes_of-changes.ensures)))

pub returns-clause-ok : goal.returns-clause-ok
returns-clause-ok g c =
    let stays = c.reserve.ensures.stays in
    record {
      present_is = c.remove_reserved.ensures.removed.present_is ∙ ap (λ (t : Table g.row.T.Denot g.row.F). without_row t c.args.x) stays.present;
      committed_is = c.remove_reserved.ensures.removed.committed_is ∙ stays.committed;
    }
