use Rattle.std.proofs.Common.{ap, sym, subst, ◌∙◌, arith, IsSome}
use Rattle.undo_rows.specs.Tables.{Table, with_value}
use Rattle.undo_rows.proofs.rows.Rows.set.Goals as goal

pub set_reserved-requires : goal.set_reserved-requires
set_reserved-requires g c =
    (omega arith, (subst (λ (t : Table g.row.T.Denot g.row.F). IsSome (t.row c.args.x)) (sym c.reserve.ensures.stays.present) c.requires, omega (arith, c.in_ok-reserve.ensures.ok)))

pub returns-clause-ok : goal.returns-clause-ok
returns-clause-ok g c =
    let stays = c.reserve.ensures.stays in
    record {
      present_is = c.set_reserved.ensures.set.present_is ∙ ap (λ (t : Table g.row.T.Denot g.row.F). with_value t c.args.x c.args.value) stays.present;
      committed_is = c.set_reserved.ensures.set.committed_is ∙ stays.committed;
    }
