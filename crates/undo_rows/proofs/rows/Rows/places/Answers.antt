use Rattle.std.proofs.Common.{Option, IsSome, inl, inr, subst, sym}
use Rattle.std.proofs.lemmas.Bool.{cases_lt, false≢true}
use Rattle.undo_rows.specs.declared.row.Row.{Row}
use Rattle.undo_rows.specs.Changes.{Logged, committed}
use Rattle.undo_rows.proofs.Edits.{was_free}
use Rattle.undo_rows.proofs.rows.Rows.places.Goals as goal

pub returns-clause-then_ : goal.returns-clause-then_
returns-clause-then_ g c = λ x there.
    let slots = c.self.inside.stored.rows.slots in
    let live_then = subst (λ (l : Logged g.row.T.Denot g.row.F). IsSome ((committed l).row x)) (sym c.self.view_is) there in
    elim (cases_lt x c.self.inside.places) [
      | inl less ↦ less
      | inr from ↦
          let none = was_free slots c.self.inside.stored.links c.self.inside.log.items x (c.self.invariant.1 x from) in
          absurd (false≢true (subst (λ (o : Option (Row g.row.T.Denot g.row.F)). IsSome o) none live_then))
    ]
