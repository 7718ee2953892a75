use Rattle.std.proofs.Common.{[], ◌∷◌, ◌++◌, subst, sym, ◌∙◌}
use Rattle.slab.specs.Slab.{get}
use Rattle.undo_rows.specs.declared.change.Change.{Change}
use Rattle.undo_rows.specs.RowsInside.{AreLogged}
use Rattle.undo_rows.proofs.Gone.{AreLogged-done, AreLogged-freed}
use Rattle.undo_rows.proofs.stored.Stored.finish.Goals as goal

pub returns-in-Entered-clause-gone : goal.returns-in-Entered-clause-gone
returns-in-Entered-clause-gone g c = λ log logged. AreLogged-done (get c.args.self.now.rows) log c.args.done.now (λ x same. let both = sym c.in-Entered.is ∙ same in cc) logged

pub returns-in-Linked-clause-gone : goal.returns-in-Linked-clause-gone
returns-in-Linked-clause-gone g c = λ log logged. AreLogged-done (get c.args.self.now.rows) log c.args.done.now (λ x same. let both = sym c.in-Linked.is ∙ same in cc) logged

pub returns-in-Unlinked-clause-gone : goal.returns-in-Unlinked-clause-gone
returns-in-Unlinked-clause-gone g c = λ log logged. AreLogged-done (get c.args.self.now.rows) log c.args.done.now (λ x same. let both = sym c.in-Unlinked.is ∙ same in cc) logged

pub returns-in-Replaced-clause-gone : goal.returns-in-Replaced-clause-gone
returns-in-Replaced-clause-gone g c = λ log logged. AreLogged-done (get c.args.self.now.rows) log c.args.done.now (λ x same. let both = sym c.in-Replaced.is ∙ same in cc) logged

pub returns-in-Removed-clause-gone : goal.returns-in-Removed-clause-gone
returns-in-Removed-clause-gone g c =
    λ log logged.
    AreLogged-freed (get c.args.self.now.rows) (get c.free.new.self.rows) log c.in-Removed.row c.free.ensures.own c.free.ensures.others
    (subst (λ (d : Change g.row.T.Denot). AreLogged (get c.args.self.now.rows) (log ++ d ∷ [])) c.in-Removed.is logged)
