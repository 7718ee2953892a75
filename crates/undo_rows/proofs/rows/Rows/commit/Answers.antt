use Rattle.std.proofs.Common.{◌≡◌, length, None, ◌≤◌, sym, ap, ◌∙◌, subst, slice_index_or}
use Rattle.undo_log.specs.Logs.{Log}
use Rattle.undo_rows.specs.declared.change.Change.{Change}
use Rattle.undo_rows.specs.RowsInside.{AreLogged}
use Rattle.undo_rows.proofs.Edits.{finished}
use Rattle.undo_rows.proofs.rows.Rows.commit.Goals as goal

pub invariant_of-self : goal.invariant_of-self
invariant_of-self g c =
    let now = c.loop-done.self-inside in
    let none = c.in_default.ensures.none in
    let items : c.pop_since.new.self.items ≡ now.log.items = ap (λ (l : Log (Change g.row.T.Denot)). l.items) none.1 in (
      finished c.args.self.now.rows now.stored.rows.slots c.args.self.now.families now.stored.links c.pop_since.new.self.items
          (ap length items ∙ none.0) c.loop-done.invariant.links c.loop-done.invariant.rows
          (subst (AreLogged (λ x. slice_index_or now.stored.rows.slots x None)) (sym items) c.loop-done.invariant.gone)
          c.loop-done.invariant.listed c.loop-done.invariant.few,
      λ x from. c.loop-done.invariant.below x (subst (λ n. n ≤ x) c.loop-done.invariant.places from),
    )
