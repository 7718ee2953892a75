use Rattle.std.proofs.Common.{◌≡◌, ◌∙◌, inl, inr, ℕ, ◌<◌, List, [], ◌∷◌, ◌++◌, length, nat_eq, cond, sym, ap, append-nil}
use Rattle.std.specs.Prelude.{slice_set}
use Rattle.std.specs.Global.{Vec}
use Rattle.std.proofs.lemmas.Bool.Decides.{eqb_tells}
use Rattle.timeline.specs.declared.row.Row.{Row}
use Rattle.timeline.specs.Calendars.{rows_on}
use Rattle.timeline.proofs.Calendars.{rows_on-set_same, rows_on-set_other, rows_on-index}
use Rattle.timeline.proofs.calendar.put.Goals as goal

put_on : (days : List (Vec Row)) (j : ℕ) (old new : Vec Row) (row : Row) → j < length days → old.items ≡ rows_on days j → new.items ≡ old.items ++ row ∷ []
    → (i : ℕ) → rows_on (slice_set days j new) i ≡ rows_on days i ++ cond (nat_eq i j) (row ∷ []) []
put_on days j old new row below was is i = elim (eqb_tells i j) [
  | inl same ↦ (
      ap (λ k. rows_on (slice_set days j new) k) same.1 ∙ rows_on-set_same days j new below ∙ is ∙ ap (λ l. l ++ row ∷ []) (was ∙ ap (rows_on days) (sym same.1))
      ∙ ap (λ b. rows_on days i ++ cond b (row ∷ []) []) (sym same.0))
  | inr other ↦ (
      rows_on-set_other days i j new other.1 ∙ sym (append-nil (rows_on days i)) ∙ ap (λ b. rows_on days i ++ cond b (row ∷ []) []) (sym other.0))
]

pub returns-clause-ok : goal.returns-clause-ok
returns-clause-ok c = put_on c.args.days.now.items c.args.day c.index_mut.result.now c.push.new.self c.args.row c.requires (rows_on-index c.args.days.now.items c.args.day c.index_mut.result.now c.requires c.index_mut.ensures.value) c.in_ok-push.ensures.items
