use Rattle.std.proofs.Common.{refl, ◌≡◌, ◌∙◌, Some, ap, sym}
use Rattle.std.specs.declared.option.Option.{Option}
use Rattle.tmm_model.specs.Changes.{changes}
use Rattle.tmm_model.specs.Replies.{Accepted}
use Rattle.tmm_model.specs.Standing.{Standing}
use Rattle.tmm_session.proofs.Turns.{TellsMeaning-refused_edit}
use Rattle.tmm_session.proofs.session.change.Goals as goal

-- what was pending is kept
kept_is : (pending : Option Standing) (list next : Standing) → pending ≡ Some list → pending ≡ Some next → list ≡ next
kept_is pending list next is also = cc

pub returns-in-Ok-reply_ok-clause-tells : goal.returns-in-Ok-reply_ok-clause-tells
returns-in-Ok-reply_ok-clause-tells g c = (
  Accepted c.in-Ok.made.changes,
  (
    c.in-Ok.ensures.accepted,
    c.in-Ok.ensures.changes ∙ ap (λ (s : Standing). changes (g.M.MapCore.list c.args.core.now) s) (sym (kept_is _ _ _ c.commit.ensures.list c.in-Ok.ensures.pending)),
    kept_is _ _ _ c.commit.ensures.list c.in-Ok.ensures.pending,
  ),
  c.in-Ok-reply_ok.ensures,
  refl,
)

pub returns-in-Err-Refused-clause-tells : goal.returns-in-Err-Refused-clause-tells
returns-in-Err-Refused-clause-tells g c = TellsMeaning-refused_edit _ _ _ c.args.edit.now c.in-Err-Refused.refusal _ (rw c.in-Err-Refused.field-0-is at c.in-Err-Refused.ensures.stops) c.in-Err-Refused.ensures.kept c.refuse.ensures
