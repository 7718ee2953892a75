use Rattle.std.proofs.Common.{◌≡◌, Some, ap, ◌∙◌}
use Rattle.std.specs.declared.option.Option.{Option}
use Rattle.tmm_model.specs.Edits.{upgraded}
use Rattle.tmm_model.specs.Standing.{Standing}
use Rattle.agents.proofs.Opened.{empty_opens}
use Rattle.agents.proofs.agents.upgrade.Goals as goal

-- what was pending is kept
kept_is : (pending : Option Standing) (list next : Standing) → pending ≡ Some list → pending ≡ Some next → list ≡ next
kept_is pending list next is also = cc

pub returns-in-Ok-clause-list : goal.returns-in-Ok-clause-list
returns-in-Ok-clause-list g c = kept_is _ _ _ c.commit.ensures.list c.in-Ok.ensures.pending ∙ ap (λ (s : Standing). upgraded s) c.requires.empty

pub unreachable-requires : goal.unreachable-requires
unreachable-requires g c = empty_opens _ c.in-Err-Refused.field-0-0 c.requires.empty (rw c.in-Err-Refused.field-0-is at c.in-Err-Refused.ensures.stops)
