use Rattle.std.proofs.Common.{◌∙◌, ap, subst, sym}
use Rattle.timeline.specs.Steps.{IsReady}
use Rattle.tmm_program.proofs.sessions.timeline_session.Goals as goal

pub returns-clause-first : goal.returns-clause-first
returns-clause-first g c = ap (λ inner. g.M.MapCore.list inner.core) c.make-2.ensures.inner ∙ c.in_ok-inner.ensures.list

pub returns-clause-ready : goal.returns-clause-ready
returns-clause-ready g c = subst (λ inner. IsReady g.M.MapCore.list g.M.MapCore.pending inner.core) (sym c.make-2.ensures.inner) c.in_ok-inner.ensures.ready
