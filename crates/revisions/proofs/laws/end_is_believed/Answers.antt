use Rattle.list_theory.proofs.Elements.{In}
use Rattle.std.proofs.Common.{ℕ, List, []}
use Rattle.tmm_model.specs.Moments.{Moment}
use Rattle.revisions.proofs.Agreeing.{ended}
use Rattle.revisions.proofs.laws.end_is_believed.Goals as goal

pub returns : goal.returns
returns c = λ g b kept taken d laws k. ended g laws b kept (λ t r. In {X = Moment × List ℕ} (t, r) []) taken d k (λ t r none. none)
