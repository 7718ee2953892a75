use Rattle.list_theory.proofs.Elements.{In}
use Rattle.std.proofs.Common.{ℕ, List, []}
use Rattle.tmm_model.specs.Moments.{Moment}
use Rattle.revisions.proofs.Counting.{at_least}
use Rattle.revisions.proofs.laws.changed_were_made.Goals as goal

pub returns : goal.returns
returns c = λ g b kept taken all d test laws k decisions tells. at_least g b kept (λ t r. In {X = Moment × List ℕ} (t, r) []) taken all d k decisions laws (λ t r none. none) test tells
