use Rattle.std.proofs.Common.{ℕ, List, []}
use Rattle.tmm_model.specs.Moments.{Moment}
use Rattle.list_theory.proofs.Elements.{In}
use Rattle.revisions.proofs.Telling.{told_all}
use Rattle.revisions.proofs.laws.told_is_changed.Goals as goal

pub returns : goal.returns
returns c = λ g b entered left kept taken d laws k told. told_all g laws b kept (λ t r. In {X = Moment × List ℕ} (t, r) []) taken d k (λ t r none. none) entered left told
