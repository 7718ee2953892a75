use Rattle.list_theory.proofs.Elements.{In}
use Rattle.revisions.proofs.Seeding.{seeded}
use Rattle.revisions.proofs.laws.seeds_keep.Goals as goal

pub returns : goal.returns
returns c = λ g b kept queue laws s. seeded g laws b kept (λ t r. In (t, r) queue) s
