use Rattle.list_theory.proofs.Elements.{In}
use Rattle.revisions.proofs.Marking.{marked}
use Rattle.revisions.proofs.Same.{in_or}
use Rattle.revisions.proofs.laws.marks_make.Goals as goal

pub returns : goal.returns
returns c = λ g b c kept kept_after queue queue_after taken d t r moved laws k first marks moves.
    marked g laws b kept (λ u q. In (u, q) queue) taken d k t r first c kept_after (λ u q. In (u, q) queue_after) (λ x. In x moved) marks (λ u q _ _. in_or queue_after u q) moves
