-- Two facts that contradict each other, as the tests use them, with the laws of such a relation.
use Rattle.std.specs.Prelude.{◌≡◌, ℕ, Bool, false, not, ◌&&◌, ◌||◌, List}
use Rattle.std.specs.Cmp.Lexicographic.{nat_list_eq_equiv}
use Rattle.std.proofs.Common.{ap, ◌∙◌}
use Rattle.std.proofs.Math.Bool.{or_comm, and_comm}
use Rattle.std.proofs.lemmas.Bool.{and_left}
use Rattle.tmm_model.specs.Points.{same_name}

-- f and g are two different facts, one and other in this order or the other way round
abbrev pub are_pair : List ℕ → List ℕ → List ℕ → List ℕ → Bool
are_pair one other f g = not (same_name f g) && ((same_name f one && same_name g other) || (same_name f other && same_name g one))

pub none_itself : (one other f : List ℕ) → are_pair one other f f ≡ false
none_itself one other f =
    and_left (not (same_name f f)) ((same_name f one && same_name f other) || (same_name f other && same_name f one)) (ap not (nat_list_eq_equiv.refl f))

pub both_ways : (one other f g : List ℕ) → are_pair one other f g ≡ are_pair one other g f
both_ways one other f g = λ i. not (nat_list_eq_equiv.symm f g i) && turned i
  where
    turned : ((same_name f one && same_name g other) || (same_name f other && same_name g one)) ≡ ((same_name g one && same_name f other) || (same_name g other && same_name f one))
    turned = or_comm (same_name f one && same_name g other) (same_name f other && same_name g one) ∙ (λ i. and_comm (same_name f other) (same_name g one) i || and_comm (same_name f one) (same_name g other) i)
