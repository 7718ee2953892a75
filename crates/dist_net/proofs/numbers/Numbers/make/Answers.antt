use Rattle.std.proofs.Common.{ℕ, List, sym, subst, arith}
use Rattle.dist_net.specs.Changes.{ArePoints, AreMarks}
use Rattle.dist_net.proofs.Marks.{ArePoints-none, AreMarks-start}
use Rattle.dist_net.proofs.numbers.Numbers.make.Goals as goal

pub invariant_of-result : goal.invariant_of-result
invariant_of-result c = (
  subst ArePoints (sym c.in_ok-with_capacity.ensures.items) ArePoints-none,
  subst (λ (t : List ℕ). AreMarks t c.in_ok-vec.field-0.items) (sym c.in_ok-with_capacity.ensures.items) (AreMarks-start c.in_ok-vec.field-0.items (c.in_ok-vec.ensures.items_if_clones_equal (λ y e. e))),
  omega (arith, c.in_ok-with_capacity.ensures.exact),
)
