use Rattle.std.proofs.Common.{arith}
use Rattle.bearing.proofs.Sets.{none_of}
use Rattle.bearing.proofs.points_of_class.reach_of_none.Goals as goal

pub returns-clause-places : goal.returns-clause-places
returns-clause-places c = record {
  all = omega (arith, c.in_ok-vec.ensures.len, c.in_ok-vec.field-0.ok.0);
  bounded = omega (arith, c.in_ok-vec-2.ensures.len, c.in_ok-vec-2.field-0.ok.0);
}

pub returns-clause-all : goal.returns-clause-all
returns-clause-all c = none_of c.in_ok-vec.field-0.items 256 (c.in_ok-vec.ensures.items_if_clones_equal (λ y e. e))

pub returns-clause-bounded : goal.returns-clause-bounded
returns-clause-bounded c = none_of c.in_ok-vec-2.field-0.items 256 (c.in_ok-vec-2.ensures.items_if_clones_equal (λ y e. e))
