use Rattle.spots.proofs.Delays.{difference_fits, first_small, whole_small, fewer, low_behind, bounded_behind, unbounded_behind}
use Rattle.spots.proofs.sums.Sums.behind.Goals as goal

pub overflow_sub-result : goal.overflow_sub-result
overflow_sub-result c = difference_fits c.args.self.low c.args.first.low (whole_small c.args.first c.args.self c.requires).0 (first_small c.args.first c.args.self c.requires).0

pub overflow_sub-result-2 : goal.overflow_sub-result-2
overflow_sub-result-2 c = difference_fits c.args.self.bounded c.args.first.bounded (whole_small c.args.first c.args.self c.requires).1 (first_small c.args.first c.args.self c.requires).1

pub overflow_sub-result-3 : goal.overflow_sub-result-3
overflow_sub-result-3 c = fewer c.args.first c.args.self c.requires

pub returns : goal.returns
returns c u v of_u of_all = record {
  low = low_behind c.args.first c.args.self c.requires u v of_u of_all;
  bounded = bounded_behind c.args.first c.args.self c.requires u v of_u of_all;
  unbounded = unbounded_behind c.args.first c.args.self c.requires u v of_u of_all;
}
