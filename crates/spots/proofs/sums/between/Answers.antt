use Rattle.std.proofs.Common.{◌∙◌, sym, arith}
use Rattle.tmm_model.specs.Bounds.{bound_less}
use Rattle.spots.proofs.Delays.{looser, looser_number, difference_small, high_second, low_first, front_first, front_second, high_second_small, low_first_small, low_first_seen}
use Rattle.spots.proofs.sums.between.Goals as goal

pub less-requires-clause-bound : goal.less-requires-clause-bound
less-requires-clause-bound c =
    looser c.high.result 100000000000000 1000000000000000 (omega arith) (high_second_small c.args.from c.args.to c.args.shared c.requires c.behind.result c.behind.ensures c.high.result c.high.ensures)

pub less-requires-clause-by : goal.less-requires-clause-by
less-requires-clause-by c = looser_number _ 100000000000000 1000000000000000 (omega arith) (low_first_small c.args.from c.args.to c.args.shared c.requires c.behind-2.result c.behind-2.ensures)

pub behind-requires : goal.behind-requires
behind-requires c = front_second c.args.from c.args.to c.args.shared c.requires

pub behind-requires-2 : goal.behind-requires-2
behind-requires-2 c = front_first c.args.from c.args.to c.args.shared c.requires

pub returns-clause-exact : goal.returns-clause-exact
returns-clause-exact c u v parted of_u of_v =
    let high = high_second c.args.shared c.args.from c.args.to u v parted of_u of_v c.behind.result c.behind.ensures c.high.result c.high.ensures in
    let low = low_first_seen c.args.from c.args.to c.args.shared c.requires c.behind-2.result c.behind-2.ensures ∙ low_first c.args.shared c.args.from c.args.to u v parted of_u of_v c.behind-2.result c.behind-2.ensures in
    c.less.ensures ∙ (λ i. bound_less (high i) (low i)) ∙ sym parted.apart

pub returns-clause-small : goal.returns-clause-small
returns-clause-small c =
    let high = high_second_small c.args.from c.args.to c.args.shared c.requires c.behind.result c.behind.ensures c.high.result c.high.ensures in
    let low = low_first_small c.args.from c.args.to c.args.shared c.requires c.behind-2.result c.behind-2.ensures in
    difference_small c.high.result c.less.result _ 100000000000000 100000000000000 200000000000000 (omega arith) c.less.ensures high low
