use Rattle.std.proofs.Common.{◌≡◌, ◌≢◌, ◌∙◌, sym, ap, subst, arith, w64, of_z, to_z}
use Rattle.tmm_model.specs.declared.bound.Bound.{Bound}
use Rattle.tmm_model.specs.Bounds.{bound_plus, bound_less}
use Rattle.dist_net.specs.Net.{IsInUse}
use Rattle.spots.specs.Spots.{base_of, links_of, links_low, links_high, net_far}
use Rattle.spots.proofs.Delays.{low_from_sums, low_sum_small, high_from_sums, high_sum_small, looser, looser_number, sum_small, difference_small}
use Rattle.spots.proofs.Distances.{distance-one_base, distance-two_bases}
use Rattle.spots.proofs.InUse.{base_in_use}
use Rattle.occ_tree.specs.Standing.{present, forest}
use Rattle.occ_tree.proofs.Telling.{of_one_root}
use Rattle.occ_tree.proofs.tree.Tree.far.Goals as goal

pub shared_sums-shared-requires-clause-root : goal.shared_sums-shared-requires-clause-root
shared_sums-shared-requires-clause-root c =
    of_one_root c.args.net.now.present (forest (present c.args.self.now)) c.requires.list c.args.from c.args.to (sym c.place-start.ensures.base ∙ c.if-start-end.true ∙ c.place-end.ensures.base)

pub between-requires : goal.between-requires
between-requires c = record {
  u = links_of (forest (present c.args.self.now)) c.args.from;
  v = links_of (forest (present c.args.self.now)) c.args.to;
  light_u = c.place-start.ensures.light;
  light_v = c.place-end.ensures.light;
  of_u = c.place-start.ensures.sums;
  of_v = c.place-end.ensures.sums;
  parted = c.shared_sums-shared.ensures;
}

pub far-requires-clause-from : goal.far-requires-clause-from
far-requires-clause-from c =
    subst (IsInUse c.args.net.now.present.names) (sym c.place-start.ensures.base) (base_in_use c.args.net.now.present (forest (present c.args.self.now)) c.requires.list c.args.from c.requires.from)

pub far-requires-clause-to : goal.far-requires-clause-to
far-requires-clause-to c =
    subst (IsInUse c.args.net.now.present.names) (sym c.place-end.ensures.base) (base_in_use c.args.net.now.present (forest (present c.args.self.now)) c.requires.list c.args.to c.requires.to)

pub plus-requires-clause-second : goal.plus-requires-clause-second
plus-requires-clause-second c =
    looser c.high.result 100000000000000 1000000000000000 (omega arith) (high_sum_small c.place-end.result.sums (links_of (forest (present c.args.self.now)) c.args.to) c.place-end.ensures.light c.place-end.ensures.sums c.high.result c.high.ensures)

pub less-requires-clause-bound : goal.less-requires-clause-bound
less-requires-clause-bound c =
    let high = high_sum_small c.place-end.result.sums (links_of (forest (present c.args.self.now)) c.args.to) c.place-end.ensures.light c.place-end.ensures.sums c.high.result c.high.ensures in
    sum_small c.far.result c.high.result c.plus.result 255000000000 100000000000000 1000000000000000 (omega arith) c.plus.ensures c.far.ensures.small high

pub less-requires-clause-by : goal.less-requires-clause-by
less-requires-clause-by c =
    looser_number _ 100000000000000 1000000000000000 (omega arith) (low_sum_small c.place-start.result.sums (links_of (forest (present c.args.self.now)) c.args.from) c.place-start.ensures.light c.place-start.ensures.sums)

pub returns-then-start-end-clause-exact : goal.returns-then-start-end-clause-exact
returns-then-start-end-clause-exact c =
    let net = c.args.net.now.present in
    let f = forest (present c.args.self.now) in
    let base : base_of f c.args.from ≡ base_of f c.args.to = sym c.place-start.ensures.base ∙ c.if-start-end.true ∙ c.place-end.ensures.base in
    c.between.ensures.exact (links_of f c.args.from) (links_of f c.args.to) c.shared_sums-shared.ensures c.place-start.ensures.sums c.place-end.ensures.sums ∙ sym (distance-one_base net f c.args.from c.args.to base)

pub returns-else-start-end-clause-exact : goal.returns-else-start-end-clause-exact
returns-else-start-end-clause-exact c =
    let net = c.args.net.now.present in
    let f = forest (present c.args.self.now) in
    let start = c.place-start.ensures in
    let to_end = c.place-end.ensures in
    let two : base_of f c.args.from ≢ base_of f c.args.to = λ one. c.if-start-end.false (start.base ∙ one ∙ sym to_end.base) in
    let high : c.high.result ≡ links_high (links_of f c.args.to) = c.high.ensures ∙ high_from_sums c.place-end.result.sums (links_of f c.args.to) to_end.sums in
    let low : to_z w64 (of_z w64 c.place-start.result.sums.low) ≡ links_low (links_of f c.args.from) = low_from_sums c.place-start.result.sums (links_of f c.args.from) start.light start.sums in
    let sum = c.plus.ensures ∙ ap (λ (x : Bound). bound_plus x c.high.result) c.far.ensures.exact in
    c.less.ensures ∙ ap (λ (x : Bound). bound_less x (to_z w64 (of_z w64 c.place-start.result.sums.low))) sum ∙ (λ i. bound_less (bound_plus (net_far net (start.base i) (to_end.base i)) (high i)) (low i))
    ∙ sym (distance-two_bases net f c.args.from c.args.to two)

pub returns-else-start-end-clause-small : goal.returns-else-start-end-clause-small
returns-else-start-end-clause-small c =
    let f = forest (present c.args.self.now) in
    let high = high_sum_small c.place-end.result.sums (links_of f c.args.to) c.place-end.ensures.light c.place-end.ensures.sums c.high.result c.high.ensures in
    let sum = sum_small c.far.result c.high.result c.plus.result 255000000000 100000000000000 500000000000000 (omega arith) c.plus.ensures c.far.ensures.small high in
    let low = low_sum_small c.place-start.result.sums (links_of f c.args.from) c.place-start.ensures.light c.place-start.ensures.sums in
    difference_small c.plus.result c.less.result _ 500000000000000 100000000000000 1000000000000000 (omega arith) c.less.ensures sum low
