use Rattle.std.proofs.Common.{rules, ◌+◌, ◌-◌, ◌<◌, length, sym, subst, arith, FitsSigned, to_z, of_z}
use Rattle.std.specs.Int.{w128}
use Rattle.std.proofs.lemmas.Int.{to_z-of_z}
use Rattle.std.specs.Prelude.{◌/◌}
use Rattle.std.proofs.lemmas.Bool.{both_ways}
use Rattle.std.proofs.lemmas.List.{get_or_read}
use Rattle.occ_tree.specs.Places.{forest}
use Rattle.supports.specs.Entries.{no_entry, entry_at}
use Rattle.supports.specs.Firsts.{IsBefore}
use Rattle.supports.proofs.Found.{first_more, rest_more}
use Rattle.supports.proofs.branches.Branches.count_before.Goals as goal

pub is_before-requires-clause-place : goal.is_before-requires-clause-place
is_before-requires-clause-place c =
    let middle = c.loop-low.low + (c.loop-low.high - c.loop-low.low) / 2 in
    let entries = c.args.self.now.entries.items in
    let within : middle < length entries = omega (arith, c.loop-low.invariant.high, c.loop-low-test.true) in
    subst (λ e. e.place < length c.args.rows.now) (sym (get_or_read entries middle c.index.result.now within c.index.ensures no_entry)) (c.requires.branches.entries.own middle no_entry within).0

pub loop-low-preserved-then-is_before : goal.loop-low-preserved-then-is_before
loop-low-preserved-then-is_before c =
    let least = to_z w128 (of_z w128 c.args.least) in
    let middle = c.loop-low.low + (c.loop-low.high - c.loop-low.low) / 2 in
    let entries = c.args.self.now.entries.items in
    let within : middle < length entries = omega (arith, c.loop-low.invariant.high, c.loop-low-test.true) in
    let (class, are) = c.requires.tokens in
    let here = subst (IsBefore c.args.order.now.net.now.present (forest c.args.order.now.tree.now) c.args.rows.now c.args.node least) (get_or_read entries middle c.index.result.now within c.index.ensures no_entry) (c.is_before.ensures.0 c.if-is_before.true) in
    record {
      low = omega (arith, c.loop-low-test.true);
      high = c.loop-low.invariant.high;
      first = first_more c.args.order.now.net.now.present are c.requires.by_date c.requires.branches.entries c.requires.branches.sorted c.args.node least middle within here;
      rest = c.loop-low.invariant.rest;
    }

pub loop-low-preserved : goal.loop-low-preserved
loop-low-preserved c =
    let least = to_z w128 (of_z w128 c.args.least) in
    let middle = c.loop-low.low + (c.loop-low.high - c.loop-low.low) / 2 in
    let entries = c.args.self.now.entries.items in
    let within : middle < length entries = omega (arith, c.loop-low.invariant.high, c.loop-low-test.true) in
    let (class, are) = c.requires.tokens in
    let out : IsBefore c.args.order.now.net.now.present (forest c.args.order.now.tree.now) c.args.rows.now c.args.node least (entry_at entries middle) → ⊥ = λ before. both_ways c.is_before.result c.if-is_before.false (c.is_before.ensures.1 (subst (IsBefore c.args.order.now.net.now.present (forest c.args.order.now.tree.now) c.args.rows.now c.args.node least) (sym (get_or_read entries middle c.index.result.now within c.index.ensures no_entry)) before)) in
    record {
      low = omega (arith, c.loop-low-test.true);
      high = omega (arith, within);
      first = c.loop-low.invariant.first;
      rest = rest_more c.args.order.now.net.now.present are c.requires.by_date c.requires.branches.entries c.requires.branches.sorted c.args.node least middle within out;
    }

pub returns : goal.returns
returns c =
    let fits : FitsSigned w128 c.args.least = search rules in
    let least = to_z-of_z w128 c.args.least fits in
    record {
      within = omega (arith, c.loop-low.invariant.low, c.loop-low.invariant.high);
      first = λ i lt. subst (λ z. IsBefore c.args.order.now.net.now.present (forest c.args.order.now.tree.now) c.args.rows.now c.args.node z (entry_at c.args.self.now.entries.items i)) least (c.loop-low.invariant.first i lt);
      rest = λ i from lt before. c.loop-low.invariant.rest i (omega (arith, from, c.loop-low-test.false)) lt (subst (λ z. IsBefore c.args.order.now.net.now.present (forest c.args.order.now.tree.now) c.args.rows.now c.args.node z (entry_at c.args.self.now.entries.items i)) (sym least) before);
    }
