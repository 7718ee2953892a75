use Rattle.std.proofs.Common.{◌++◌, ◌∷◌, [], List, ℕ, map, length, sym, ap, ◌∙◌, arith}
use Rattle.std.specs.Prelude.{reverse}
use Rattle.std.proofs.lemmas.List.{append-nil, length-append}
use Rattle.occ_tree.specs.Nodes.{name_at, way_to}
use Rattle.occ_tree.specs.Standing.{nodes_in, present_rows}
use Rattle.occ_tree.proofs.Upward.{all_written, one_written}
use Rattle.occ_tree.proofs.Ways.{length-way, live_by_way}
use Rattle.occ_tree.proofs.Wording.{name_of}
use Rattle.occ_tree.proofs.told.names_to.Goals as goal

pub loop-above-init : goal.loop-above-init
loop-above-init c =
    let node = nodes_in (present_rows c.args.nodes.now) in
    let long = length-way node c.args.x c.get.result.now c.get.ensures.node in
    let none = c.in_ok-names.ensures.items in
    let empty = c.in_ok-names.ensures.len in
    let room = c.in_ok-names.ensures.capacity in
    let all = map (name_at node) (way_to node c.args.x).numbers in
    record {
      names = sym (ap (λ (u : List (List ℕ)). all ++ reverse u) none ∙ append-nil all);
      long = omega (arith, long);
      written = empty;
      room = room;
    }

pub get-requires-in-loop-above : goal.get-requires-in-loop-above
get-requires-in-loop-above c =
    let long = c.loop-above.invariant.long in
    let below = c.loop-above-test.true in
    live_by_way (nodes_in (present_rows c.args.nodes.now)) c.loop-above.at (omega (arith, long, below))

pub push_reserved-requires : goal.push_reserved-requires
push_reserved-requires c =
    let written = c.loop-above.invariant.written in
    let room = c.loop-above.invariant.room in
    let below = c.loop-above-test.true in
    omega (arith, written, room, below)

pub parent-at-requires : goal.parent-at-requires
parent-at-requires c =
    let long = c.loop-above.invariant.long in
    let below = c.loop-above-test.true in
    omega (arith, long, below)

pub loop-above-preserved : goal.loop-above-preserved
loop-above-preserved c =
    let node = nodes_in (present_rows c.args.nodes.now) in
    let before = c.loop-above.invariant in
    let above = c.parent-at.ensures in
    let shorter = ap length above in
    let more = length-append (way_to node c.parent-at.result).numbers (c.loop-above.at ∷ []) in
    let long = before.long in
    let written = before.written in
    let room = before.room in
    let len = c.push_reserved.ensures.len in
    let capacity = c.push_reserved.ensures.capacity in
    record {
      names = one_written node c.loop-above.at c.get-in-loop-above.result.now.name (name_of node c.loop-above.at c.get-in-loop-above.result.now c.get-in-loop-above.ensures.node) _ c.loop-above.names.items before.names c.parent-at.result above _ c.push_reserved.ensures.items;
      long = omega (arith, long, shorter, more);
      written = omega (arith, written, len);
      room = omega (arith, room, capacity);
    }

pub get-requires-2 : goal.get-requires-2
get-requires-2 c =
    let long = c.loop-above.invariant.long in
    let ended = c.loop-above.auto._above-end in
    live_by_way (nodes_in (present_rows c.args.nodes.now)) c.loop-above.at (omega (arith, long, ended))

pub push_reserved-requires-2 : goal.push_reserved-requires-2
push_reserved-requires-2 c =
    let written = c.loop-above.invariant.written in
    let room = c.loop-above.invariant.room in
    let ended = c.loop-above.auto._above-end in
    omega (arith, written, room, ended)

pub returns : goal.returns
returns c =
    let node = nodes_in (present_rows c.args.nodes.now) in
    let before = c.loop-above.invariant in
    let long = before.long in
    let ended = c.loop-above.auto._above-end in
    let past = c.loop-above-test.false in
    c.reverse.ensures.items
    ∙ all_written node c.loop-above.at c.get-2.result.now.name (name_of node c.loop-above.at c.get-2.result.now c.get-2.ensures.node) _ c.loop-above.names.items before.names (omega (arith, long, ended, past)) _ c.push_reserved-2.ensures.items
