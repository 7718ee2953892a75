use Rattle.std.proofs.Common.{◌≡◌, List, ℕ, ◌<◌, length, get_or, ap, sym, subst, arith}
use Rattle.std.specs.List.{All}
use Rattle.bearing.specs.MovedPairs.{is_moved_among, PutsPairs}
use Rattle.bearing.specs.PointSets.{is_in}
use Rattle.bearing.proofs.Pairs.{HasFirst, listed_none, listed_next, are_moved, have_listed}
use Rattle.bearing.proofs.Sets.{none_of}
use Rattle.bearing.proofs.distances_changed.moved_pairs.Goals as goal

pub loop-p-init : goal.loop-p-init
loop-p-init c = listed_none (is_moved_among c.args.net.now (is_in c.args.kept.now)) c.args.net.now.moved c.in_ok-pairs.pairs.items

pub note_point-requires-clause-point : goal.note_point-requires-clause-point
note_point-requires-clause-point c =
    let same = sym c.moved-moved.ensures.list in
    let less : c.loop-p.p-index < length c.args.net.now.moved = subst (λ (l : List ℕ). c.loop-p.p-index < length l) (sym same) c.loop-p-test.true in
    subst (λ (l : List ℕ). get_or l c.loop-p.p-index 0 < 256) same (c.moved-moved.ensures.points c.loop-p.p-index 0 less)

pub loop-p-preserved : goal.loop-p-preserved
loop-p-preserved c =
    listed_next (is_moved_among c.args.net.now (is_in c.args.kept.now)) c.args.net.now.moved c.loop-p.p-index (get_or c.moved-moved.result.now c.loop-p.p-index 0) c.in_ok-pairs.pairs.items c.loop-p.pairs.items c.note_point.new.pairs.items
    (ap (λ (l : List ℕ). get_or l c.loop-p.p-index 0) c.moved-moved.ensures.list) c.loop-p.invariant c.note_point.ensures

pub returns-clause-moved : goal.returns-clause-moved
returns-clause-moved c =
    let whole : c.loop-p.p-index ≡ length c.args.net.now.moved = omega (arith, ap length c.moved-moved.ensures.list) in
    are_moved c.args.net.now (is_in c.args.kept.now) c.requires c.moved-moved.ensures.moved c.loop-p.pairs.items c.in_ok-pairs.pairs.items
    (none_of c.in_ok-pairs.pairs.items 65536 (c.in_ok-pairs.ensures.items_if_clones_equal (λ y e. e)))
    (omega (arith, c.in_ok-pairs.ensures.len, c.in_ok-pairs.pairs.ok.0))
    (subst (λ n. PutsPairs (is_moved_among c.args.net.now (is_in c.args.kept.now)) (HasFirst c.args.net.now.moved n) c.in_ok-pairs.pairs.items c.loop-p.pairs.items) whole c.loop-p.invariant)

pub returns-clause-listed : goal.returns-clause-listed
returns-clause-listed c =
    let below : All (λ p. p < 256) c.args.net.now.moved = c.moved-moved.ensures.points in
    have_listed c.args.net.now (is_in c.args.kept.now) c.requires c.moved-moved.ensures.moved c.loop-p.pairs.items below (returns-clause-moved c)
