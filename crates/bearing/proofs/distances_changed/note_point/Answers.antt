use Rattle.std.proofs.Common.{◌≡◌, ◌∙◌, ◌⊎◌, sym, arith}
use Rattle.bearing.specs.MovedPairs.{is_moved_among}
use Rattle.bearing.specs.PointSets.{is_in}
use Rattle.bearing.proofs.Pairs.{none_of_other, point_none, point_next, point_all}
use Rattle.bearing.proofs.distances_changed.note_point.Goals as goal

pub returns-then-not-is_in : goal.returns-then-not-is_in
returns-then-not-is_in c =
    none_of_other c.args.net.now (is_in c.args.kept.now) (λ a b. (a ≡ c.args.p) ⊎ (b ≡ c.args.p)) c.args.p c.args.pairs.now.items (sym c.is_in.ensures ∙ c.if-not-is_in.true) (λ a b of. of)

pub loop-q-init : goal.loop-q-init
loop-q-init c = point_none (is_moved_among c.args.net.now (is_in c.args.kept.now)) c.args.p c.args.pairs.now.items

pub loop-q-preserved : goal.loop-q-preserved
loop-q-preserved c = point_next (is_moved_among c.args.net.now (is_in c.args.kept.now)) c.args.p c.loop-q.q c.args.pairs.now.items c.loop-q.pairs.items c.note_both.new.pairs.items c.loop-q.invariant c.note_both.ensures

pub returns : goal.returns
returns c = point_all (is_moved_among c.args.net.now (is_in c.args.kept.now)) c.args.p c.loop-q.q c.args.pairs.now.items c.loop-q.pairs.items (omega arith) c.loop-q.invariant
