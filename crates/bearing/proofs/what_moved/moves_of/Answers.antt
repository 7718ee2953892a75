use Rattle.std.proofs.Common.{◌∙◌, ℕ, Bool, ◌<◌, List, length, sym, ap, subst, arith}
use Rattle.bearing.specs.Fast.{AreInBoth, IsFastBy}
use Rattle.bearing.specs.MovedPairs.{is_moved_among}
use Rattle.bearing.specs.PointSets.{is_in, AreThose, AreThosePairs, HaveOneOf}
use Rattle.bearing.proofs.Stood.{kept_both, moved_of_kept, fast_stand}
use Rattle.bearing.proofs.what_moved.moves_of.Goals as goal

pub moved_pairs-requires : goal.moved_pairs-requires
moved_pairs-requires c = subst (AreInBoth c.args.net.now) (sym c.deref.ensures.value) (kept_both c.args.net.now c.args.added c.in_ok-kept.kept.items c.requires.there c.in_ok-kept.ensures)

pub returns-clause-moved : goal.returns-clause-moved
returns-clause-moved c =
    let nets = c.args.net.now in
    moved_of_kept nets c.args.added c.in_ok-kept.kept.items c.in_ok-pairs.pairs.items c.in_ok-kept.ensures
    (subst (λ (l : List Bool). AreThosePairs (is_moved_among nets (is_in l)) c.in_ok-pairs.pairs.items) c.deref.ensures.value c.in_ok-pairs.ensures.moved)

pub fast_points-requires-clause-pairs : goal.fast_points-requires-clause-pairs
fast_points-requires-clause-pairs c = ap length c.deref-2.ensures.value ∙ c.in_ok-pairs.ensures.moved.places

pub fast_points-requires-clause-kept : goal.fast_points-requires-clause-kept
fast_points-requires-clause-kept c = ap length c.deref-3.ensures.value ∙ c.in_ok-kept.ensures.places

pub returns-clause-kept : goal.returns-clause-kept
returns-clause-kept c = kept_both c.args.net.now c.args.added c.in_ok-kept.kept.items c.requires.there c.in_ok-kept.ensures

pub returns-clause-fast : goal.returns-clause-fast
returns-clause-fast c =
    let nets = c.args.net.now in
    let added = c.args.added in
    let listed = c.moved.result.now in
    let pairs = c.in_ok-pairs.pairs.items in
    let kept = c.in_ok-kept.kept.items in
    let fast = c.in_ok-fast.fast.items in
    let by_pairs = subst (λ (l : List Bool). AreThose (λ p. (p < 256) × IsFastBy listed l c.deref-3.result.now p) fast) c.deref-2.ensures.value c.in_ok-fast.ensures in
    let are = subst (λ (l : List Bool). AreThose (λ p. (p < 256) × IsFastBy listed pairs l p) fast) c.deref-3.ensures.value by_pairs in
    fast_stand nets added listed pairs kept fast (returns-clause-moved c)
    (subst (λ (l : List ℕ). HaveOneOf l pairs) (sym c.moved.ensures.list) c.in_ok-pairs.ensures.listed)
    (kept_both nets added kept c.requires.there c.in_ok-kept.ensures)
    (c.in_ok-kept.ensures.all 0 (omega arith, c.requires.start))
    are
