use Rattle.std.proofs.Common.{sym, subst}
use Rattle.occ_tree.specs.Places.{forest}
use Rattle.belief_list.specs.Matches.{AreMatched}
use Rattle.belief_list.proofs.Deltas.{are_changes}
use Rattle.belief_list.proofs.changes.compare.Goals as goal

pub returns-clause-left : goal.returns-clause-left
returns-clause-left c =
    let after = subst (AreMatched (forest c.args.old_tree.now) (forest c.args.new_tree.now) c.args.new.now) (sym c.as_slice-2.ensures.value) c.in_ok-new_places.ensures in
    c.in_ok-gone.ensures (forest c.args.new_tree.now) after

pub returns-clause-entered : goal.returns-clause-entered
returns-clause-entered c =
    let before = subst (AreMatched (forest c.args.new_tree.now) (forest c.args.old_tree.now) c.args.old.now) (sym c.as_slice.ensures.value) c.in_ok-old_places.ensures in
    c.in_ok-gone-2.ensures (forest c.args.old_tree.now) before

pub returns-clause-loose : goal.returns-clause-loose
returns-clause-loose c =
    let before = subst (AreMatched (forest c.args.new_tree.now) (forest c.args.old_tree.now) c.args.old.now) (sym c.as_slice.ensures.value) c.in_ok-old_places.ensures in
    c.in_ok-loosened.ensures (forest c.args.old_tree.now) before

pub returns-clause-clips : goal.returns-clause-clips
returns-clause-clips c =
    let before = subst (AreMatched (forest c.args.new_tree.now) (forest c.args.old_tree.now) c.args.old.now) (sym c.as_slice.ensures.value) c.in_ok-old_places.ensures in
    c.in_ok-clipped.ensures (forest c.args.old_tree.now) before

pub returns-clause-delta : goal.returns-clause-delta
returns-clause-delta c = λ m n of_m of_n.
    let after = subst (AreMatched (forest c.args.old_tree.now) (forest c.args.new_tree.now) c.args.new.now) (sym c.as_slice-2.ensures.value) c.in_ok-new_places.ensures in
    let before = subst (AreMatched (forest c.args.new_tree.now) (forest c.args.old_tree.now) c.args.old.now) (sym c.as_slice.ensures.value) c.in_ok-old_places.ensures in
    are_changes _ _ _
    (c.in_ok-gone.ensures (forest c.args.new_tree.now) after)
    (c.in_ok-gone-2.ensures (forest c.args.old_tree.now) before)
    (c.in_ok-loosened.ensures (forest c.args.old_tree.now) before)
    (c.in_ok-clipped.ensures (forest c.args.old_tree.now) before)
    m n of_m of_n
