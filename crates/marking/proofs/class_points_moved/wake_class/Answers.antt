use Rattle.std.proofs.Common.{List, ℕ, ◌+◌, subst, arith}
use Rattle.row_links.specs.Lists.{IsOn}
use Rattle.undo_rows.specs.Changes.{present as table}
use Rattle.occ_tree.specs.Places.{forest}
use Rattle.occ_tree.specs.Standing.{present}
use Rattle.belief_table.specs.Waiting.{dates_in}
use Rattle.marking.specs.Woken.{MovesFor, RestsFor, WakesFor}
use Rattle.marking.proofs.Waking.{under_none, under_next, under_all}
use Rattle.marking.proofs.class_points_moved.wake_class.Goals as goal

pub loop-place-init : goal.loop-place-init
loop-place-init c = record {
  class = c.in_ok-of_class.ensures.class;
  moves = c.in_ok-of_class.ensures.moves;
  wakes = under_none (present c.args.tree.now) (table c.args.rows.now) (MovesFor c.args.moves.now (forest c.args.tree.now) c.args.class) (RestsFor c.args.net.now c.args.moves.now (forest c.args.tree.now) c.args.class) c.args.number (dates_in c.args.waiting.now);
}

pub wake_list-requires-clause-class : goal.wake_list-requires-clause-class
wake_list-requires-clause-class c = c.loop-place.invariant.moves

pub loop-place-preserved : goal.loop-place-preserved
loop-place-preserved c =
    let n = c.loop-place.place in
    record {
      class = c.loop-place.invariant.class;
      moves = c.loop-place.invariant.moves;
      wakes = under_next (present c.args.tree.now) (table c.args.rows.now) (MovesFor c.args.moves.now (forest c.args.tree.now) c.args.class) (RestsFor c.args.net.now c.args.moves.now (forest c.args.tree.now) c.args.class) n c.args.number (dates_in c.args.waiting.now) (dates_in c.loop-place.waiting)
          (dates_in c.wake_list.new.waiting) c.loop-place.invariant.wakes
          (subst (λ (class : List ℕ). WakesFor (present c.args.tree.now) (table c.args.rows.now) c.args.net.now c.args.moves.now class (IsOn ((table c.args.rows.now).list (n + 2) c.args.number))
          (dates_in c.loop-place.waiting) (dates_in c.wake_list.new.waiting))
          c.loop-place.invariant.class c.in_ok-wake_list.ensures);
    }

pub returns : goal.returns
returns c =
    under_all (present c.args.tree.now) (table c.args.rows.now) (MovesFor c.args.moves.now (forest c.args.tree.now) c.args.class) (RestsFor c.args.net.now c.args.moves.now (forest c.args.tree.now) c.args.class) c.loop-place.place c.args.number (dates_in c.args.waiting.now) (dates_in c.loop-place.waiting) (omega arith)
    c.loop-place.invariant.wakes
