use Rattle.std.proofs.Common.{◌≡◌, ◌∙◌, ℕ, Bool, true, false, not, List, length, get_or, refl, sym, subst, arith}
use Rattle.std.specs.List.{Contains}
use Rattle.spots.specs.declared.spot.Spot.TheVariants.{Declared}
use Rattle.undo_rows.specs.Changes.{present as table}
use Rattle.occ_tree.specs.Standing.{present}
use Rattle.occ_tree.proofs.AtPoints.{no_start}
use Rattle.bearing.specs.Touching.{IsTouchedAt}
use Rattle.belief_table.specs.Waiting.{dates_in}
use Rattle.marking.proofs.Awake.{first_none, awake_none, first_next, awake_next, all_marked, all_awake}
use Rattle.bearing.proofs.Touched.{touched_moves}
use Rattle.marking.proofs.events_moved.wake_moved_events.Goals as goal
use Rattle.marking.proofs.events_moved.wake_moved_events.Goals.{then-awake, else-awake}

is_false : (v : Bool) → not v ≡ true → v ≡ false
is_false false e = refl
is_false true e = cc

pub loop-x-init : goal.loop-x-init
loop-x-init c =
    let k = c.args.tree.now in
    let t = table c.args.rows.now in
    let events = c.in_ok-events.events in
    let at = subst (λ (l : List Bool). IsTouchedAt l c.in_ok-reach.reach events) c.deref.ensures.value c.in_ok-events.ensures in
    record {
      touched = λ (x : ℕ). touched_moves (present k) (λ p. p ≡ Declared 0) c.args.moves.now.pairs.items c.in_ok-reach.reach c.requires.moves.itself c.in_ok-reach.ensures.all c.in_ok-reach.ensures.bounded c.requires.below x events at;
      marks = first_none k t c.args.net.now c.args.moves.now c.requires.moves c.requires.below c.args.nodes.now events (dates_in c.args.waiting.now);
      awake = awake_none k t c.args.net.now c.args.moves.now c.requires.moves c.requires.below c.args.nodes.now (not c.contains-awake.result) (dates_in c.args.waiting.now)
          (λ is on. no_start c.moved-2.result.now (sym c.contains-awake.ensures.value ∙ is_false c.contains-awake.result is) (subst (λ l. Contains l 0) (sym c.moved-2.ensures.list) on));
    }

pub loop-x-preserved : goal.loop-x-preserved
loop-x-preserved c =
    let k = c.args.tree.now in
    let t = table c.args.rows.now in
    let nets = c.args.net.now in
    let moves = c.args.moves.now in
    let nodes = c.args.nodes.now in
    let n = c.loop-x.x-index in
    let mid = dates_in c.loop-x.waiting in
    let new = dates_in c.wake_event.new.waiting in
    record {
      touched = c.loop-x.invariant.touched;
      marks = first_next k t nets moves c.requires.moves c.requires.below nodes _ c.requires.by_event n (get_or nodes n 0) refl (dates_in c.args.waiting.now) mid new c.loop-x.invariant.marks c.in_ok-is_awake.ensures.marks;
      awake = awake_next k t nets moves c.requires.moves c.requires.below nodes _ c.requires.by_event n (get_or nodes n 0) refl c.loop-x.awake c.in_ok-is_awake.is_awake c.if-awake.awake mid new
          (λ is. elim c.if-awake.branch [
            | then-awake w ↦ (w.if-awake.true, sym w.awake-is ∙ is)
            | else-awake w ↦ (let no : false ≡ true = sym w.if-awake.false ∙ sym w.awake-is ∙ is in cc)
          ])
          c.in_ok-is_awake.ensures.marks c.in_ok-is_awake.ensures.awake c.loop-x.invariant.awake;
    }

pub returns-clause-ok : goal.returns-clause-ok
returns-clause-ok c =
    let whole : c.loop-x.x-index ≡ length c.args.nodes.now = omega (arith, c.loop-x-test.false) in
    all_marked c.args.tree.now (table c.args.rows.now) c.args.net.now c.args.moves.now c.requires.moves c.requires.below c.args.nodes.now _ c.requires.events c.requires.nodes c.loop-x.x-index
    (dates_in c.args.waiting.now) (dates_in c.loop-x.waiting) whole c.loop-x.invariant.touched c.loop-x.invariant.marks

pub returns-clause-awake : goal.returns-clause-awake
returns-clause-awake c =
    let whole : c.loop-x.x-index ≡ length c.args.nodes.now = omega (arith, c.loop-x-test.false) in
    all_awake c.args.tree.now (table c.args.rows.now) c.args.net.now c.args.moves.now c.requires.moves c.requires.below c.args.nodes.now c.requires.events c.requires.nodes c.loop-x.x-index c.loop-x.awake (dates_in c.loop-x.waiting)
    whole c.loop-x.invariant.awake
