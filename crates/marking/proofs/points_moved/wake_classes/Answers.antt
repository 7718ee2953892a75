use Rattle.std.proofs.Common.{◌≡◌, ◌∙◌, ◌<◌, List, Bool, length, refl, ap, sym, subst, arith}
use Rattle.undo_rows.specs.Changes.{present as table}
use Rattle.occ_tree.specs.Standing.{present, forest}
use Rattle.joined.specs.Listed.{IsListedUnder}
use Rattle.belief_table.specs.declared.state.Decisions.{Decisions}
use Rattle.belief_table.specs.Decided.{table_of}
use Rattle.belief_table.specs.Numbers.{name_in}
use Rattle.bearing.specs.PointSets.{HaveBothIn}
use Rattle.belief_table.specs.Waiting.{dates_in}
use Rattle.marking.specs.Woken.{MovesFor, RestsFor, WakesFor, WakesForAll, AreAwake}
use Rattle.marking.proofs.Awake.{awake_still}
use Rattle.marking.proofs.Waking.{classes_none, classes_next}
use Rattle.marking.proofs.points_moved.wake_classes.Goals as goal

pub loop-class-init : goal.loop-class-init
loop-class-init c = record { wakes = classes_none (present c.args.tree.now) c.args.net.now c.args.moves.now c.args.decisions.now (dates_in c.args.decisions.now.waiting); awake = c.requires.awake; others = refl }

pub loop-class-preserved : goal.loop-class-preserved
loop-class-preserved c =
    let s = present c.args.tree.now in
    let d = c.args.decisions.now in
    let n = c.loop-class.class in
    let mid = dates_in c.loop-class.decisions.waiting in
    let new = dates_in c.wake_touched.new.waiting in
    let others = c.loop-class.invariant.others in
    let name = c.name-name.ensures ∙ ap (λ (z : Decisions). name_in z.classes n) others in
    let short : n < length d.classes = omega (arith, c.loop-class-test.true, c.len-class-end.ensures) in
    let woken = subst (λ class. WakesFor s (table_of d) c.args.net.now c.args.moves.now class (IsListedUnder (table_of d) n) mid new) name
    (subst (λ r. WakesFor s (table r) c.args.net.now c.args.moves.now c.name-name.result (IsListedUnder (table r) n) mid new) (ap (λ (z : Decisions). z.rows) others) c.in_ok-wake_touched.ensures) in
    record {
      wakes = classes_next s c.args.net.now c.args.moves.now d n (dates_in d.waiting) mid new short c.loop-class.invariant.wakes woken;
      awake = λ is. awake_still c.args.tree.now (table_of d) c.args.net.now c.args.moves.now c.requires.moves c.requires.below
          (λ i row. IsListedUnder (table_of d) n i × MovesFor c.args.moves.now (forest s) (name_in d.classes n) row.value.trigger)
          (λ i row. IsListedUnder (table_of d) n i → RestsFor c.args.net.now c.args.moves.now (forest s) (name_in d.classes n) row.value.trigger) mid new woken (c.loop-class.invariant.awake is);
      others = ap (λ (z : Decisions). record z { waiting = c.wake_touched.new.waiting }) others;
    }

pub wake_touched-requires-clause-awake : goal.wake_touched-requires-clause-awake
wake_touched-requires-clause-awake c is =
    subst (λ r. AreAwake c.args.net.now (forest (present c.args.tree.now)) (table r) (dates_in c.loop-class.decisions.waiting)) (sym (ap (λ (z : Decisions). z.rows) c.loop-class.invariant.others)) (c.loop-class.invariant.awake is)

pub wake_touched-requires-clause-points : goal.wake_touched-requires-clause-points
wake_touched-requires-clause-points c =
    subst (λ (l : List Bool). HaveBothIn c.args.moves.now.pairs.items l) (sym c.deref-in-loop-class.ensures.value)
    (subst (λ (l : List Bool). HaveBothIn l c.in_ok-points.points.items) c.deref.ensures.value c.in_ok-points.ensures)

pub returns-clause-ok : goal.returns-clause-ok
returns-clause-ok c =
    let whole : c.loop-class.class ≡ length c.args.decisions.now.classes = omega (arith, c.loop-class-test.false, c.len-class-end.ensures) in
    subst (λ n. WakesForAll (present c.args.tree.now) c.args.net.now c.args.moves.now c.args.decisions.now n (dates_in c.args.decisions.now.waiting) (dates_in c.loop-class.decisions.waiting)) whole c.loop-class.invariant.wakes
