use Rattle.std.proofs.Common.{◌∙◌, ◌≤◌, refl, sym, subst, rules, arith, Fits, w64}
use Rattle.std.proofs.lemmas.Result.{err_from_is_err_and}
use Rattle.occ_tree.specs.Standing.{present}
use Rattle.marking.specs.Covered.{Covers}
use Rattle.belief_turns.specs.Settling.{IfBegun, IsSettled}
use Rattle.belief_turns.specs.Turns.{TurnsOrRests}
use Rattle.marking.proofs.Covering.{nothing_covered}
use Rattle.belief_table.proofs.Named.{last_stays, last_on}
use Rattle.belief_turns.proofs.Numbering.{same_numbered, numbered_on}
use Rattle.belief_turns.proofs.Rises.{counts_on}
use Rattle.belief_turns.proofs.Settled.{revising_on, so_far_on, so_far_first, so_far_within, one_within, stops_for, settled}
use Rattle.belief_turns.proofs.settling.settle.Goals as goal

pub loop-init : goal.loop-init
loop-init c =
    let b = c.args.beliefs.now in
    let fits : Fits w64 c.value.result = search rules in
    let same = c.value.ensures in
    let few : c.args.count.now ≤ 18446744073709551615 = omega (arith, fits, same) in
    record {
      fit = c.requires.fit;
      revising = c.requires.revising;
      weighed = c.requires.weighed;
      covered = subst (Covers c.args.standing.now.present (present b.tree) b.decisions) (sym c.make-marks.ensures) (nothing_covered c.args.standing.now.present (present b.tree) b.decisions);
      known = c.make-known.ensures c.args.standing.now.present;
      so_far = so_far_first c.args.standing.now.present c.args.net.now.present c.args.beliefs.now c.args.told.now c.args.count.now few;
      numbered = same_numbered c.args.standing.now.present c.args.beliefs.now c.args.beliefs.now c.args.told.now refl;
      rises = (omega arith, few);
      last = record { tree = refl; decisions = last_stays c.args.beliefs.now.decisions };
    }

pub returns-in_err-turn-clause-stops : goal.returns-in_err-turn-clause-stops
returns-in_err-turn-clause-stops c =
    let p = err_from_is_err_and c.from_residual.result c.from_residual.ensures.1 in
    rw (p.1, p.2)
    (stops_for c.args.standing.now.present c.args.net.now.present c.args.beliefs.now c.loop.beliefs c.args.told.now c.loop.told c.args.count.now c.loop.count c.in_err-turn.field-0.0
    c.loop.invariant.weighed c.loop.invariant.so_far c.in_err-turn.ensures.stops)

pub returns-in_err-turn-clause-counted : goal.returns-in_err-turn-clause-counted
returns-in_err-turn-clause-counted c =
    one_within c.args.standing.now.present c.args.net.now.present c.args.beliefs.now c.loop.beliefs c.args.told.now c.loop.told c.args.count.now c.loop.count c.turn.new.counter
    c.loop.invariant.fit c.loop.invariant.so_far c.in_err-turn.ensures.counted

pub returns-then-not-branch-clause-settled : goal.returns-then-not-branch-clause-settled
returns-then-not-branch-clause-settled c =
    let s = c.args.standing.now.present in
    let net = c.args.net.now.present in
    let a = c.args.beliefs.now in
    let e = c.turn.new.beliefs in
    let (rests, same_told, same_count) = subst (TurnsOrRests s net c.loop.beliefs e c.loop.told c.turn.new.told c.loop.count c.turn.new.counter) c.if-not-branch.true c.in_ok-turn.ensures.ok in
    subst (λ t. IfBegun s net a c.args.told.now (IsSettled net e t c.args.count.now c.turn.new.counter)) (sym same_told)
    (subst (λ n. IfBegun s net a c.args.told.now (IsSettled net e c.loop.told c.args.count.now n)) (sym same_count)
    (settled s net c.loop.beliefs e rests a c.args.told.now c.loop.told c.args.count.now c.loop.count c.loop.invariant.so_far))

pub returns-then-not-branch-clause-counted : goal.returns-then-not-branch-clause-counted
returns-then-not-branch-clause-counted c =
    one_within c.args.standing.now.present c.args.net.now.present c.args.beliefs.now c.loop.beliefs c.args.told.now c.loop.told c.args.count.now c.loop.count c.turn.new.counter
    c.loop.invariant.fit c.loop.invariant.so_far c.in_ok-turn.ensures.counted

pub loop-preserved : goal.loop-preserved
loop-preserved c =
    let s = c.args.standing.now.present in
    let net = c.args.net.now.present in
    let a = c.args.beliefs.now in
    let b = c.loop.beliefs in
    let e = c.turn.new.beliefs in
    let inv = c.loop.invariant in
    let (t, one) = subst (TurnsOrRests s net b e c.loop.told c.turn.new.told c.loop.count c.turn.new.counter) c.if-not-branch.false c.in_ok-turn.ensures.ok in
    record {
      fit = t.fit;
      revising = revising_on s net b e c.loop.told c.turn.new.told inv.revising t;
      weighed = t.weighed inv.weighed;
      covered = c.in_ok-turn.ensures.covered;
      known = c.turn.ensures.known;
      so_far = so_far_on s net a b e c.args.told.now c.loop.told c.turn.new.told c.args.count.now c.loop.count c.turn.new.counter inv.so_far t one;
      numbered = numbered_on s a b e c.args.told.now c.loop.told c.turn.new.told inv.numbered c.in_ok-turn.ensures.numbered;
      rises = counts_on b c.args.count.now c.loop.count c.turn.new.counter inv.rises c.in_ok-turn.ensures.counted;
      last = record { tree = c.in_ok-turn.ensures.last.tree ∙ inv.last.tree; decisions = last_on a.decisions b.decisions e.decisions inv.last.decisions c.in_ok-turn.ensures.last.decisions };
    }

pub returns-clause-counted : goal.returns-clause-counted
returns-clause-counted c =
    so_far_within c.args.standing.now.present c.args.net.now.present c.args.beliefs.now c.loop.beliefs c.args.told.now c.loop.told c.args.count.now c.loop.count c.loop.invariant.so_far

pub returns-then-not-branch-clause-numbered : goal.returns-then-not-branch-clause-numbered
returns-then-not-branch-clause-numbered c =
    numbered_on c.args.standing.now.present c.args.beliefs.now c.loop.beliefs c.turn.new.beliefs c.args.told.now c.loop.told c.turn.new.told c.loop.invariant.numbered c.in_ok-turn.ensures.numbered

pub returns-in_err-turn-clause-last : goal.returns-in_err-turn-clause-last
returns-in_err-turn-clause-last c =
    let last = c.loop.invariant.last in
    let one = c.in_err-turn.ensures.last in
    record { tree = one.tree ∙ last.tree; decisions = last_on c.args.beliefs.now.decisions c.loop.beliefs.decisions c.turn.new.beliefs.decisions last.decisions one.decisions }

pub returns-in_err-turn-clause-rises : goal.returns-in_err-turn-clause-rises
returns-in_err-turn-clause-rises c = (counts_on c.loop.beliefs c.args.count.now c.loop.count c.turn.new.counter c.loop.invariant.rises c.in_err-turn.ensures.counted).0

pub returns-then-not-branch-clause-rises : goal.returns-then-not-branch-clause-rises
returns-then-not-branch-clause-rises c = (counts_on c.loop.beliefs c.args.count.now c.loop.count c.turn.new.counter c.loop.invariant.rises c.in_ok-turn.ensures.counted).0
