use Rattle.std.proofs.Common.{◌≡◌, ◌++◌, map, ap, subst}
use Rattle.std.proofs.lemmas.Result.{on_ok_weaker}
use Rattle.tmm_model.specs.Moments.{is_derived}
use Rattle.tmm_model.specs.Standing.{Standing}
use Rattle.spots.specs.Forest.{moment_at}
use Rattle.occ_tree.specs.Places.{forest}
use Rattle.belief_turns.specs.Leaving.{TakesAway}
use Rattle.belief_turns.specs.Numbered.{StayNumbered, left_under}
use Rattle.belief_turns.specs.Telling.{TellsExits}
use Rattle.belief_turns.specs.Turns.{Withdraws}
use Rattle.belief_turns.proofs.Numbering.{exit_numbered}
use Rattle.belief_turns.proofs.following.withdraw_effect.Goals as goal

pub returns-clause-ok : goal.returns-clause-ok
returns-clause-ok c =
    let list = c.args.standing.now.present in
    let net = c.args.net.now.present in
    let old = c.args.beliefs.now in
    let new = c.take_away.new.beliefs in
    let (m, at, is) = c.in-Some.ensures in
    let numbers = c.in_ok-numbers.numbers.items in
    on_ok_weaker {P = TakesAway list net c.in-Some.effect c.as_slice-2.result.now old new} {Q = Withdraws list net c.args.trigger c.args.rule.now old new c.args.told.now c.leave.new.self} c.take_away.result
    (λ takes. record {
      number = c.in-Some.effect;
      node = m;
      here = at;
      is = is;
      numbers = numbers;
      takes = subst (λ l. TakesAway list net c.in-Some.effect l old new) c.as_slice-2.ensures.value takes;
      once = c.in_ok-numbers.ensures.once;
      tells = subst (λ l. TellsExits old.tree l c.args.told.now c.leave.new.self) c.as_slice.ensures.value c.in_ok-leave.ensures.ok;
    })
    c.take_away.ensures.ok

pub returns-clause-numbered : goal.returns-clause-numbered
returns-clause-numbered c =
    let list = c.args.standing.now.present in
    let net = c.args.net.now.present in
    let old = c.args.beliefs.now in
    let new = c.take_away.new.beliefs in
    let told = c.args.told.now in
    let told_after = c.leave.new.self in
    let (m, at, is) = c.in-Some.ensures in
    let numbers = c.in_ok-numbers.numbers.items in
    on_ok_weaker {P = TakesAway list net c.in-Some.effect c.as_slice-2.result.now old new} {Q = (s : Standing) → StayNumbered s old new told told_after} c.take_away.result
    (λ takes s.
    exit_numbered list s net old new c.in-Some.effect m numbers told told_after at (ap is_derived is)
    (subst (λ l. TakesAway list net c.in-Some.effect l old new) c.as_slice-2.ensures.value takes)
    (subst (λ l. left_under told_after.left.items ≡ left_under told.left.items ++ map (λ y. (y, moment_at (forest old.tree) y)) l) c.as_slice.ensures.value c.in_ok-leave.ensures.numbers))
    c.take_away.ensures.ok
