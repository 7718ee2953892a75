use Rattle.std.proofs.Common.{◌≡◌, ◌+◌, None, sym, subst}
use Rattle.std.proofs.lemmas.Result.{on_ok_weaker}
use Rattle.occ_tree.specs.Places.{forest}
use Rattle.occ_tree.specs.Standing.{present}
use Rattle.projection.specs.Queues.{weight_at, IsTooLarge}
use Rattle.projection.proofs.Ends.{err_kept}
use Rattle.marking.specs.Covered.{Covers}
use Rattle.belief_turns.specs.Numbered.{StayNumbered, then_forest}
use Rattle.belief_turns.specs.Telling.{TellsEntry}
use Rattle.belief_turns.specs.Turns.{IsTurned, IsStopped}
use Rattle.belief_turns.proofs.After.{fit_after, enters_after}
use Rattle.belief_turns.proofs.Numbering.{entry_numbered}
use Rattle.belief_turns.proofs.Telling.{entry_turned, entry_stops}
use Rattle.belief_turns.proofs.following.bring_effect.Goals as goal

pub bring_about-requires-clause-enters : goal.bring_about-requires-clause-enters
bring_about-requires-clause-enters c =
    let (b, after) = c.requires.after in
    enters_after c.args.standing.now.present c.args.net.now.present b c.args.beliefs.now c.args.due.now after c.requires.horizon c.requires.fires c.requires.fired

pub bring_about-requires-clause-tree : goal.bring_about-requires-clause-tree
bring_about-requires-clause-tree c =
    let (b, after) = c.requires.after in
    (fit_after c.args.standing.now.present c.args.net.now.present b c.args.beliefs.now c.args.due.now after).tree

pub bring_about-requires-clause-events : goal.bring_about-requires-clause-events
bring_about-requires-clause-events c =
    let (b, after) = c.requires.after in
    (fit_after c.args.standing.now.present c.args.net.now.present b c.args.beliefs.now c.args.due.now after).events

pub bring_about-requires-clause-under : goal.bring_about-requires-clause-under
bring_about-requires-clause-under c =
    let (b, after) = c.requires.after in
    (fit_after c.args.standing.now.present c.args.net.now.present b c.args.beliefs.now c.args.due.now after).under

pub returns-in-Ok-clause-ok : goal.returns-in-Ok-clause-ok
returns-in-Ok-clause-ok c =
    let s = c.args.standing.now.present in
    let net = c.args.net.now.present in
    let old = c.args.beliefs.now in
    let e = c.bring_about.new.beliefs in
    let due = c.args.due.now in
    on_ok_weaker {P = TellsEntry s e.tree c.in-Ok.effect c.args.told.now c.enter.new.self} {Q = IsTurned s net old e due c.args.told.now c.enter.new.self} c.enter.result
    (λ tells b after.
    let (brings, same) = c.in-Ok.ensures.number in
    entry_turned s net b old e due after c.requires.fires c.requires.fired brings c.in-Ok.ensures.last.decisions c.args.told.now c.enter.new.self
    (subst (λ x. TellsEntry s e.tree x c.args.told.now c.enter.new.self) (sym same) tells))
    c.enter.ensures.ok

pub returns-in-Ok-clause-covered : goal.returns-in-Ok-clause-covered
returns-in-Ok-clause-covered c =
    let e = c.bring_about.new.beliefs in
    on_ok_weaker {P = TellsEntry c.args.standing.now.present e.tree c.in-Ok.effect c.args.told.now c.enter.new.self} {Q = Covers c.args.standing.now.present (present e.tree) e.decisions c.bring_about.new.marks} c.enter.result
    (λ tells. c.in-Ok.ensures.covered) c.enter.ensures.ok

pub returns-in-Ok-clause-stops : goal.returns-in-Ok-clause-stops
returns-in-Ok-clause-stops c =
    let s = c.args.standing.now.present in
    let net = c.args.net.now.present in
    let old = c.args.beliefs.now in
    let e = c.bring_about.new.beliefs in
    let due = c.args.due.now in
    err_kept c.enter.result (IsTooLarge (c.args.told.now.weight + weight_at s (forest e.tree) c.in-Ok.effect)) (IsStopped s net old due c.args.told.now) c.enter.ensures.stops
    (λ stop large b after.
    let (brings, same) = c.in-Ok.ensures.number in
    entry_stops s net b old e due after c.requires.fires c.requires.fired brings c.in-Ok.ensures.last.decisions c.args.told.now stop
    (subst (λ x. IsTooLarge (c.args.told.now.weight + weight_at s (forest e.tree) x) stop) (sym same) large))

pub returns-in-Ok-clause-numbered : goal.returns-in-Ok-clause-numbered
returns-in-Ok-clause-numbered c =
    let s = c.args.standing.now.present in
    let net = c.args.net.now.present in
    let old = c.args.beliefs.now in
    let e = c.bring_about.new.beliefs in
    let due = c.args.due.now in
    let (brings, same) = c.in-Ok.ensures.number in
    let free = subst (λ x. then_forest old.tree x ≡ None) (sym same) c.in-Ok.ensures.was_free in
    on_ok_weaker {P = TellsEntry s e.tree c.in-Ok.effect c.args.told.now c.enter.new.self} {Q = StayNumbered s old e c.args.told.now c.enter.new.self} c.enter.result
    (λ tells. entry_numbered s net due.trigger due.rule old e c.args.told.now c.enter.new.self brings free c.in-Ok.ensures.last c.enter.ensures.left)
    c.enter.ensures.ok
