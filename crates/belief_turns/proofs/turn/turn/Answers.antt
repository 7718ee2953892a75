use Rattle.std.proofs.Common.{◌≡◌, ℕ, None, refl, sym, subst}
use Rattle.std.proofs.lemmas.Result.{err_from_is_err_and}
use Rattle.std.specs.Prelude.{IsSome, MatchOption}
use Rattle.belief_turns.specs.Turning.{IsDecided}
use Rattle.belief_table.specs.Waiting.{dates_in}
use Rattle.belief_turns.proofs.Numbering.{same_numbered, numbered_on}
use Rattle.belief_turns.proofs.turn.turn.Goals as goal

pub returns-in_err-follow-in-Ok-Some-clause-stops : goal.returns-in_err-follow-in-Ok-Some-clause-stops
returns-in_err-follow-in-Ok-Some-clause-stops c =
    let s = c.args.standing.now.present in
    let b = c.args.beliefs.now in
    let decided =
    subst (λ due. MatchOption due ((i : ℕ) → dates_in b.decisions.waiting i ≡ None) (IsDecided s b c.decide_first.new.beliefs)) c.in-Ok-Some.field-0-is c.in-Ok-Some.ensures.decided in
    let p = err_from_is_err_and c.from_residual.result c.from_residual.ensures.1 in
    rw (p.1, p.2) (c.in_err-follow-in-Ok-Some.ensures.stops b (record { fit = c.requires.fit; revising = c.requires.revising; decided = decided }))

pub returns-in_ok-follow-in-Ok-Some-clause-ok : goal.returns-in_ok-follow-in-Ok-Some-clause-ok
returns-in_ok-follow-in-Ok-Some-clause-ok c =
    let b = c.args.beliefs.now in
    let decided = subst (λ due. MatchOption due ((i : ℕ) → dates_in b.decisions.waiting i ≡ None) (IsDecided c.args.standing.now.present b c.decide_first.new.beliefs)) c.in-Ok-Some.field-0-is c.in-Ok-Some.ensures.decided in (
      c.in_ok-follow-in-Ok-Some.ensures.ok b (record { fit = c.requires.fit; revising = c.requires.revising; decided = decided }),
      c.in-Ok-Some.ensures.counted (subst IsSome (sym c.in-Ok-Some.field-0-is) refl),
    )

pub returns-in_ok-follow-in-Ok-Some-clause-numbered : goal.returns-in_ok-follow-in-Ok-Some-clause-numbered
returns-in_ok-follow-in-Ok-Some-clause-numbered c =
    let s = c.args.standing.now.present in
    let b = c.args.beliefs.now in
    let mid = c.decide_first.new.beliefs in
    let told = c.args.told.now in
    let decided =
    subst (λ due. MatchOption due ((i : ℕ) → dates_in b.decisions.waiting i ≡ None) (IsDecided s b mid)) c.in-Ok-Some.field-0-is c.in-Ok-Some.ensures.decided in
    numbered_on s b mid c.follow.new.beliefs told told c.follow.new.told (same_numbered s b mid told decided.tree) c.in_ok-follow-in-Ok-Some.ensures.numbered

pub returns-in-Ok-None-clause-numbered : goal.returns-in-Ok-None-clause-numbered
returns-in-Ok-None-clause-numbered c =
    same_numbered c.args.standing.now.present c.args.beliefs.now c.decide_first.new.beliefs c.args.told.now (c.in-Ok-None.ensures.rests c.in-Ok-None.field-0-is).tree
