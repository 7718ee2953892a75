use Rattle.std.proofs.Common.{◌≡◌, take, sym, subst, arith}
use Rattle.std.proofs.lemmas.List.{take_all}
use Rattle.spots.proofs.Grown.{stands}
use Rattle.occ_tree.specs.Places.{forest}
use Rattle.bearing.specs.Reach.{Notes}
use Rattle.bearing.specs.Watched.{IsSpotAgainst}
use Rattle.bearing.proofs.WatchedPoints.{against_none, against_next, take_next}
use Rattle.bearing.proofs.points_of_rule.note_rivals.Goals as goal

pub loop-place-init : goal.loop-place-init
loop-place-init c = against_none (forest c.args.tree.now) c.args.facts.now c.args.reach.now

pub note_said-requires-clause-stands : goal.note_said-requires-clause-stands
note_said-requires-clause-stands c = stands c.args.standing.now.present.premises c.loop-place.place c.in-Some.premise.now (sym c.in-Some.ensures)

pub loop-place-preserved : goal.loop-place-preserved
loop-place-preserved c =
    let premises = c.args.standing.now.present.premises in
    let f = forest c.args.tree.now in
    let facts = c.args.facts.now in
    let place = c.loop-place.place in
    let premise = c.in-Some.premise.now in
    subst (λ l. Notes f (IsSpotAgainst f facts l) c.args.reach.now c.note_said.new.reach) (sym (take_next premises place premise (sym c.in-Some.ensures)))
    (against_next f facts (take place premises) premise c.args.reach.now c.loop-place.reach c.note_said.new.reach c.loop-place.invariant c.note_said.ensures)

pub returns : goal.returns
returns c =
    let premises = c.args.standing.now.present.premises in
    let f = forest c.args.tree.now in
    let all : take c.loop-place.place premises ≡ premises = take_all c.loop-place.place premises (omega (arith, c.loop-place-test.false, c.len-place-end.ensures.value)) in
    subst (λ l. Notes f (IsSpotAgainst f c.args.facts.now l) c.args.reach.now c.loop-place.reach) all c.loop-place.invariant
