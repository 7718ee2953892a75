use Rattle.std.proofs.Common.{◌≡◌, get_or, take, sym, subst, arith}
use Rattle.std.specs.Prelude.{IsSome}
use Rattle.std.proofs.lemmas.List.{take_more, take_all}
use Rattle.tmm_model.specs.Beliefs.{class_of}
use Rattle.tmm_model.specs.Sorts.{class_in}
use Rattle.occ_tree.specs.Places.{forest}
use Rattle.joined.specs.Gaps.{IsClassSpot}
use Rattle.bearing.specs.Reach.{Notes}
use Rattle.bearing.specs.Watched.{IsSpotRead}
use Rattle.bearing.proofs.WatchedPoints.{read_none, read_next}
use Rattle.bearing.proofs.points_of_rule.note_read.Goals as goal

pub loop-i-init : goal.loop-i-init
loop-i-init c = read_none c.args.standing.now.present (forest c.args.tree.now) c.args.reach.now

pub note_class_of-requires-clause-declared : goal.note_class_of-requires-clause-declared
note_class_of-requires-clause-declared c =
    subst (λ fact. IsSome (class_in c.args.standing.now.present.premises fact)) (sym c.index-facts-i.is) (c.requires.declared c.loop-i.i c.index-facts-i.result c.loop-i-test.true)

pub loop-i-preserved : goal.loop-i-preserved
loop-i-preserved c =
    let s = c.args.standing.now.present in
    let f = forest c.args.tree.now in
    let facts = c.args.facts.now in
    let i = c.loop-i.i in
    subst (λ l. Notes f (IsSpotRead s f l) c.args.reach.now c.note_class_of.new.reach) (sym (take_more facts i c.index-facts-i.result c.loop-i-test.true))
    (read_next s f (take i facts) (get_or facts i c.index-facts-i.result) c.args.reach.now c.loop-i.reach c.note_class_of.new.reach c.loop-i.invariant
    (subst (λ z. Notes f (IsClassSpot f (class_of s z)) c.loop-i.reach c.note_class_of.new.reach) c.index-facts-i.is c.note_class_of.ensures))

pub returns : goal.returns
returns c =
    let f = forest c.args.tree.now in
    let facts = c.args.facts.now in
    let all : take c.loop-i.i facts ≡ facts = take_all c.loop-i.i facts (omega arith) in
    subst (λ l. Notes f (IsSpotRead c.args.standing.now.present f l) c.args.reach.now c.loop-i.reach) all c.loop-i.invariant
