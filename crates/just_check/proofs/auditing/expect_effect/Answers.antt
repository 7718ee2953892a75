use Rattle.std.proofs.Common.{◌≡◌, ◌∙◌, ◌∷◌, [], List, Some, true, false, sym}
use Rattle.std.proofs.lemmas.Result.{on_ok_weaker}
use Rattle.tmm_model.specs.Moments.{Moment}
use Rattle.list_theory.proofs.Elements.{Contains-from_In}
use Rattle.spots.specs.Forest.{moment_at}
use Rattle.spots.specs.OfLists.{HasOccurrences}
use Rattle.occ_tree.specs.Places.{forest}
use Rattle.just_check.specs.declared.expected.Origin.{Origin}
use Rattle.just_check.specs.Checking.{FiresIn, AwaitsMore}
use Rattle.just_check.specs.Origins.{Awaits}
use Rattle.just_check.proofs.Expecting.{more_none, more_one}
use Rattle.just_check.proofs.Joining.{one_of}
use Rattle.just_check.proofs.auditing.expect_effect.Goals as goal

pub returns : goal.returns
returns c =
    let s = c.args.map.now.standing.now.present in
    let f = forest c.args.map.now.tree.now in
    let r = c.args.rule in
    let old = c.args.expected.now in
    let new = c.add.new.self in
    let o : Origin = record { event = Some c.args.x; name = r } in
    let more : Awaits old new o → (b : List Moment) → HasOccurrences b f → AwaitsMore s f b c.args.x (r ∷ []) old new = λ awaits b holds.
    let then_fires = (c.does_fire.ensures b holds).0 c.if-not-does_fire.false in
    let fires : FiresIn s b (moment_at f c.args.x) r = record { believed = Contains-from_In b (moment_at f c.args.x) (one_of f b c.args.x holds c.requires.live); stands = c.requires.rule; in_time = then_fires.0; free = then_fires.1 } in
    more_one s f b c.args.x r old new fires awaits in
    on_ok_weaker c.add.result more c.add.ensures

pub returns-then-not-does_fire : goal.returns-then-not-does_fire
returns-then-not-does_fire c b holds =
    more_none c.args.map.now.standing.now.present (forest c.args.map.now.tree.now) b c.args.x c.args.rule c.args.expected.now
    (λ fires. let never : true ≡ false = sym ((c.does_fire.ensures b holds).1 (fires.in_time, fires.free)) ∙ c.if-not-does_fire.true in cc)
