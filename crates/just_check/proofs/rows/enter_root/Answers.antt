use Rattle.std.proofs.Common.{◌∙◌, List, sym, ap}
use Rattle.std.specs.Prelude.{Result, Ok, Err, IfOk, OnOk}
use Rattle.std.specs.Option.{option_copied}
use Rattle.std.proofs.lemmas.Result.{IfOk-weaker}
use Rattle.tmm_model.specs.declared.point.PointName.TheVariants.{Begin}
use Rattle.tmm_model.specs.Moments.{Moment, At}
use Rattle.spots.specs.Growing.{AddsRoot}
use Rattle.just_check.specs.Checking.{AreSoFar, EntersAs}
use Rattle.just_check.proofs.Joining.{no_premise, premise_stands, no_root_for, root_enters, root_in}
use Rattle.spots.specs.OfLists.{HasList}
use Rattle.occ_tree.specs.Dated.{IsDatedBy}
use Rattle.occ_tree.specs.Places.{forest}
use Rattle.occ_tree.specs.Standing.{present}
use Rattle.just_check.proofs.rows.enter_root.Goals as goal

pub add_root-requires-clause-stands : goal.add_root-requires-clause-stands
add_root-requires-clause-stands c =
    let (b, so_far) = c.requires.before in
    premise_stands c.args.standing.now.present c.args.net.now.present (forest c.args.tree.now) (forest c.args.tree.now) b so_far c.args.name c.requires.new c.in-Some.premise.now (sym c.in-Some.ensures)

pub add_root-requires-clause-new : goal.add_root-requires-clause-new
add_root-requires-clause-new c =
    let (b, so_far) = c.requires.before in
    no_root_for c.args.standing.now.present c.args.net.now.present (forest c.args.tree.now) (forest c.args.tree.now) b so_far c.args.name c.requires.new c.in-Some.premise.now (sym c.in-Some.ensures)

pub returns-in-Some-clause-enters : goal.returns-in-Some-clause-enters
returns-in-Some-clause-enters c =
    let s = c.args.standing.now.present in
    let net = c.args.net.now.present in
    let f = forest c.args.tree.now in
    let new = forest c.add_root.new.tree in
    IfOk-weaker c.add_root.result (AddsRoot s net.names c.in-Some.premise.now f new)
    (λ x. (b : List Moment) → AreSoFar s net f b → EntersAs s net.names b (At (Begin c.args.name)) f new x)
    (λ x adds b so_far. root_enters s net f new b so_far c.args.name c.requires.new c.in-Some.premise.now (sym c.in-Some.ensures) x adds)
    c.add_root.ensures.adds

pub returns-in-None-clause-enters : goal.returns-in-None-clause-enters
returns-in-None-clause-enters c b so_far =
    no_premise c.args.standing.now.present c.args.net.now.present (forest c.args.tree.now) (forest c.args.tree.now) b so_far c.args.name c.requires.new (sym c.get.ensures ∙ ap option_copied c.in-None.is)

kept_on : {T E : Type 0} (P : T → Type 0) (A B : Type 0) (r : Result T E) → ((x : T) → P x → A → B) → IfOk r P → OnOk r A → OnOk r B
kept_on P A B (Ok x) f p a = f x p a
kept_on P A B (Err e) f p a = tt

pub returns-in-Some-clause-dated : goal.returns-in-Some-clause-dated
returns-in-Some-clause-dated c =
    let s = c.args.standing.now.present in
    let net = c.args.net.now.present in
    let f = forest c.args.tree.now in
    let new = forest c.add_root.new.tree in
    let (b, so_far) = c.requires.before in
    kept_on (AddsRoot s net.names c.in-Some.premise.now f new)
    (HasList net new → IsDatedBy net (present c.args.tree.now) → IsDatedBy net (present c.add_root.new.tree))
    (IsDatedBy net (present c.args.tree.now) → IsDatedBy net (present c.add_root.new.tree)) c.add_root.result
    (λ x adds keep dated. keep (root_in s net f new b so_far c.args.name c.requires.new c.in-Some.premise.now (sym c.in-Some.ensures) x adds) dated)
    c.add_root.ensures.adds c.add_root.ensures.dated
