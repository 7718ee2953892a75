use Rattle.std.proofs.Common.{List, sym, subst}
use Rattle.std.specs.Prelude.{IfOk}
use Rattle.tmm_model.specs.Moments.{Moment}
use Rattle.just_check.specs.Checking.{AreSoFar, EntersAs, IsNoNode}
use Rattle.just_check.specs.Origins.{comes_of, comes_from}
use Rattle.just_check.proofs.Joining.{no_node}
use Rattle.occ_tree.specs.Places.{forest}
use Rattle.just_check.proofs.rows.enter.Goals as goal

pub enter_effect-requires-clause-new : goal.enter_effect-requires-clause-new
enter_effect-requires-clause-new c =
    let f = forest c.args.tree.now in
    let o = c.args.origin.now in
    let (b, so_far, joins) = c.requires.joins in
    subst (λ v. IsNoNode f (comes_of f v o.name)) c.in-Some.is (no_node f b (comes_from f o) so_far.holds joins.new)

pub enter_root-requires-clause-new : goal.enter_root-requires-clause-new
enter_root-requires-clause-new c =
    let f = forest c.args.tree.now in
    let o = c.args.origin.now in
    let (b, so_far, joins) = c.requires.joins in
    subst (λ v. IsNoNode f (comes_of f v o.name)) c.in-None.is (no_node f b (comes_from f o) so_far.holds joins.new)

pub returns-in-Some-clause-enters : goal.returns-in-Some-clause-enters
returns-in-Some-clause-enters c =
    let s = c.args.standing.now.present in
    let net = c.args.net.now.present in
    let f = forest c.args.tree.now in
    let new = forest c.enter_effect.new.tree in
    subst (λ v. IfOk c.enter_effect.result (λ x. (b : List Moment) → AreSoFar s net f b → EntersAs s net.names b (comes_of f v c.args.origin.now.name) f new x))
    (sym c.in-Some.is) c.enter_effect.ensures.enters

pub returns-in-None-clause-enters : goal.returns-in-None-clause-enters
returns-in-None-clause-enters c =
    let s = c.args.standing.now.present in
    let net = c.args.net.now.present in
    let f = forest c.args.tree.now in
    let new = forest c.enter_root.new.tree in
    subst (λ v. IfOk c.enter_root.result (λ x. (b : List Moment) → AreSoFar s net f b → EntersAs s net.names b (comes_of f v c.args.origin.now.name) f new x))
    (sym c.in-None.is) c.enter_root.ensures.enters
