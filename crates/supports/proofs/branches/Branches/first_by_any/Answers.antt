use Rattle.std.proofs.Common.{take, sym, subst}
use Rattle.std.specs.Prelude.{slice_index_or}
use Rattle.std.proofs.lemmas.List.{take_more, take_all}
use Rattle.occ_tree.specs.Places.{forest}
use Rattle.supports.specs.Firsts.{IsFirstOf, IsOtherBehind, IsOtherBehindAny}
use Rattle.supports.proofs.Firsts.{none_any, more_any, first_sooner}
use Rattle.supports.proofs.branches.Branches.first_by_any.Goals as goal

pub loop-n-init : goal.loop-n-init
loop-n-init c = none_any c.args.order.now.net.now.present (forest c.args.order.now.tree.now) c.args.rows.now c.args.i

pub first_by-requires-clause-live : goal.first_by-requires-clause-live
first_by-requires-clause-live c = c.requires.live c.loop-n.n 0 c.loop-n-test.true

pub loop-n-preserved : goal.loop-n-preserved
loop-n-preserved c =
    let net = c.args.order.now.net.now.present in
    let f = forest c.args.order.now.tree.now in
    let rows = c.args.rows.now in
    let nodes = c.args.nodes.now in
    let i = c.loop-n.n in
    let z = slice_index_or nodes i 0 in
    subst (λ l. IsFirstOf (IsOtherBehindAny net f rows l c.args.i) c.sooner-first.result) (sym (take_more nodes i 0 c.loop-n-test.true))
    (more_any net f rows c.args.i (take i nodes) z c.sooner-first.result
    (first_sooner (IsOtherBehindAny net f rows (take i nodes) c.args.i) (IsOtherBehind net f rows z c.args.i) c.loop-n.first c.first_by.result c.sooner-first.result c.loop-n.invariant c.first_by.ensures c.sooner-first.ensures))

pub returns : goal.returns
returns c =
    subst (λ l. IsFirstOf (IsOtherBehindAny c.args.order.now.net.now.present (forest c.args.order.now.tree.now) c.args.rows.now l c.args.i) c.loop-n.first)
    (take_all c.loop-n.n c.args.nodes.now c.loop-n-test.false) c.loop-n.invariant
