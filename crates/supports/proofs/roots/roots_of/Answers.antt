use Rattle.std.proofs.Common.{sym, subst, arith}
use Rattle.std.specs.List.{All}
use Rattle.std.proofs.lemmas.List.Elements.{All-nil}
use Rattle.spots.specs.Forest.{IsLive}
use Rattle.occ_tree.specs.Places.{forest}
use Rattle.supports.specs.Under.{IsRootOf}
use Rattle.supports.specs.Entries.{node_at}
use Rattle.supports.proofs.BranchesEntering.{root_told, root_more, spot_read, node_live, node_read}
use Rattle.supports.proofs.roots.roots_of.Goals as goal

pub loop-place-init : goal.loop-place-init
loop-place-init c = record { live = subst (All (IsLive (forest c.args.tree.now))) (sym c.new-roots.ensures.items) (All-nil (IsLive (forest c.args.tree.now))); all = λ i lt. absurd (omega (arith, lt)) }

pub node_of-requires : goal.node_of-requires
node_of-requires c =
    let (class, are) = c.requires.tokens in
    let rows = c.args.rows.now in
    let place = c.loop-place.place in
    (node_at rows place, spot_read (forest c.args.tree.now) class rows are place c.loop-place-test.true c.index-rows-place.result c.index-rows-place.is)

pub row-root-requires : goal.row-root-requires
row-root-requires c =
    let (class, are) = c.requires.tokens in
    let f = forest c.args.tree.now in
    let rows = c.args.rows.now in
    let place = c.loop-place.place in
    subst (IsLive f) (sym (node_read f class rows are place c.loop-place-test.true c.index-rows-place.result c.index-rows-place.is c.node_of.result c.node_of.ensures)) (node_live f class rows are place c.loop-place-test.true)

pub loop-place-preserved : goal.loop-place-preserved
loop-place-preserved c =
    let (class, are) = c.requires.tokens in
    let f = forest c.args.tree.now in
    let rows = c.args.rows.now in
    let place = c.loop-place.place in
    let node = node_read f class rows are place c.loop-place-test.true c.index-rows-place.result c.index-rows-place.is c.node_of.result c.node_of.ensures in
    let root = subst (IsRootOf f c.row-root.result.root) node (root_told f c.node_of.result (subst (IsLive f) (sym node) (node_live f class rows are place c.loop-place-test.true)) c.row-root.result c.row-root.ensures) in
    root_more f rows place c.loop-place.roots.items c.loop-place.invariant c.row-root.result.root root c.list.new.numbers.items c.in_ok-list.ensures

pub returns : goal.returns
returns c = record { live = c.loop-place.invariant.live; all = λ i lt. c.loop-place.invariant.all i (omega (arith, lt, c.loop-place-test.false)) }
