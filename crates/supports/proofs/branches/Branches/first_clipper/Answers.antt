use Rattle.std.proofs.Common.{sym, subst}
use Rattle.spots.specs.Forest.{IsLive}
use Rattle.occ_tree.specs.Places.{forest}
use Rattle.supports.specs.Entries.{node_at}
use Rattle.supports.specs.Under.{IsWay}
use Rattle.supports.specs.Firsts.{IsFirstOf, IsOtherBehindAny}
use Rattle.supports.proofs.BranchesEntering.{node_live, node_read, spot_read}
use Rattle.supports.proofs.Firsts.{first_clip, first_sooner}
use Rattle.supports.proofs.branches.Branches.first_clipper.Goals as goal

pub node_of-requires : goal.node_of-requires
node_of-requires c =
    let (class, are) = c.requires.tokens in
    (node_at c.args.rows.now c.args.i, spot_read (forest c.args.order.now.tree.now) class c.args.rows.now are c.args.i c.requires.within c.index-rows-i.result c.index-rows-i.is)

pub way_to-requires : goal.way_to-requires
way_to-requires c =
    let (class, are) = c.requires.tokens in
    let f = forest c.args.order.now.tree.now in
    let rows = c.args.rows.now in
    subst (IsLive f) (sym (node_read f class rows are c.args.i c.requires.within c.index-rows-i.result c.index-rows-i.is c.node_of.result c.node_of.ensures)) (node_live f class rows are c.args.i c.requires.within)

pub returns : goal.returns
returns c =
    let (class, are) = c.requires.tokens in
    let net = c.args.order.now.net.now.present in
    let f = forest c.args.order.now.tree.now in
    let rows = c.args.rows.now in
    let i = c.args.i in
    let way = c.in_ok-way.way.items in
    let roots = c.args.self.now.roots.items in
    let node = node_read f class rows are i c.requires.within c.index-rows-i.result c.index-rows-i.is c.node_of.result c.node_of.ensures in
    let own = subst (λ l. IsFirstOf (IsOtherBehindAny net f rows l i) c.first_by_any-own.result) c.deref.ensures.value c.first_by_any-own.ensures in
    let other = subst (λ l. IsFirstOf (IsOtherBehindAny net f rows l i) c.first_by_any-other.result) c.deref-2.ensures.value c.first_by_any-other.ensures in
    first_clip net f c.requires.dates.list class rows are i c.requires.within way roots (subst (λ x. IsWay f x way) node c.in_ok-way.ensures) c.requires.branches.roots c.sooner.result
    (first_sooner (IsOtherBehindAny net f rows way i) (IsOtherBehindAny net f rows roots i) c.first_by_any-own.result c.first_by_any-other.result c.sooner.result own other c.sooner.ensures)
