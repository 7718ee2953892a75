use Rattle.std.proofs.Common.{◌∙◌, ◌+◌, ◌<◌, ◌++◌, map, length, ap, sym, subst, arith}
use Rattle.std.specs.List.{All}
use Rattle.supports.specs.declared.entries.Entry.{Entry}
use Rattle.std.proofs.lemmas.List.Elements.{All-nil}
use Rattle.spots.specs.Forest.{IsLive}
use Rattle.occ_tree.specs.Places.{forest}
use Rattle.supports.specs.Under.{IsUnder, IsWay}
use Rattle.supports.specs.Entries.{node_at}
use Rattle.supports.proofs.BranchesEntering.{AreEntriesTo, made_at, one_more, spot_read, node_live, node_read}
use Rattle.supports.proofs.entries.gathered.Goals as goal

pub loop-place-init : goal.loop-place-init
loop-place-init c = record {
  own = subst (All (λ (e : Entry). (e.place < length c.args.rows.now) × IsUnder (forest c.args.tree.now) e.node (node_at c.args.rows.now e.place))) (sym c.new-entries.ensures.items) (All-nil (λ (e : Entry). (e.place < length c.args.rows.now) × IsUnder (forest c.args.tree.now) e.node (node_at c.args.rows.now e.place)));
  all = λ x i lt u. absurd (omega (arith, lt));
}

pub node_of-requires : goal.node_of-requires
node_of-requires c =
    let (class, are) = c.requires.tokens in
    let rows = c.args.rows.now in
    let place = c.loop-place.place in
    (node_at rows place, spot_read (forest c.args.tree.now) class rows are place c.loop-place-test.true c.index-rows-place.result c.index-rows-place.is)

pub way_to-requires : goal.way_to-requires
way_to-requires c =
    let (class, are) = c.requires.tokens in
    let f = forest c.args.tree.now in
    let rows = c.args.rows.now in
    let place = c.loop-place.place in
    subst (IsLive f) (sym (node_read f class rows are place c.loop-place-test.true c.index-rows-place.result c.index-rows-place.is c.node_of.result c.node_of.ensures)) (node_live f class rows are place c.loop-place-test.true)

pub loop-place-preserved : goal.loop-place-preserved
loop-place-preserved c =
    let (class, are) = c.requires.tokens in
    let f = forest c.args.tree.now in
    let rows = c.args.rows.now in
    let place = c.loop-place.place in
    let node = node_read f class rows are place c.loop-place-test.true c.index-rows-place.result c.index-rows-place.is c.node_of.result c.node_of.ensures in
    subst (AreEntriesTo f rows (place + 1)) (ap (λ l. c.loop-place.entries.items ++ map (made_at place) l) (sym c.deref.ensures.value) ∙ sym c.in_ok-put_under.ensures)
    (one_more f c.requires.once rows place c.loop-place-test.true c.loop-place.entries.items c.loop-place.invariant c.in_ok-way.way.items (subst (λ x. IsWay f x c.in_ok-way.way.items) node c.in_ok-way.ensures))

pub returns : goal.returns
returns c = record {
  own = c.loop-place.invariant.own;
  all = λ x i lt u. c.loop-place.invariant.all x i (omega (arith, lt, c.loop-place-test.false)) u;
}
