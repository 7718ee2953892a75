use Rattle.std.proofs.Common.{◌∙◌, ap, sym}
use Rattle.tmm_model.specs.Beliefs.{roots}
use Rattle.list_net.proofs.Networks.{at_start}
use Rattle.occ_tree.specs.Places.{forest}
use Rattle.belief_net.specs.Updating.{IsKept}
use Rattle.map_engine.proofs.Reading.{no_nodes}
use Rattle.map_engine.proofs.NetMaps.{empty_held}
use Rattle.map_engine.proofs.net_map.NetMap.make.Goals as goal

pub first_map-requires-clause-settled : goal.first_map-requires-clause-settled
first_map-requires-clause-settled c = record {
  list = c.make-standing.ensures.present ∙ sym c.make-standing.ensures.committed;
  net = c.in_ok-net.ensures.present ∙ sym c.in_ok-net.ensures.committed;
}

pub first_map-requires-clause-held : goal.first_map-requires-clause-held
first_map-requires-clause-held c =
    let s = c.make-standing.result.present in
    empty_held s c.in_ok-net.net.present c.make-standing.ensures.present
    (at_start s c.in_ok-net.net.present c.make-standing.ensures.present c.in_ok-net.ensures.present c.invariants.ensures.distinct c.invariants.ensures.start c.invariants.ensures.in_use c.invariants.ensures.dates)

pub first_map-requires-clause-kept : goal.first_map-requires-clause-kept
first_map-requires-clause-kept c =
    let s = c.make-standing.result.present in
    let n = c.in_ok-net.net.present in
    c.make-nodes.ensures.kept s n
    (at_start s n c.make-standing.ensures.present c.in_ok-net.ensures.present c.invariants.ensures.distinct c.invariants.ensures.start c.invariants.ensures.in_use c.invariants.ensures.dates) (ap roots c.make-standing.ensures.present)

pub first_map-requires-clause-empty : goal.first_map-requires-clause-empty
first_map-requires-clause-empty c =
    let s = c.make-standing.result.present in
    let n = c.in_ok-net.net.present in
    let kept : IsKept s n c.make-nodes.result =
    c.make-nodes.ensures.kept s n
    (at_start s n c.make-standing.ensures.present c.in_ok-net.ensures.present c.invariants.ensures.distinct c.invariants.ensures.start c.invariants.ensures.in_use c.invariants.ensures.dates) (ap roots c.make-standing.ensures.present) in
    no_nodes s n (forest c.make-nodes.result.tree) kept.fit.tree.seen (ap roots c.make-standing.ensures.present)
