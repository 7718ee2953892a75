use Rattle.std.proofs.Common.{◌∙◌, sym}
use Rattle.std.specs.List.{Contains}
use Rattle.tmm_model.specs.Moments.{moment_of}
use Rattle.spots.proofs.Nodes.{node_at, moment_at-is}
use Rattle.occ_tree.specs.Places.{forest}
use Rattle.map_engine.specs.Touching.{HasNodeOf}
use Rattle.map_engine.proofs.Finding.{found_node, on_ok}
use Rattle.map_engine.proofs.touching.push_occ.Goals as goal

pub returns-then-is_at-clause-pushed : goal.returns-then-is_at-clause-pushed
returns-then-is_at-clause-pushed c =
    let f = forest c.args.tree.now in
    let x = c.args.new.now.node in
    let k = moment_of c.args.new.now.occ in
    let numbers = c.push.new.found.items in
    let (live, is) = c.is_at.ensures c.if-is_at.true in
    let (m, here) = node_at f x live in
    on_ok (Contains numbers x) (HasNodeOf f k numbers) (found_node f k x m numbers c.requires here (sym (moment_at-is f x m here) ∙ is)) c.push.result c.push.ensures.pushed
