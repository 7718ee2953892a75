use Rattle.std.specs.List.{Contains}
use Rattle.tmm_model.specs.Moments.{moment_of}
use Rattle.occ_tree.specs.Places.{forest}
use Rattle.map_engine.specs.Touching.{HasNodeOf}
use Rattle.map_engine.proofs.Finding.{found_node, no_node, on_ok}
use Rattle.map_engine.proofs.touching.push_node.Goals as goal

pub returns-in-None-clause-pushed : goal.returns-in-None-clause-pushed
returns-in-None-clause-pushed c = no_node (forest c.args.tree.now) (moment_of c.args.occ.now) c.args.found.now.items c.in-None.ensures

pub returns-in-Some-clause-pushed : goal.returns-in-Some-clause-pushed
returns-in-Some-clause-pushed c =
    let f = forest c.args.tree.now in
    let k = moment_of c.args.occ.now in
    let numbers = c.push.new.found.items in
    let (m, here, is) = c.in-Some.ensures in
    on_ok (Contains numbers c.in-Some.x) (HasNodeOf f k numbers) (found_node f k c.in-Some.x m numbers c.requires here is) c.push.result c.push.ensures.pushed
