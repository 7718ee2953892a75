use Rattle.belief_table.specs.declared.state.Beliefs.{Beliefs}
use Rattle.belief_net.proofs.Rooted.{follows_fit, root_fit, root_live, root_enters, skipped_fit, skipped_enters}
use Rattle.belief_net.proofs.rooting.enter_root.Goals as goal

pub follow_root-requires-clause-fit : goal.follow_root-requires-clause-fit
follow_root-requires-clause-fit c =
    let e = c.in_ok-entered.ensures in
    (c.args.net.now.present, root_fit c.args.standing.now.present c.args.net.now.present c.args.premise.now c.args.beliefs.now c.add_root.new.tree c.requires.fit c.requires.new c.in_ok-entered.entered e.adds e.enters e.dated c.in-Some.x c.in-Some.is)

pub follow_root-requires-clause-node : goal.follow_root-requires-clause-node
follow_root-requires-clause-node c =
    let e = c.in_ok-entered.ensures in
    root_live c.args.standing.now.present c.args.net.now.present c.args.premise.now c.args.beliefs.now c.add_root.new.tree c.requires.fit c.requires.new c.in_ok-entered.entered e.adds e.enters e.dated c.in-Some.x c.in-Some.is

pub returns-in_ok-follow_root-in-Some-clause-enters : goal.returns-in_ok-follow_root-in-Some-clause-enters
returns-in_ok-follow_root-in-Some-clause-enters c =
    let e = c.in_ok-entered.ensures in
    root_enters c.args.standing.now.present c.args.net.now.present c.args.premise.now c.args.beliefs.now c.add_root.new.tree c.requires.fit c.requires.new c.in_ok-entered.entered e.adds e.enters e.dated c.in-Some.x c.in-Some.is
    c.follow_root.new.decisions c.first.ensures.listed c.in_ok-follow_root-in-Some.ensures.follows

pub returns-in_ok-follow_root-in-Some-clause-fit : goal.returns-in_ok-follow_root-in-Some-clause-fit
returns-in_ok-follow_root-in-Some-clause-fit c =
    let s = c.args.standing.now.present in
    let net = c.args.net.now.present in
    let e = c.in_ok-entered.ensures in
    let b : Beliefs = record { tree = c.add_root.new.tree; decisions = c.args.beliefs.now.decisions } in
    follows_fit s net b c.follow_root.new.decisions c.in-Some.x
    (root_fit s net c.args.premise.now c.args.beliefs.now c.add_root.new.tree c.requires.fit c.requires.new c.in_ok-entered.entered e.adds e.enters e.dated c.in-Some.x c.in-Some.is)
    (root_live s net c.args.premise.now c.args.beliefs.now c.add_root.new.tree c.requires.fit c.requires.new c.in_ok-entered.entered e.adds e.enters e.dated c.in-Some.x c.in-Some.is)
    c.in_ok-follow_root-in-Some.ensures.follows c.in_ok-follow_root-in-Some.ensures.under

pub returns-in-None-clause-enters : goal.returns-in-None-clause-enters
returns-in-None-clause-enters c =
    let e = c.in_ok-entered.ensures in
    skipped_enters c.args.standing.now.present c.args.net.now.present c.args.premise.now c.args.beliefs.now c.add_root.new.tree c.requires.fit c.requires.new c.in_ok-entered.entered e.adds e.enters e.dated c.in-None.is

pub returns-in-None-clause-fit : goal.returns-in-None-clause-fit
returns-in-None-clause-fit c =
    let e = c.in_ok-entered.ensures in
    skipped_fit c.args.standing.now.present c.args.net.now.present c.args.premise.now c.args.beliefs.now c.add_root.new.tree c.requires.fit c.requires.new c.in_ok-entered.entered e.adds e.enters e.dated c.in-None.is
