use Rattle.tmm_model.specs.Standing.{far_in}
use Rattle.belief_theory.specs.Outcomes.{outcome}
use Rattle.projection.specs.declared.judging.Verdict.TheVariants.{Fires, Blocked, Barred, Beyond}
use Rattle.spots.specs.Forest.{moment_at}
use Rattle.occ_tree.specs.Places.{forest}
use Rattle.belief_turns.proofs.Judged.{judged_is}
use Rattle.belief_turns.proofs.deciding.decide_with.Goals as goal

pub returns-in-Fires-clause-found : goal.returns-in-Fires-clause-found
returns-in-Fires-clause-found c b holds =
    let s = c.args.standing.now.present in
    judged_is (outcome s (far_in s.premises) b (moment_at (forest c.args.tree.now) c.args.trigger) c.args.rule) Fires (c.in-Fires.ensures.verdict b holds)

pub returns-in-Blocked-clause-found : goal.returns-in-Blocked-clause-found
returns-in-Blocked-clause-found c b holds =
    let s = c.args.standing.now.present in
    judged_is (outcome s (far_in s.premises) b (moment_at (forest c.args.tree.now) c.args.trigger) c.args.rule) (Blocked c.in-Blocked.antecedent) (c.in-Blocked.ensures.verdict b holds)

pub returns-in-Barred-clause-found : goal.returns-in-Barred-clause-found
returns-in-Barred-clause-found c b holds =
    let s = c.args.standing.now.present in
    judged_is (outcome s (far_in s.premises) b (moment_at (forest c.args.tree.now) c.args.trigger) c.args.rule) (Barred c.in-Barred.exception) (c.in-Barred.ensures.verdict b holds)

pub returns-in-Beyond-clause-found : goal.returns-in-Beyond-clause-found
returns-in-Beyond-clause-found c b holds =
    let s = c.args.standing.now.present in
    judged_is (outcome s (far_in s.premises) b (moment_at (forest c.args.tree.now) c.args.trigger) c.args.rule) Beyond (c.in-Beyond.ensures.verdict b holds)
