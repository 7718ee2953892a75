use Rattle.belief_turns.proofs.LeavingCovered.{withdrawn_covered}
use Rattle.belief_turns.proofs.leaving.take_away.Goals as goal

pub returns-clause-covered : goal.returns-clause-covered
returns-clause-covered c =
    withdrawn_covered c.args.standing.now.present c.args.net.now.present c.args.beliefs.now.tree c.withdraw.new.self c.args.x c.args.numbers.now c.args.beliefs.now.decisions c.lose_rows.new.decisions c.lose_rows.new.marks
    c.requires.numbers c.in_ok-withdraw.ensures.ok c.in_ok-lose_rows.ensures.ok c.in_ok-lose_rows.ensures.covered
