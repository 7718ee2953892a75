use Rattle.std.proofs.Common.{◌∙◌, refl, sym}
use Rattle.supports.proofs.ByDate.{tree_in}
use Rattle.belief_turns.proofs.After.{fit_after, there_after}
use Rattle.belief_turns.proofs.Numbering.{same_numbered}
use Rattle.belief_turns.proofs.Telling.{same_turned, exit_turned}
use Rattle.belief_turns.proofs.following.follow.Goals as goal

pub withdraw_effect-requires-clause-there : goal.withdraw_effect-requires-clause-there
withdraw_effect-requires-clause-there c =
    let (b, after) = c.requires.after in
    there_after c.args.standing.now.present c.args.net.now.present b c.args.beliefs.now c.args.due.now after (sym c.in-true-false.ensures)

pub withdraw_effect-requires-clause-tree : goal.withdraw_effect-requires-clause-tree
withdraw_effect-requires-clause-tree c =
    let (b, after) = c.requires.after in
    tree_in (fit_after c.args.standing.now.present c.args.net.now.present b c.args.beliefs.now c.args.due.now after).tree

pub withdraw_effect-requires-clause-events : goal.withdraw_effect-requires-clause-events
withdraw_effect-requires-clause-events c =
    let (b, after) = c.requires.after in
    (fit_after c.args.standing.now.present c.args.net.now.present b c.args.beliefs.now c.args.due.now after).events

pub withdraw_effect-requires-clause-under : goal.withdraw_effect-requires-clause-under
withdraw_effect-requires-clause-under c =
    let (b, after) = c.requires.after in
    (c.args.standing.now.present, (fit_after c.args.standing.now.present c.args.net.now.present b c.args.beliefs.now c.args.due.now after).under)

pub returns-in-Ok-clause-ok : goal.returns-in-Ok-clause-ok
returns-in-Ok-clause-ok c = λ b after.
    exit_turned c.args.standing.now.present c.args.net.now.present b c.args.beliefs.now c.withdraw_effect.new.beliefs c.args.due.now after (sym c.in-true-false.ensures') (sym c.in-true-false.ensures)
    c.args.told.now c.withdraw_effect.new.told c.in-Ok.ensures.ok c.in-Ok.ensures.last.decisions

pub returns-in-false-false-clause-ok : goal.returns-in-false-false-clause-ok
returns-in-false-false-clause-ok c = λ b after.
    same_turned c.args.standing.now.present c.args.net.now.present b c.args.beliefs.now c.args.due.now c.args.told.now after (sym c.in-false-false.ensures' ∙ c.in-false-false.ensures)

pub returns-in-true-true-clause-ok : goal.returns-in-true-true-clause-ok
returns-in-true-true-clause-ok c = λ b after.
    same_turned c.args.standing.now.present c.args.net.now.present b c.args.beliefs.now c.args.due.now c.args.told.now after (sym c.in-true-true.ensures' ∙ c.in-true-true.ensures)

pub returns-in-false-false-clause-numbered : goal.returns-in-false-false-clause-numbered
returns-in-false-false-clause-numbered c = same_numbered c.args.standing.now.present c.args.beliefs.now c.args.beliefs.now c.args.told.now refl

pub returns-in-true-true-clause-numbered : goal.returns-in-true-true-clause-numbered
returns-in-true-true-clause-numbered c = same_numbered c.args.standing.now.present c.args.beliefs.now c.args.beliefs.now c.args.told.now refl

pub returns-in-Ok-clause-numbered : goal.returns-in-Ok-clause-numbered
returns-in-Ok-clause-numbered c = c.in-Ok.ensures.numbered c.args.standing.now.present
