use Rattle.marking.proofs.Unlike.{pair_alike}
use Rattle.marking.proofs.contradictions_changed.is_unlike_by.Goals as goal

pub returns-then-is_unlike_at-clause-yes : goal.returns-then-is_unlike_at-clause-yes
returns-then-is_unlike_at-clause-yes c = λ _. (c.args.pair.now.1, c.is_unlike_at.ensures.yes c.if-is_unlike_at.true)

pub returns-else-is_unlike_at-clause-yes : goal.returns-else-is_unlike_at-clause-yes
returns-else-is_unlike_at-clause-yes c = λ yes. (c.args.pair.now.0, c.is_unlike_at-else-is_unlike_at.ensures.yes yes)

pub returns-else-is_unlike_at-clause-no : goal.returns-else-is_unlike_at-clause-no
returns-else-is_unlike_at-clause-no c = λ none g of.
    let lists = c.args.standing.now in
    let pair = c.args.pair.now in
    pair_alike lists.committed lists.present c.args.fact pair.0 pair.1 g (c.is_unlike_at.ensures.no c.if-is_unlike_at.false) (c.is_unlike_at-else-is_unlike_at.ensures.no none) of
