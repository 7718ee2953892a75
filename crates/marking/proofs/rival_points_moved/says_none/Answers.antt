use Rattle.std.proofs.Common.{◌∙◌, sym, eqb-true}
use Rattle.marking.proofs.ByRule.{none_said}
use Rattle.marking.proofs.rival_points_moved.says_none.Goals as goal

pub returns-then-rivalries-eq0 : goal.returns-then-rivalries-eq0
returns-then-rivalries-eq0 c = λ none f g.
    let lists = c.args.standing.now in (
      none_said lists.committed (sym c.rivalries_before.ensures ∙ eqb-true c.rivalries_before.result 0 none) f g,
      none_said lists.present (sym c.rivalries.ensures ∙ c.if-rivalries-eq0.true) f g,
    )
