use Rattle.std.proofs.Common.{◌∙◌, sym, eqb-true}
use Rattle.marking.proofs.ByRule.{none_said}
use Rattle.marking.proofs.rivals_of_token.says_none.Goals as goal

pub returns : goal.returns
returns c = λ none. none_said c.args.standing.now.present (sym c.rivalries.ensures ∙ eqb-true c.rivalries.result 0 none)
