use Rattle.std.proofs.Common.{◌∙◌, ap}
use Rattle.std.specs.Option.{is_some}
use Rattle.belief_list.proofs.differing.is_token.Goals as goal

pub returns-then-is_live-clause-token : goal.returns-then-is_live-clause-token
returns-then-is_live-clause-token c = λ m here. c.is_some.ensures ∙ ap is_some (c.row.ensures m here).class
