use Rattle.std.proofs.Common.{sym, ◌∙◌}
use Rattle.premise_list.specs.RivalLaws.{rivals_of_each_other}
use Rattle.premise_list.proofs.Unrivalled.{no_rival}
use Rattle.marking.proofs.rivals_of_token.has_rivals.Goals as goal

pub returns : goal.returns
returns c = λ none f.
    rivals_of_each_other c.args.standing.now.present f c.args.fact
    ∙ no_rival c.args.standing.now.present c.args.fact (sym c.has_rivals.ensures ∙ none) f
