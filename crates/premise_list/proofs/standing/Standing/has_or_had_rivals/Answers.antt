use Rattle.std.proofs.Common.{◌∙◌, ◌||◌, sym, ap}
use Rattle.premise_list.specs.Rivalries.{has_rivals}
use Rattle.premise_list.proofs.Unrivalled.{no_rival}
use Rattle.premise_list.proofs.standing.Standing.has_or_had_rivals.Goals as goal

pub returns-else-has_rivals-clause-value : goal.returns-else-has_rivals-clause-value
returns-else-has_rivals-clause-value c =
    c.had_rivals.ensures ∙ ap (λ b. b || has_rivals c.args.self.now.committed c.args.fact) (sym c.if-has_rivals.false ∙ c.has_rivals.ensures)

pub returns-else-has_rivals-clause-none : goal.returns-else-has_rivals-clause-none
returns-else-has_rivals-clause-none c = λ none g. (
  no_rival c.args.self.now.committed c.args.fact (sym c.had_rivals.ensures ∙ none) g,
  no_rival c.args.self.now.present c.args.fact (sym c.has_rivals.ensures ∙ c.if-has_rivals.false) g,
)
