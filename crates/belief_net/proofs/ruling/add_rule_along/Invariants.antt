use Rattle.std.proofs.Common.{take}
use Rattle.belief_net.specs.Adding.{AddsRuleAt}
use Rattle.belief_table.specs.Decided.{KeepsLast}
use Rattle.belief_turns.specs.Heads.{AddsUnder, HasNamesOf}
use Rattle.belief_net.proofs.ruling.add_rule_along.Given as goal

abbrev pub invariant-loop-x : goal.invariant-loop-x
invariant-loop-x l = record {
  adds : AddsUnder (λ rule. AddsRuleAt l.tree rule l.kind (take l.x-index l.numbers) l.fn.decisions l.decisions) l.heads l.fn.decisions l.decisions;
  names : HasNamesOf l.fn.decisions l.decisions;
  last : KeepsLast l.fn.decisions l.decisions;
}
