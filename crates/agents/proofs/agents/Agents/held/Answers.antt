use Rattle.std.proofs.Common.{◌≤◌, List, length, sym, subst, arith}
use Rattle.std.specs.Prelude.{All}
use Rattle.agents.specs.declared.batches.Held.{Held}
use Rattle.agents.specs.declared.batches.Holding.{Holding}
use Rattle.agents.specs.Holdings.{IsHeld}
use Rattle.agents.proofs.Places.{held_few}
use Rattle.agents.proofs.agents.Agents.held.Goals as goal

pub overflow_cast-result : goal.overflow_cast-result
overflow_cast-result g c =
    let few : length c.held_by.result.now ≤ 100 = subst (λ (es : List Held). length es ≤ 100) (sym c.held_by.ensures)
    (held_few c.as_slice.result.now c.args.agent (subst (λ (hs : List Holding). All IsHeld hs) (sym c.as_slice.ensures.value) c.requires.held)) in
    omega arith

pub returns-clause-few : goal.returns-clause-few
returns-clause-few g c =
    subst (λ (es : List Held). length es ≤ 100) (sym c.held_by.ensures)
    (held_few c.as_slice.result.now c.args.agent (subst (λ (hs : List Holding). All IsHeld hs) (sym c.as_slice.ensures.value) c.requires.held))
