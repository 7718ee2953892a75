use Rattle.std.proofs.Common.{ap, ◌∙◌, length, take, arith, ◌+◌, ◌≡◌, [], ◌∷◌}
use Rattle.std.proofs.lemmas.List.{length-append}
use Rattle.premise_list.specs.Rivalries.{rivalries}
use Rattle.premise_list.proofs.PairsOfFacts.{rivalries_more}
use Rattle.premise_list.proofs.rivalries.rivalry_count.Goals as goal

pub loop-premise-preserved : goal.loop-premise-preserved
loop-premise-preserved c =
    let ps = c.args.premises.now in
    let i = c.loop-premise.premise-index in
    let p = c.premise-item.result in
    let more : length (rivalries (take (i + 1) ps)) ≡ length (rivalries (take i ps)) + length (rivalries (p ∷ [])) = ap length (rivalries_more ps i p c.loop-premise-test.true c.premise-item.is) ∙ length-append (rivalries (take i ps)) (rivalries (p ∷ [])) in
    record { small = omega (arith, c.pair_count-count.ensures.few, c.loop-premise.invariant.small); exact = omega (arith, more, c.pair_count-count.ensures.value, c.loop-premise.invariant.exact) }
