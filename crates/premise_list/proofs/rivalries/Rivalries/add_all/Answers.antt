use Rattle.std.proofs.Common.{ap, ◌∙◌, sym, length, take, arith, ◌+◌, ◌≡◌, [], ◌∷◌, ◌++◌, append_assoc}
use Rattle.std.proofs.lemmas.List.{length-append}
use Rattle.premise_list.specs.Rivalries.{rivalries}
use Rattle.premise_list.proofs.PairsOfFacts.{rivalries_more, rivalry_counts}
use Rattle.premise_list.proofs.rivalries.Rivalries.add_all.Goals as goal

pub put-requires : goal.put-requires
put-requires c =
    let ps = c.args.premises.now in
    let i = c.loop-premise.premise-index in
    let p = c.premise-item.result in
    let before = c.args.self.now.present in
    let more : length (rivalries (take (i + 1) ps)) ≡ length (rivalries (take i ps)) + length (rivalries (p ∷ [])) = ap length (rivalries_more ps i p c.loop-premise-test.true c.premise-item.is) ∙ length-append (rivalries (take i ps)) (rivalries (p ∷ [])) in
    let now = ap (λ s. length s.present) c.loop-premise.invariant ∙ length-append before (rivalries (take i ps)) in
    let room = ap (λ s. s.room) c.loop-premise.invariant in
    omega (arith, more, now, room, rivalry_counts (i + 1) ps, c.requires)

pub loop-premise-preserved : goal.loop-premise-preserved
loop-premise-preserved c =
    let ps = c.args.premises.now in
    let i = c.loop-premise.premise-index in
    let p = c.premise-item.result in
    let before = c.args.self.now.present in
    let more = rivalries_more ps i p c.loop-premise-test.true c.premise-item.is in
    c.put.ensures
    ∙ (λ j. record (c.loop-premise.invariant j) { present = (c.loop-premise.invariant j).present ++ rivalries (p ∷ []) })
    ∙ (λ j. record c.args.self.now { present = (append_assoc before (rivalries (take i ps)) (rivalries (p ∷ [])) ∙ ap (λ l. before ++ l) (sym more)) j })
