use Rattle.std.proofs.Common.{◌≡◌, ◌∷◌, ◌++◌, take, subst, ◌∙◌}
use Rattle.std.proofs.lemmas.List.{take_all}
use Rattle.tmm_model.specs.Standing.{name_of}
use Rattle.premise_list.specs.Words.{facts_of}
use Rattle.premise_list.specs.Gone.{SameNames}
use Rattle.premise_list.proofs.Parts.{all_lost}
use Rattle.premise_list.proofs.erase.lose.Goals as goal

pub returns : goal.returns
returns c =
    let p = c.args.premise.now in
    let facts = c.facts_of-fact-items.result.now in
    let old = c.args.gone.now.keys in
    let mid = c.lose_name.new.gone.keys in
    let all : take c.loop-fact.fact-index facts ≡ facts_of p = take_all c.loop-fact.fact-index facts c.loop-fact-test.false ∙ c.facts_of-fact-items.ensures.value in
    let others : SameNames c.loop-fact.gone.keys (facts_of p ++ mid) = subst (λ l. SameNames c.loop-fact.gone.keys (l ++ mid)) all c.loop-fact.invariant in
    let first : SameNames mid (name_of p ∷ old) = subst (λ n. SameNames mid (n ∷ old)) c.name_of.ensures c.in_ok-lose_name.ensures in
    all_lost p old mid c.loop-fact.gone.keys first others
