use Rattle.std.proofs.Common.{◌≡◌, ◌∷◌, [], ◌++◌, refl, ap, ◌∙◌}
use Rattle.std.proofs.lemmas.List.{take_rest}
use Rattle.tmm_grammar.specs.Reading.{parts_behind}
use Rattle.tmm_words.proofs.Parts.{no_occ, not_name, behind_first, occ_whole, some_rules, begins-rules}
use Rattle.tmm_words.proofs.points.occ.Goals as goal

pub returns-in_default-clause-read : goal.returns-in_default-clause-read
returns-in_default-clause-read c =
    no_occ c.args.word.now [] c.split_part.result.0.now (parts_behind c.split_part.result.1.now) c.split_part.ensures.parts (not_name c.split_part.result.0.now c.of.result c.of.ensures.some c.in_default.is)

pub returns-in_default-of-clause-read : goal.returns-in_default-of-clause-read
returns-in_default-of-clause-read c =
    let part = c.split_part-in-len1-up.result.0.now in
    let more = parts_behind c.split_part-in-len1-up.result.1.now in
    let next : parts_behind c.loop-rest.rest.now ≡ part ∷ more = behind_first c.loop-rest.rest.now c.in-len1-up.len_at_least ∙ (simp take_rest at c.split_part-in-len1-up.ensures.parts) in
    no_occ c.args.word.now (c.in-Some.root ∷ c.loop-rest.rules.items) part more (c.loop-rest.invariant.parts ∙ ap (λ x. c.in-Some.root ∷ (c.loop-rest.rules.items ++ x)) next) (not_name part c.of-in-len1-up.result c.of-in-len1-up.ensures.some c.in_default-of.is)

pub returns-clause-read : goal.returns-clause-read
returns-clause-read c =
    ((c.loop-rest.invariant.root, c.loop-rest.invariant.names), occ_whole c.args.word.now c.in-Some.root c.loop-rest.rules.items c.loop-rest.rest.now c.in_default-rest.len_below c.loop-rest.invariant.parts)

pub returns-then-is_err-clause-memory : goal.returns-then-is_err-clause-memory
returns-then-is_err-clause-memory c = some_rules c.args.word.now c.in-Some.root c.loop-rest.rules.items c.loop-rest.rest.now c.in-len1-up.len_at_least c.loop-rest.invariant.parts

pub returns-then-is_err-clause-derived : goal.returns-then-is_err-clause-derived
returns-then-is_err-clause-derived c =
    let part = c.split_part-in-len1-up.result.0.now in
    let more = parts_behind c.split_part-in-len1-up.result.1.now in
    let next : parts_behind c.loop-rest.rest.now ≡ part ∷ more = behind_first c.loop-rest.rest.now c.in-len1-up.len_at_least ∙ (simp take_rest at c.split_part-in-len1-up.ensures.parts) in
    begins-rules c.args.word.now c.in-Some.root c.loop-rest.rules.items part more (c.loop-rest.invariant.parts ∙ ap (λ x. c.in-Some.root ∷ (c.loop-rest.rules.items ++ x)) next) c.loop-rest.invariant.root c.loop-rest.invariant.names (c.in-Some-of.ensures.some.0 refl)
