use Rattle.std.proofs.Common.{◌≡◌, ◌∙◌, ◌&&◌, true, false, not, sym, ap, subst, rules, arith}
use Rattle.std.specs.Prelude.{IsSome, is_none, slice_index_or}
use Rattle.std.specs.List.{All, list_all, list_any}
use Rattle.std.proofs.lemmas.List.{take_all}
use Rattle.std.proofs.lemmas.List.Folds.{list_all_at, list_all_more}
use Rattle.tmm_model.specs.Beliefs.{supported}
use Rattle.tmm_model.specs.Moments.{rule_of}
use Rattle.tmm_model.specs.Standing.{far_in}
use Rattle.tmm_model.specs.Sorts.{class_in}
use Rattle.belief_theory.proofs.Outcomes.{is_open}
use Rattle.spots.specs.Forest.{moment_at}
use Rattle.occ_tree.specs.Places.{forest}
use Rattle.supports.proofs.FirstFacts.{told_none}
use Rattle.spots.proofs.Rules.{rule_there, facts_known, exceptions_known}
use Rattle.just_check.proofs.rules.is_free_with.Goals as goal

pub is_supported-requires-clause-fact : goal.is_supported-requires-clause-fact
is_supported-requires-clause-fact c =
    let s = c.args.map.now.standing.now.present in
    let rule = c.args.rule in
    let sound = c.requires.seen.seen.network.sound in
    let known = facts_known s sound rule (rule_there s sound (moment_at (forest c.args.map.now.tree.now) c.args.x) rule c.requires.rule) in
    let all = subst (All (λ fact. IsSome (class_in s.premises fact))) (sym c.requires.given) known in
    subst (λ fact. IsSome (class_in s.premises fact)) (sym c.fact-item.is) (all c.loop-fact.fact-index c.fact-item.result c.loop-fact-test.true)

pub returns-then-not-is_supported : goal.returns-then-not-is_supported
returns-then-not-is_supported c b holds =
    let s = c.args.map.now.standing.now.present in
    let test = supported s (far_in s.premises) b (moment_at (forest c.args.map.now.tree.now) c.args.x) in
    let given = c.args.given.now in
    let refused : c.is_supported.result ≡ false = search rules in
    let fails : test (slice_index_or given c.loop-fact.fact-index c.fact-item.result) ≡ false = ap test (sym c.fact-item.is) ∙ sym (c.is_supported.ensures b holds) ∙ refused in
    let refuses = sym (list_all_at test given c.loop-fact.fact-index c.fact-item.result c.loop-fact-test.true fails) ∙ ap (list_all test) c.requires.given in
    λ i. refuses i && not (list_any test (rule_of s c.args.rule).exceptions)

pub loop-fact-preserved : goal.loop-fact-preserved
loop-fact-preserved c b holds =
    let s = c.args.map.now.standing.now.present in
    let test = supported s (far_in s.premises) b (moment_at (forest c.args.map.now.tree.now) c.args.x) in
    let given = c.args.given.now in
    let held : c.is_supported.result ≡ true = search rules in
    let passes : test (slice_index_or given c.loop-fact.fact-index c.fact-item.result) ≡ true = ap test (sym c.fact-item.is) ∙ sym (c.is_supported.ensures b holds) ∙ held in
    list_all_more test given c.loop-fact.fact-index c.fact-item.result c.loop-fact-test.true ∙ (λ i. c.loop-fact.invariant b holds i && passes i)

pub first_supported-requires-clause-facts : goal.first_supported-requires-clause-facts
first_supported-requires-clause-facts c =
    let s = c.args.map.now.standing.now.present in
    let rule = c.args.rule in
    let sound = c.requires.seen.seen.network.sound in
    let known = exceptions_known s sound rule (rule_there s sound (moment_at (forest c.args.map.now.tree.now) c.args.x) rule c.requires.rule) in
    subst (All (λ fact. IsSome (class_in s.premises fact))) (sym c.requires.exceptions) known

pub returns : goal.returns
returns c b holds =
    let s = c.args.map.now.standing.now.present in
    let t = moment_at (forest c.args.map.now.tree.now) c.args.x in
    let test = supported s (far_in s.premises) b t in
    let held = sym (c.loop-fact.invariant b holds) ∙ ap (list_all test) (take_all c.loop-fact.fact-index c.args.given.now (omega (arith, c.loop-fact-test.false)) ∙ c.requires.given) in
    let open_ = told_none c.first_supported.result c.is_none.result c.is_none.ensures ∙ ap is_none (c.first_supported.ensures b holds) ∙ is_open s (far_in s.premises) b t c.args.exceptions.now ∙ ap (λ l. not (list_any test l)) c.requires.exceptions in
    λ i. held i && open_ i
