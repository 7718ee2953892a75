use Rattle.std.proofs.Common.{◌∙◌, [], ◌∷◌, take, sym, subst, arith}
use Rattle.std.proofs.lemmas.List.{take_all}
use Rattle.supports.proofs.Taken.{next_taken}
use Rattle.just_check.specs.Checking.{AwaitsMore}
use Rattle.just_check.proofs.Expecting.{more_both}
use Rattle.occ_tree.specs.Places.{forest}
use Rattle.just_check.proofs.auditing.expect_effects.Goals as goal

pub loop-rule-preserved : goal.loop-rule-preserved
loop-rule-preserved c b holds =
    let s = c.args.map.now.standing.now.present in
    let f = forest c.args.map.now.tree.now in
    let x = c.args.x in
    let rs = c.at-rule-items.result.now in
    let i = c.loop-rule.rule-index in
    let r = c.rule-item.result in
    subst (λ l. AwaitsMore s f b x l c.args.expected.now c.expect_effect.new.expected) (sym (next_taken rs i r c.loop-rule-test.true c.rule-item.is))
    (more_both s f b x (take i rs) (r ∷ []) c.args.expected.now c.loop-rule.expected c.expect_effect.new.expected (c.loop-rule.invariant b holds) (c.in_ok-expect_effect.ensures b holds))

pub returns : goal.returns
returns c b holds =
    let rs = c.at-rule-items.result.now in
    let i = c.loop-rule.rule-index in
    subst (λ l. AwaitsMore c.args.map.now.standing.now.present (forest c.args.map.now.tree.now) b c.args.x l c.args.expected.now c.loop-rule.expected)
    (take_all i rs (omega (arith, c.loop-rule-test.false)) ∙ c.at-rule-items.ensures) (c.loop-rule.invariant b holds)
