use Rattle.std.proofs.Common.{◌≡◌, ◌∙◌, ℕ, true, false, List, map, sym, ap, rules, arith}
use Rattle.std.specs.Prelude.{Option}
use Rattle.std.specs.List.{filter_map}
use Rattle.std.proofs.lemmas.List.{take_all}
use Rattle.tmm_model.specs.Beliefs.{holder, supported}
use Rattle.tmm_model.specs.Moments.{Moment}
use Rattle.tmm_model.specs.Standing.{far_in}
use Rattle.belief_theory.specs.Outcomes.{first_without}
use Rattle.belief_theory.proofs.Outcomes.{no_holder}
use Rattle.spots.specs.Forest.{moment_at}
use Rattle.occ_tree.specs.Places.{forest}
use Rattle.projection.specs.Verdicts.{verdict_of}
use Rattle.projection.proofs.Tried.{one_more, tried_blocked, tried_is_unblocked, is_barred, is_fired}
use Rattle.projection.proofs.judging.judge_facts.Goals as goal

pub returns-then-not-is_supported : goal.returns-then-not-is_supported
returns-then-not-is_supported c b holds =
    let s = c.args.map.now.standing.now.present in
    let t = moment_at (forest c.args.map.now.tree.now) c.args.trigger in
    let h : List ℕ → Option Moment = λ fact. holder s (far_in s.premises) b fact t t in
    let fact = c.index-given-antecedent.result in
    let refused : c.is_supported.result ≡ false = search rules in
    let none = (no_holder s (far_in s.premises) b t fact).1 (sym (c.is_supported.ensures b holds) ∙ refused) in
    ap verdict_of (tried_blocked h c.args.given.now c.loop-antecedent.antecedent fact (omega arith) c.index-given-antecedent.is (c.loop-antecedent.invariant b holds) (map h c.args.exceptions.now) none)

pub loop-antecedent-preserved : goal.loop-antecedent-preserved
loop-antecedent-preserved c b holds =
    let s = c.args.map.now.standing.now.present in
    let t = moment_at (forest c.args.map.now.tree.now) c.args.trigger in
    let fact = c.index-given-antecedent.result in
    let held : c.is_supported.result ≡ true = search rules in
    let has : supported s (far_in s.premises) b t fact ≡ true = sym (c.is_supported.ensures b holds) ∙ held in
    one_more (λ fact. holder s (far_in s.premises) b fact t t) c.args.given.now c.loop-antecedent.antecedent fact (omega arith) c.index-given-antecedent.is (c.loop-antecedent.invariant b holds)
    (λ none. (let no : supported s (far_in s.premises) b t fact ≡ false = (no_holder s (far_in s.premises) b t fact).0 none in let both : true ≡ false = sym has ∙ no in cc))

pub returns-in-Some : goal.returns-in-Some
returns-in-Some c b holds =
    let s = c.args.map.now.standing.now.present in
    let t = moment_at (forest c.args.map.now.tree.now) c.args.trigger in
    let h : List ℕ → Option Moment = λ fact. holder s (far_in s.premises) b fact t t in
    let found = map h c.args.given.now in
    let against = map h c.args.exceptions.now in
    let all = ap (λ l. first_without (map h l)) (sym (take_all c.loop-antecedent.antecedent c.args.given.now (omega arith))) ∙ c.loop-antecedent.invariant b holds in
    ap verdict_of (is_barred (filter_map (λ k. k) found) against c.in-Some.exception (c.in-Some.ensures b holds) ∙ sym (tried_is_unblocked found against all))

pub returns-in-None : goal.returns-in-None
returns-in-None c b holds =
    let s = c.args.map.now.standing.now.present in
    let t = moment_at (forest c.args.map.now.tree.now) c.args.trigger in
    let h : List ℕ → Option Moment = λ fact. holder s (far_in s.premises) b fact t t in
    let found = map h c.args.given.now in
    let against = map h c.args.exceptions.now in
    let all = ap (λ l. first_without (map h l)) (sym (take_all c.loop-antecedent.antecedent c.args.given.now (omega arith))) ∙ c.loop-antecedent.invariant b holds in
    ap verdict_of (is_fired (filter_map (λ k. k) found) against (c.in-None.ensures b holds) ∙ sym (tried_is_unblocked found against all))
