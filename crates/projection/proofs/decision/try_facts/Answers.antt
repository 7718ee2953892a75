use Rattle.std.proofs.Common.{◌∙◌, ℕ, ◌+◌, List, ◌∷◌, [], map, take, length, sym, subst, ap, Some, arith}
use Rattle.std.specs.Prelude.{Option}
use Rattle.std.specs.List.{All}
use Rattle.std.proofs.lemmas.List.{take_all, length-append}
use Rattle.std.proofs.lemmas.List.Elements.{All-push}
use Rattle.tmm_model.specs.Beliefs.{holder}
use Rattle.tmm_model.specs.Moments.{Moment}
use Rattle.tmm_model.specs.Standing.{far_in}
use Rattle.spots.specs.Forest.{IsLive, moment_at}
use Rattle.occ_tree.specs.Places.{forest}
use Rattle.projection.proofs.Tried.{all_there, found_more, tried_unblocked, tried_blocked, is_barred, is_fired}
use Rattle.projection.proofs.decision.try_facts.Goals as goal

pub returns-in-None-clause-outcome : goal.returns-in-None-clause-outcome
returns-in-None-clause-outcome c b holds =
    let s = c.args.map.now.standing.now.present in
    let f = forest c.args.map.now.tree.now in
    let t = moment_at f c.args.trigger in
    let h : List ℕ → Option Moment = λ fact. holder s (far_in s.premises) b fact t t in
    tried_blocked h c.args.given.now c.loop-antecedent.antecedent c.index-given-antecedent.result (omega arith) c.index-given-antecedent.is
    (all_there (moment_at f) h c.loop-antecedent.supports.items (map h (take c.loop-antecedent.antecedent c.args.given.now)) (c.loop-antecedent.invariant.found b holds))
    (map h c.args.exceptions.now) (sym (c.in-None.ensures.first b holds))

pub loop-antecedent-preserved : goal.loop-antecedent-preserved
loop-antecedent-preserved c =
    let s = c.args.map.now.standing.now.present in
    let f = forest c.args.map.now.tree.now in
    let t = moment_at f c.args.trigger in
    let old = c.loop-antecedent.supports.items in
    let pushed = c.push.ensures.items in
    record {
      count = ap length pushed ∙ length-append old (c.in-Some.x ∷ []) ∙ ap (λ n. n + 1) c.loop-antecedent.invariant.count;
      live = subst (All (IsLive f)) (sym pushed) (All-push (IsLive f) old c.in-Some.x c.loop-antecedent.invariant.live c.in-Some.ensures.live);
      found = λ b holds.
          (ap (map (λ x. Some (moment_at f x))) pushed
          ∙ found_more (moment_at f) (λ fact. holder s (far_in s.premises) b fact t t) old c.args.given.now c.loop-antecedent.antecedent c.in-Some.x c.index-given-antecedent.result
          (c.loop-antecedent.invariant.found b holds) (omega arith) c.index-given-antecedent.is (c.in-Some.ensures.first b holds));
    }

pub returns-in-Some-first_supported-clause-outcome : goal.returns-in-Some-first_supported-clause-outcome
returns-in-Some-first_supported-clause-outcome c b holds =
    let s = c.args.map.now.standing.now.present in
    let f = forest c.args.map.now.tree.now in
    let t = moment_at f c.args.trigger in
    let against = map (λ fact. holder s (far_in s.premises) b fact t t) c.args.exceptions.now in
    is_barred (map (moment_at f) c.loop-antecedent.supports.items) against c.in-Some-first_supported.exception (c.in-Some-first_supported.ensures b holds)
    ∙ tried_unblocked (moment_at f) (λ fact. holder s (far_in s.premises) b fact t t) c.loop-antecedent.supports.items c.args.given.now against
    (c.loop-antecedent.invariant.found b holds ∙ ap (map (λ fact. holder s (far_in s.premises) b fact t t)) (take_all c.loop-antecedent.antecedent c.args.given.now (omega arith)))

pub returns-in-None-first_supported-clause-outcome : goal.returns-in-None-first_supported-clause-outcome
returns-in-None-first_supported-clause-outcome c b holds =
    let s = c.args.map.now.standing.now.present in
    let f = forest c.args.map.now.tree.now in
    let t = moment_at f c.args.trigger in
    let against = map (λ fact. holder s (far_in s.premises) b fact t t) c.args.exceptions.now in
    is_fired (map (moment_at f) c.loop-antecedent.supports.items) against (c.in-None-first_supported.ensures b holds)
    ∙ tried_unblocked (moment_at f) (λ fact. holder s (far_in s.premises) b fact t t) c.loop-antecedent.supports.items c.args.given.now against
    (c.loop-antecedent.invariant.found b holds ∙ ap (map (λ fact. holder s (far_in s.premises) b fact t t)) (take_all c.loop-antecedent.antecedent c.args.given.now (omega arith)))
