use Rattle.std.proofs.Common.{◌<◌, ◌∙◌, length, sym, arith}
use Rattle.tmm_model.specs.Tokens.{of_one_class, supports}
use Rattle.clipping.specs.ByDate.{NonePass}
use Rattle.clipping.proofs.Cutting.{none_begins}
use Rattle.clipping.proofs.RuledOut.{first_is, all_fail, none_later, none_more}
use Rattle.clipping.proofs.by_date.holder_within.Goals as goal

pub loop-i-init : goal.loop-i-init
loop-i-init g c = record {
  none = λ i d low less. absurd (omega (arith, less));
  begins = none_begins (g.S.Sure.distance c.args.order.now) c.args.tokens.now c.args.q _ c.new-search.ensures;
}

pub is_supporter-requires-clause-begins : goal.is_supporter-requires-clause-begins
is_supporter-requires-clause-begins g c = c.loop-i.invariant.begins

pub returns-then-is_supporter-clause-first : goal.returns-then-is_supporter-clause-first
returns-then-is_supporter-clause-first g c =
    let tokens = c.args.tokens.now in
    let test = supports of_one_class (g.S.Sure.distance c.args.order.now) tokens c.args.fact c.args.p c.args.q in
    let within : c.loop-i.i < length tokens = omega (arith, c.count_until-until.ensures.within) in
    first_is (g.met.S.Sure.ordered c.args.order.now) tokens c.requires.by_date c.requires.all_live test c.loop-i.i within
    (λ d. sym (c.is_supporter.ensures.supports d) ∙ c.if-is_supporter.true) c.loop-i.invariant.none

pub loop-i-preserved : goal.loop-i-preserved
loop-i-preserved g c =
    let test = supports of_one_class (g.S.Sure.distance c.args.order.now) c.args.tokens.now c.args.fact c.args.p c.args.q in
    record {
      none = none_more test c.args.tokens.now c.loop-i.i c.loop-i.invariant.none (λ d. sym (c.is_supporter.ensures.supports d) ∙ c.if-is_supporter.false);
      begins = c.is_supporter.ensures.begins;
    }

pub returns-clause-first : goal.returns-clause-first
returns-clause-first g c =
    let tokens = c.args.tokens.now in
    let test = supports of_one_class (g.S.Sure.distance c.args.order.now) tokens c.args.fact c.args.p c.args.q in
    let n = c.count_until-until.result in
    let back : NonePass test tokens n (length tokens) = none_later (g.met.S.Dated.dated c.args.order.now) tokens c.requires.by_date c.requires.all_live of_one_class tokens c.args.fact c.args.p c.args.q c.requires.p_live n c.count_until-until.ensures in
    λ k d lt. all_fail test tokens n (λ j e from less. c.loop-i.invariant.none j e from (omega (arith, c.loop-i-test.false))) back k d (omega arith) lt
