use Rattle.std.proofs.Common.{◌-◌, ◌∙◌, sym, arith}
use Rattle.std.proofs.lemmas.List.Folds.{list_any_none}
use Rattle.tmm_model.specs.Tokens.{of_one_class, supports}
use Rattle.clipping.specs.ByDate.{IsPlaceIn}
use Rattle.clipping.proofs.Cutting.{none_begins}
use Rattle.clipping.proofs.RuledOut.{none_later, none_less, one_passes}
use Rattle.clipping.proofs.by_date.is_held_within.Goals as goal

pub loop-i-init : goal.loop-i-init
loop-i-init g c =
    record {
      none = none_later (g.met.S.Dated.dated c.args.order.now) c.args.tokens.now c.requires.by_date c.requires.all_live of_one_class c.args.tokens.now c.args.fact c.args.p c.args.q c.requires.p_live c.count_until-until.result c.count_until-until.ensures;
      begins = none_begins (g.S.Sure.distance c.args.order.now) c.args.tokens.now c.args.q _ c.new-search.ensures;
    }

pub is_supporter-requires-clause-begins : goal.is_supporter-requires-clause-begins
is_supporter-requires-clause-begins g c = c.loop-i.invariant.begins

pub returns-then-is_supporter-clause-held : goal.returns-then-is_supporter-clause-held
returns-then-is_supporter-clause-held g c =
    let tokens = c.args.tokens.now in
    let test = supports of_one_class (g.S.Sure.distance c.args.order.now) tokens c.args.fact c.args.p c.args.q in
    let at : IsPlaceIn test tokens 0 c.count_until-until.result (c.loop-i.i - 1) = record { from = omega arith; before = omega (arith, c.loop-i-test.true); passes = λ d. sym (c.is_supporter.ensures.supports d) ∙ c.if-is_supporter.true } in
    sym (one_passes test tokens 0 c.count_until-until.result (c.loop-i.i - 1) c.count_until-until.ensures.within at)

pub loop-i-preserved : goal.loop-i-preserved
loop-i-preserved g c =
    let test = supports of_one_class (g.S.Sure.distance c.args.order.now) c.args.tokens.now c.args.fact c.args.p c.args.q in
    record {
      none = none_less test c.args.tokens.now c.loop-i.i c.loop-i.invariant.none (λ d. sym (c.is_supporter.ensures.supports d) ∙ c.if-is_supporter.false);
      begins = c.is_supporter.ensures.begins;
    }

pub returns-clause-held : goal.returns-clause-held
returns-clause-held g c =
    let tokens = c.args.tokens.now in
    let test = supports of_one_class (g.S.Sure.distance c.args.order.now) tokens c.args.fact c.args.p c.args.q in
    sym (list_any_none test tokens (λ i d lt. c.loop-i.invariant.none i d (omega (arith, c.loop-i-test.false)) lt))
