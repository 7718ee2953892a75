use Rattle.std.proofs.Common.{◌≡◌, ◌-◌, ◌≤◌, ◌∙◌, length, ap, sym, arith}
use Rattle.std.proofs.lemmas.List.Folds.{list_any_none}
use Rattle.tmm_model.specs.Tokens.{supports}
use Rattle.clipping.specs.Across.{list_at, all_of}
use Rattle.clipping.specs.ByDate.{IsPlaceIn}
use Rattle.clipping.specs.Rivals.{of_rivals}
use Rattle.clipping.proofs.RuledOut.{one_passes}
use Rattle.clipping.proofs.across.is_held.Goals as goal

pub returns-then-is_supporter : goal.returns-then-is_supporter
returns-then-is_supporter g c =
    let lists = g.T.Tokens.lists c.args.tokens.now in
    let own = list_at lists c.args.own in
    let test = supports (of_rivals (g.R.Rivals.against c.args.rivals.now)) (g.S.Sure.distance c.args.order.now) (all_of lists) c.args.fact c.args.p c.args.q in
    let until = c.count_until-until.result in
    let same : length c.list-list.result.now ≡ length own = ap length c.list-list.ensures in
    let within : until ≤ length own = omega (arith, c.count_until-until.ensures.within) in
    let at : IsPlaceIn test own 0 until (c.loop-i.i - 1) = record { from = omega arith; before = omega (arith, c.loop-i-test.true); passes = λ d. sym (c.is_supporter.ensures.supports d) ∙ c.if-is_supporter.true } in
    sym (one_passes test own 0 until (c.loop-i.i - 1) within at)

pub returns : goal.returns
returns g c =
    let lists = g.T.Tokens.lists c.args.tokens.now in
    let test = supports (of_rivals (g.R.Rivals.against c.args.rivals.now)) (g.S.Sure.distance c.args.order.now) (all_of lists) c.args.fact c.args.p c.args.q in
    sym (list_any_none test (list_at lists c.args.own) (λ i d lt. c.loop-i.invariant.none i d (omega (arith, c.loop-i-test.false)) lt))
