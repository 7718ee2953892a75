use Rattle.std.proofs.Common.{◌≡◌, ◌<◌, ◌∙◌, [], length, ap, sym, arith}
use Rattle.tmm_model.specs.Tokens.{supports}
use Rattle.clipping.specs.Across.{list_at, all_of}
use Rattle.clipping.specs.Rivals.{of_rivals}
use Rattle.clipping.proofs.RuledOut.{first_is}
use Rattle.clipping.proofs.across.holder.Goals as goal

pub returns-then-is_supporter : goal.returns-then-is_supporter
returns-then-is_supporter g c =
    let lists = g.T.Tokens.lists c.args.tokens.now in
    let own = list_at lists c.args.own in
    let test = supports (of_rivals (g.R.Rivals.against c.args.rivals.now)) (g.S.Sure.distance c.args.order.now) (all_of lists) c.args.fact c.args.p c.args.q in
    let same : length c.list-list.result.now ≡ length own = ap length c.list-list.ensures in
    let within : c.loop-i.i < length own = omega (arith, c.count_until-until.ensures.within) in
    first_is (g.met.S.Sure.ordered c.args.order.now) own (c.requires.by_date c.args.own [] c.requires.own) (c.requires.all_live c.args.own [] c.requires.own) test c.loop-i.i within
    (λ d. sym (c.is_supporter.ensures.supports d) ∙ c.if-is_supporter.true) c.loop-i.invariant.none
