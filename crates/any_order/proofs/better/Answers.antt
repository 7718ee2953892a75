use Rattle.std.proofs.Common.{◌≡◌, Bool, true, false, sym, ◌∙◌}
use Rattle.tmm_model.specs.declared.token.TokenRow.{TokenRow}
use Rattle.tmm_model.specs.Tokens.{of_one_class, supports}
use Rattle.any_order.proofs.Firsts.{first_skip, first_take}
use Rattle.any_order.proofs.better.Goals as goal

pub returns-then-is_supporter-clause-best : goal.returns-then-is_supporter-clause-best
returns-then-is_supporter-clause-best g c =
    let law = g.met.S.Sure.ordered c.args.order.now in
    let test : TokenRow g.row.S-Spot.Denot → Bool = supports of_one_class (g.S.Sure.distance c.args.order.now) c.args.tokens.now c.args.fact.now c.args.p c.args.q in
    let item = c.index-tokens-i in
    let passes : test item.result ≡ true = sym c.is_supporter.ensures.supports ∙ c.if-is_supporter.true in
    first_take law test c.args.tokens.now c.requires.all_live item.result c.args.i c.args.best c.requires.within item.is c.requires.best passes (rw c.if-not-is_ahead.false at c.is_ahead.ensures)

pub returns-else-is_supporter-clause-best : goal.returns-else-is_supporter-clause-best
returns-else-is_supporter-clause-best g c =
    let law = g.met.S.Sure.ordered c.args.order.now in
    let test : TokenRow g.row.S-Spot.Denot → Bool = supports of_one_class (g.S.Sure.distance c.args.order.now) c.args.tokens.now c.args.fact.now c.args.p c.args.q in
    let item = c.index-tokens-i in
    let fails : test item.result ≡ false = sym c.is_supporter.ensures.supports ∙ c.if-is_supporter.false in
    first_skip law test c.args.tokens.now c.requires.all_live item.result c.args.i c.args.best c.requires.within item.is c.requires.best fails
