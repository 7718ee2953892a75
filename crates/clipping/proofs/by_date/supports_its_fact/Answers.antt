use Rattle.std.proofs.Common.{◌≡◌, ◌∙◌, not, ap, sym, subst}
use Rattle.std.proofs.lemmas.List.{get_or_read}
use Rattle.std.specs.List.{list_any}
use Rattle.tmm_model.specs.declared.token.TokenRow.{TokenRow}
use Rattle.tmm_model.specs.Tokens.{of_one_class, supports, cuts}
use Rattle.clipping.proofs.Uncut.{supports_uncut}
use Rattle.clipping.proofs.by_date.supports_its_fact.Goals as goal

pub returns-in-None-clause-supports : goal.returns-in-None-clause-supports
returns-in-None-clause-supports g c d =
    let tokens = c.args.tokens.now in
    let far = g.S.Sure.distance c.args.order.now in
    let k = c.index-tokens-i.result in
    let read = get_or_read tokens c.args.i k c.requires.within c.index-tokens-i.is in
    subst (λ (x : TokenRow g.row.S-Spot.Denot). not c.is_cut.result ≡ supports of_one_class far tokens x.fact c.args.p c.args.q x) (read d)
    (ap not (subst (λ (x : TokenRow g.row.S-Spot.Denot). c.is_cut.result ≡ list_any (cuts of_one_class far x c.args.q) tokens) (sym (read d)) (c.is_cut.ensures.cut d))
    ∙ sym (supports_uncut of_one_class far tokens k c.args.p c.args.q (sym c.at_most.ensures ∙ c.if-not-at_most.false) c.in-None.is))
