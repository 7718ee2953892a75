use Rattle.std.proofs.Common.{◌≡◌, ◌≢◌, ◌∙◌, ◌<◌, sym, ap, length}
use Rattle.std.specs.Prelude.{slice_index_or}
use Rattle.std.specs.declared.cmp.Ordering.TheVariants.{Equal}
use Rattle.tmm_model.specs.declared.token.TokenRow.{TokenRow}
use Rattle.clipping.proofs.Halving.{no_tie, not_there}
use Rattle.clipping.proofs.by_date.place_of.Goals as goal

pub returns-else-is_eq : goal.returns-else-is_eq
returns-else-is_eq g c =
    let tokens = c.args.tokens.now in
    let n = c.count_before-place.result in
    let spot = c.args.spot in
    let order = g.S.Sure.order c.args.order.now in
    let token = c.in_ok-token.token.now in
    let here : c.rank.result ≢ Equal = no_tie c.rank.result (sym c.is_eq.ensures ∙ c.if-is_eq.false) in
    not_there tokens c.requires.by_date (g.met.S.Sure.ordered c.args.order.now) c.requires.all_live spot c.requires.spot_live n c.count_before-place.ensures
    (λ (within : n < length tokens) (d : TokenRow g.row.S-Spot.Denot) (tie : order (slice_index_or tokens n d).spot spot ≡ Equal).
    (let is : token ≡ slice_index_or tokens n d = c.in_ok-token.ensures.lookup.3.1 d in
    here (c.rank.ensures ∙ ap (λ (x : TokenRow g.row.S-Spot.Denot). order x.spot spot) is ∙ tie)))
