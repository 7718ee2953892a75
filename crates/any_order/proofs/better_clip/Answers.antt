use Rattle.std.proofs.Common.{◌≡◌, Bool, true, false, sym, ◌∙◌}
use Rattle.tmm_model.specs.declared.token.TokenRow.{TokenRow}
use Rattle.tmm_model.specs.Tokens.{of_one_class}
use Rattle.clipping.specs.Cutters.{clips_until}
use Rattle.any_order.proofs.Firsts.{first_skip, first_take}
use Rattle.any_order.proofs.better_clip.Goals as goal

pub returns-then-clips_until : goal.returns-then-clips_until
returns-then-clips_until g c =
    let law = g.met.S.Sure.ordered c.args.order.now in
    let test : TokenRow g.row.S-Spot.Denot → Bool = clips_until of_one_class (g.S.Sure.distance c.args.order.now) c.args.k.now c.args.until in
    let item = c.index-tokens-i in
    let passes : test item.result ≡ true = sym c.clips_until.ensures ∙ c.if-clips_until.true in
    first_take law test c.args.tokens.now c.requires.all_live item.result c.args.i c.args.best c.requires.within item.is c.requires.best passes (rw c.if-not-is_ahead.false at c.is_ahead.ensures)

pub returns-else-clips_until : goal.returns-else-clips_until
returns-else-clips_until g c =
    let law = g.met.S.Sure.ordered c.args.order.now in
    let test : TokenRow g.row.S-Spot.Denot → Bool = clips_until of_one_class (g.S.Sure.distance c.args.order.now) c.args.k.now c.args.until in
    let item = c.index-tokens-i in
    let fails : test item.result ≡ false = sym c.clips_until.ensures ∙ c.if-clips_until.false in
    first_skip law test c.args.tokens.now c.requires.all_live item.result c.args.i c.args.best c.requires.within item.is c.requires.best fails
