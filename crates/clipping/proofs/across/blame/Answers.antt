use Rattle.std.proofs.Common.{◌≡◌, ◌∙◌, Bool, false, List, length, refl, subst, sym}
use Rattle.std.specs.Prelude.{slice_index_or}
use Rattle.std.specs.List.{list_any}
use Rattle.std.proofs.lemmas.List.Folds.{list_any_none}
use Rattle.std.proofs.lemmas.Option.{slice_get_read}
use Rattle.tmm_model.specs.declared.token.TokenRow.{TokenRow}
use Rattle.tmm_model.specs.Tokens.{cuts, supports}
use Rattle.clipping.specs.Across.{list_at, all_of}
use Rattle.clipping.specs.Rivals.{of_rivals}
use Rattle.clipping.proofs.InLists.{none_of_all}
use Rattle.clipping.proofs.Uncut.{none_cut}
use Rattle.clipping.proofs.across.blame.Goals as goal

pub returns-in-None-first_clip : goal.returns-in-None-first_clip
returns-in-None-first_clip g c =
    let lists = g.T.Tokens.lists c.args.tokens.now in
    let far = g.S.Sure.distance c.args.order.now in
    let rivals : TokenRow g.row.S-Spot.Denot → TokenRow g.row.S-Spot.Denot → Bool = of_rivals (g.R.Rivals.against c.args.rivals.now) in
    let own = list_at lists c.args.k.list in
    let row = c.index-list-k.result in
    let read : row ≡ slice_index_or own c.args.k.at row = subst (λ (xs : List (TokenRow g.row.S-Spot.Denot)). row ≡ slice_index_or xs c.args.k.at row) c.list.ensures c.index-list-k.is in
    let unsupported : supports rivals far (all_of lists) row.fact c.args.p c.args.q row ≡ false = c.requires.no_supporter row (slice_get_read own (length own) c.args.k.at row refl c.requires.within.within read) in
    let uncut : list_any (cuts rivals far row c.args.q) (all_of lists) ≡ false =
    none_of_all (cuts rivals far row c.args.q) lists (λ i lt. list_any_none (cuts rivals far row c.args.q) (list_at lists i) (λ j d within. c.in-None-first_clip.ensures i j d lt within)) in
    let supported = none_cut rivals far (all_of lists) row c.args.p c.args.q (sym c.at_most.ensures ∙ c.if-not-at_most.false) c.in-None.is uncut in
    cc
