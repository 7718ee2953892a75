use Rattle.std.proofs.Common.{◌≡◌, false, sym, ◌∙◌, length, refl}
use Rattle.std.proofs.lemmas.Option.{slice_get_read}
use Rattle.std.proofs.lemmas.List.Folds.{list_any_none}
use Rattle.tmm_model.specs.Tokens.{of_one_class, supports, cuts}
use Rattle.clipping.proofs.Uncut.{none_cut}
use Rattle.any_order.proofs.blame.Goals as goal

pub returns-in-None-first_clip : goal.returns-in-None-first_clip
returns-in-None-first_clip g c =
    let far = g.S.Sure.distance c.args.order.now in
    let xs = c.args.tokens.now in
    let row = c.index-tokens-k in
    let unsupported : supports of_one_class far xs row.result.fact c.args.p c.args.q row.result ≡ false =
    c.requires.no_supporter row.result (slice_get_read xs (length xs) c.args.k row.result refl c.requires.within row.is) in
    let uncut = list_any_none (cuts of_one_class far row.result c.args.q) xs c.in-None-first_clip.ensures in
    let supported = none_cut of_one_class far xs row.result c.args.p c.args.q (sym c.at_most.ensures ∙ c.if-not-at_most.false) c.in-None.is uncut in
    cc
