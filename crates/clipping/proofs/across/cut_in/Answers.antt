use Rattle.std.proofs.Common.{◌≡◌, ◌∙◌, ◌<◌, true, false, List, [], length, ap, sym, subst, arith}
use Rattle.std.specs.Prelude.{slice_index_or}
use Rattle.std.specs.List.{All, list_any}
use Rattle.tmm_model.specs.declared.token.TokenRow.{TokenRow}
use Rattle.tmm_model.specs.Tokens.{cuts}
use Rattle.clipping.specs.Across.{list_at, all_of, IsCutSpot}
use Rattle.clipping.specs.ByDate.{IsByDate}
use Rattle.clipping.specs.Live.{IsLive}
use Rattle.clipping.specs.Rivals.{are_rivals, of_rivals}
use Rattle.clipping.proofs.Rivals.{cut_elsewhere}
use Rattle.clipping.proofs.CutSpots.{none_in, cut_spot, cut_found}
use Rattle.clipping.proofs.across.cut_in.Goals as goal

pub returns-in_err-place-clause-uncut : goal.returns-in_err-place-clause-uncut
returns-in_err-place-clause-uncut g c _ =
    let lists = g.T.Tokens.lists c.args.tokens.now in
    let far = g.S.Sure.distance c.args.order.now in
    let against = g.R.Rivals.against c.args.rivals.now in
    let k = c.args.k.now in
    let list = c.list-list.result.now in
    let same : list ≡ list_at lists c.args.i = c.list-list.ensures in
    let sorted = subst (IsByDate (g.S.Dated.date c.args.order.now) (g.S.Sure.order c.args.order.now)) (sym same) (c.requires.by_date c.args.i [] c.requires.within) in
    let all = subst (All (IsLive (g.S.Sure.live c.args.order.now))) (sym same) (c.requires.all_live c.args.i [] c.requires.within) in
    let none : list_any (cuts (are_rivals against) far k c.args.q) list ≡ false =
    none_in (are_rivals against) (g.met.S.Sure.ordered c.args.order.now) (g.met.S.Dated.dated c.args.order.now) list sorted all k c.requires.k_live c.args.q c.requires.q_live
    c.count_until-low.result c.count_until-low.ensures c.count_until-high.result c.count_until-high.ensures c.in_err-place.ensures in
    cut_elsewhere against (g.met.R.Rivals.irreflexive c.args.rivals.now) far lists c.args.own c.requires.by_class c.requires.own k c.requires.k c.args.q c.args.i c.requires.within c.requires.other
    ∙ subst (λ (xs : List (TokenRow g.row.S-Spot.Denot)). list_any (cuts (are_rivals against) far k c.args.q) xs ≡ false) same none

pub returns-clause-cut : goal.returns-clause-cut
returns-clause-cut g c x same =
    let lists = g.T.Tokens.lists c.args.tokens.now in
    let far = g.S.Sure.distance c.args.order.now in
    let live = g.S.Sure.live c.args.order.now in
    let against = g.R.Rivals.against c.args.rivals.now in
    let k = c.args.k.now in
    let list = c.list-list.result.now in
    let place = c.in_ok-place.place in
    let item = c.index-list-place.result in
    let here : list ≡ list_at lists c.args.i = c.list-list.ensures in
    let counted : length list ≡ length (list_at lists c.args.i) = ap length here in
    let within : place < length (list_at lists c.args.i) = omega (arith, c.in_ok-place.ensures.before, c.count_until-high.ensures.within) in
    let read : item ≡ slice_index_or (list_at lists c.args.i) place item = subst (λ (xs : List (TokenRow g.row.S-Spot.Denot)). item ≡ slice_index_or xs place item) here c.index-list-place.is in
    let cut : cuts (are_rivals against) far k c.args.q item ≡ true = subst (λ (y : TokenRow g.row.S-Spot.Denot). cuts (are_rivals against) far k c.args.q y ≡ true) (sym c.index-list-place.is) (c.in_ok-place.ensures.passes item) in
    let alive : live item.spot = subst (λ (y : TokenRow g.row.S-Spot.Denot). live y.spot) (sym read) (c.requires.all_live c.args.i [] c.requires.within place item within).begin in
    let first : (slice_index_or list place item).spot ≡ x = cc in
    let is : item.spot ≡ x = ap (λ (y : TokenRow g.row.S-Spot.Denot). y.spot) c.index-list-place.is ∙ first in
    subst (IsCutSpot (of_rivals against) far live (all_of lists) k.fact c.args.q) is (cut_spot against far lists c.args.i c.requires.within place within item read k c.args.q cut live alive)

pub returns-clause-found : goal.returns-clause-found
returns-clause-found g c _ =
    let lists = g.T.Tokens.lists c.args.tokens.now in
    let far = g.S.Sure.distance c.args.order.now in
    let against = g.R.Rivals.against c.args.rivals.now in
    let k = c.args.k.now in
    let list = c.list-list.result.now in
    let place = c.in_ok-place.place in
    let item = c.index-list-place.result in
    let here : list ≡ list_at lists c.args.i = c.list-list.ensures in
    let counted : length list ≡ length (list_at lists c.args.i) = ap length here in
    let within : place < length (list_at lists c.args.i) = omega (arith, c.in_ok-place.ensures.before, c.count_until-high.ensures.within) in
    let read : item ≡ slice_index_or (list_at lists c.args.i) place item = subst (λ (xs : List (TokenRow g.row.S-Spot.Denot)). item ≡ slice_index_or xs place item) here c.index-list-place.is in
    let cut : cuts (are_rivals against) far k c.args.q item ≡ true = subst (λ (y : TokenRow g.row.S-Spot.Denot). cuts (are_rivals against) far k c.args.q y ≡ true) (sym c.index-list-place.is) (c.in_ok-place.ensures.passes item) in
    cut_found against far lists c.args.i c.requires.within place within item read k c.args.q cut
