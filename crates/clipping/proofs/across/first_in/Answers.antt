use Rattle.std.proofs.Common.{◌≡◌, ℕ, subst, sym}
use Rattle.std.specs.Ordering.{on}
use Rattle.tmm_model.specs.declared.token.TokenRow.{TokenRow}
use Rattle.tmm_model.specs.Tokens.{of_one_class}
use Rattle.belief_theory.specs.FirstPlaces.{IsFirstPlace}
use Rattle.clipping.specs.Across.{list_at}
use Rattle.clipping.specs.Cutters.{clips_until}
use Rattle.clipping.specs.Rivals.{are_rivals, of_rivals}
use Rattle.clipping.proofs.Rivals.{own_first, other_first}
use Rattle.clipping.proofs.across.first_in.Goals as goal

pub returns-then-i-own : goal.returns-then-i-own
returns-then-i-own g c =
    let lists = g.T.Tokens.lists c.args.tokens.now in
    let far = g.S.Sure.distance c.args.order.now in
    let cmp = on (λ (x : TokenRow g.row.S-Spot.Denot). x.spot) (g.S.Sure.order c.args.order.now) in
    let against = g.R.Rivals.against c.args.rivals.now in
    let k = c.args.k.now in
    let place = c.first_clip.result in
    let same : c.args.own ≡ c.args.i = sym c.if-i-own.true in
    let here : IsFirstPlace cmp (clips_until of_one_class far k c.args.until) (list_at lists c.args.own) place = subst (λ xs. IsFirstPlace cmp (clips_until of_one_class far k c.args.until) xs place) (let e = c.list-list.ensures in cc) c.first_clip.ensures in
    subst (λ (i : ℕ). IsFirstPlace cmp (clips_until (of_rivals against) far k c.args.until) (list_at lists i) place) same
    (own_first against (g.met.R.Rivals.irreflexive c.args.rivals.now) far lists c.args.own c.requires.by_class c.requires.own k c.requires.k cmp c.args.until place here)

pub returns-else-i-own : goal.returns-else-i-own
returns-else-i-own g c =
    let lists = g.T.Tokens.lists c.args.tokens.now in
    let far = g.S.Sure.distance c.args.order.now in
    let cmp = on (λ (x : TokenRow g.row.S-Spot.Denot). x.spot) (g.S.Sure.order c.args.order.now) in
    let against = g.R.Rivals.against c.args.rivals.now in
    let k = c.args.k.now in
    let place = c.first_rival.result in
    let here : IsFirstPlace cmp (clips_until (are_rivals against) far k c.args.until) (list_at lists c.args.i) place = subst (λ xs. IsFirstPlace cmp (clips_until (are_rivals against) far k c.args.until) xs place) c.list-list.ensures c.first_rival.ensures in
    other_first against (g.met.R.Rivals.irreflexive c.args.rivals.now) far lists c.args.own c.requires.by_class c.requires.own k c.requires.k cmp c.args.until place c.args.i c.requires.within c.if-i-own.false here
