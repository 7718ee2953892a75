use Rattle.std.proofs.Common.{◌≡◌, ◌+◌, true, subst, sym}
use Rattle.std.specs.List.{list_any}
use Rattle.std.proofs.lemmas.List.{get_or_read}
use Rattle.tmm_model.specs.declared.token.TokenRow.{TokenRow}
use Rattle.tmm_model.specs.Tokens.{of_one_class, cuts}
use Rattle.clipping.specs.ByDate.{NonePass}
use Rattle.clipping.proofs.Cutting.{cutter_begins}
use Rattle.clipping.proofs.RuledOut.{none_cuts, one_passes}
use Rattle.clipping.proofs.by_date.is_cut.Goals as goal

pub returns-in-Some-clause-cut : goal.returns-in-Some-clause-cut
returns-in-Some-clause-cut g c = λ d.
    let tokens = c.args.tokens.now in
    let far = g.S.Sure.distance c.args.order.now in
    let item = c.index-tokens-i.result in
    subst (λ (k : TokenRow g.row.S-Spot.Denot). true ≡ list_any (cuts of_one_class far k c.args.q) tokens) (get_or_read tokens c.args.i item c.requires.within c.index-tokens-i.is d)
    (sym (one_passes (cuts of_one_class far item c.args.q) tokens _ _ _ c.requires.reach.within c.in-Some.ensures))

pub returns-in-Some-clause-begins : goal.returns-in-Some-clause-begins
returns-in-Some-clause-begins g c = λ before.
    cutter_begins (g.S.Sure.distance c.args.order.now) c.args.tokens.now c.index-tokens-i.result c.args.q (c.args.i + 1) c.args.reach c.in-Some.c c.requires.reach.within c.in-Some.ensures _ c.go_to.ensures

pub returns-in-None-clause-cut : goal.returns-in-None-clause-cut
returns-in-None-clause-cut g c = λ d.
    let tokens = c.args.tokens.now in
    let far = g.S.Sure.distance c.args.order.now in
    sym (none_cuts (g.met.S.Dated.dated c.args.order.now) tokens c.requires.by_date c.requires.all_live of_one_class c.args.i d c.requires.within c.args.q c.requires.q_live c.args.reach c.requires.reach
    (subst (λ (k : TokenRow g.row.S-Spot.Denot). NonePass (cuts of_one_class far k c.args.q) tokens (c.args.i + 1) c.args.reach) (get_or_read tokens c.args.i c.index-tokens-i.result c.requires.within c.index-tokens-i.is d) c.in-None.ensures))
