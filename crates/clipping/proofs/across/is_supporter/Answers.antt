use Rattle.std.proofs.Common.{◌≡◌, ◌∙◌, true, false, not, List, ap, subst, sym}
use Rattle.std.specs.List.{Contains}
use Rattle.std.proofs.lemmas.List.{get_or_read}
use Rattle.std.proofs.lemmas.List.Elements.{Contains-get_or}
use Rattle.std.specs.Prelude.{slice_index_or}
use Rattle.tmm_model.specs.declared.token.TokenRow.{TokenRow}
use Rattle.tmm_model.specs.Tokens.{of_one_class, supports}
use Rattle.clipping.specs.Across.{list_at, all_of}
use Rattle.clipping.specs.Rivals.{of_rivals}
use Rattle.std.specs.Cmp.Lexicographic.{bytes_decides}
use Rattle.tmm_model.specs.Points.{same_name}
use Rattle.clipping.proofs.CutSpots.{kept_spot, other_fact, cut_off, known_cut, told_at, not_true, not_false}
use Rattle.clipping.proofs.Rivals.{no_support, persistence_supports}
use Rattle.clipping.proofs.across.is_supporter.Goals as goal

pub returns-then-not-supports_its_fact-clause-supports : goal.returns-then-not-supports_its_fact-clause-supports
returns-then-not-supports_its_fact-clause-supports g c d =
    let lists = g.T.Tokens.lists c.args.tokens.now in
    let far = g.S.Sure.distance c.args.order.now in
    let own = list_at lists c.args.own in
    let k = slice_index_or own c.args.i d in
    let read : c.index-list-i.result ≡ k = get_or_read own c.args.i c.index-list-i.result c.requires.within (subst (λ (xs : List (TokenRow g.row.S-Spot.Denot)). c.index-list-i.result ≡ slice_index_or xs c.args.i c.index-list-i.result) c.list-list.ensures c.index-list-i.is) d in
    let same : k.fact ≡ c.args.fact.now =
    ap (λ (x : TokenRow g.row.S-Spot.Denot). x.fact) (sym read)
    ∙ (bytes_decides c.index-list-i.result.fact c.args.fact.now).0 (not_false (same_name c.index-list-i.result.fact c.args.fact.now) (sym c.ne.ensures ∙ c.if-ne.false)) in
    let fails : supports of_one_class far own c.args.fact.now c.args.p c.args.q k ≡ false =
    subst (λ f. supports of_one_class far own f c.args.p c.args.q k ≡ false) same
    (subst (λ (xs : List (TokenRow g.row.S-Spot.Denot)). supports of_one_class far xs (slice_index_or xs c.args.i d).fact c.args.p c.args.q (slice_index_or xs c.args.i d) ≡ false) c.list-list.ensures
    (sym (c.supports_its_fact.ensures.supports d) ∙ c.if-not-supports_its_fact.true)) in
    sym (no_support (g.R.Rivals.against c.args.rivals.now) (g.met.R.Rivals.irreflexive c.args.rivals.now) far lists c.args.own c.requires.by_class c.requires.own k (Contains-get_or own c.args.i d c.requires.within) c.args.fact.now c.args.p c.args.q fails)

pub returns-in-None-clause-supports : goal.returns-in-None-clause-supports
returns-in-None-clause-supports g c d =
    let lists = g.T.Tokens.lists c.args.tokens.now in
    let against = g.R.Rivals.against c.args.rivals.now in
    let far = g.S.Sure.distance c.args.order.now in
    let own = list_at lists c.args.own in
    let list = c.list-list.result.now in
    let k = c.index-list-i.result in
    let read : k ≡ slice_index_or own c.args.i k = subst (λ (xs : List (TokenRow g.row.S-Spot.Denot)). k ≡ slice_index_or xs c.args.i k) c.list-list.ensures c.index-list-i.is in
    let same : k.fact ≡ c.args.fact.now = (bytes_decides k.fact c.args.fact.now).0 (not_false (same_name k.fact c.args.fact.now) (sym c.ne.ensures ∙ c.if-ne.false)) in
    let held : supports of_one_class far own c.args.fact.now c.args.p c.args.q k ≡ true =
    subst (λ (xs : List (TokenRow g.row.S-Spot.Denot)). supports of_one_class far xs c.args.fact.now c.args.p c.args.q k ≡ true) c.list-list.ensures
    (subst (λ f. supports of_one_class far list f c.args.p c.args.q k ≡ true) same
    (subst (λ (x : TokenRow g.row.S-Spot.Denot). supports of_one_class far list x.fact c.args.p c.args.q x ≡ true) (sym c.index-list-i.is) (sym (c.supports_its_fact.ensures.supports k) ∙ c.if-not-supports_its_fact.false))) in
    let here : Contains own k = (c.args.i, c.requires.within, sym read) in
    subst (λ (x : TokenRow g.row.S-Spot.Denot). not c.is_cut_elsewhere.result ≡ supports (of_rivals against) far (all_of lists) c.args.fact.now c.args.p c.args.q x) (get_or_read own c.args.i k c.requires.within read d)
    (sym (persistence_supports against (g.met.R.Rivals.irreflexive c.args.rivals.now) far lists c.args.own c.requires.by_class c.requires.own k here c.args.fact.now c.args.p c.args.q
    c.is_cut_elsewhere.result c.in-None.is held c.is_cut_elsewhere.ensures.cut c.is_cut_elsewhere.ensures.uncut))

pub returns-then-ne-clause-supports : goal.returns-then-ne-clause-supports
returns-then-ne-clause-supports g c d =
    let lists = g.T.Tokens.lists c.args.tokens.now in
    let rivals = of_rivals (g.R.Rivals.against c.args.rivals.now) in
    let far = g.S.Sure.distance c.args.order.now in
    let own = list_at lists c.args.own in
    let k = c.index-list-i.result in
    let read : k ≡ slice_index_or own c.args.i k = subst (λ (xs : List (TokenRow g.row.S-Spot.Denot)). k ≡ slice_index_or xs c.args.i k) c.list-list.ensures c.index-list-i.is in
    let apart : not (same_name k.fact c.args.fact.now) ≡ true = sym c.ne.ensures ∙ c.if-ne.true in
    told_at (supports rivals far (all_of lists) c.args.fact.now c.args.p c.args.q) own c.args.i k c.requires.within read false (other_fact rivals far (all_of lists) c.args.fact.now c.args.p c.args.q k (not_true (same_name k.fact c.args.fact.now) apart)) d

pub returns-then-is_cut_at-clause-supports : goal.returns-then-is_cut_at-clause-supports
returns-then-is_cut_at-clause-supports g c d =
    let lists = g.T.Tokens.lists c.args.tokens.now in
    let rivals = of_rivals (g.R.Rivals.against c.args.rivals.now) in
    let far = g.S.Sure.distance c.args.order.now in
    let own = list_at lists c.args.own in
    let k = c.index-list-i.result in
    let read : k ≡ slice_index_or own c.args.i k = subst (λ (xs : List (TokenRow g.row.S-Spot.Denot)). k ≡ slice_index_or xs c.args.i k) c.list-list.ensures c.index-list-i.is in
    let same : k.fact ≡ c.args.fact.now = (bytes_decides k.fact c.args.fact.now).0 (not_false (same_name k.fact c.args.fact.now) (sym c.ne.ensures ∙ c.if-ne.false)) in
    let cut = known_cut rivals far (g.S.Sure.live c.args.order.now) (all_of lists) c.args.fact.now c.args.q c.args.elsewhere.now c.requires.cut k same c.is_cut_at.result c.is_cut_at.ensures c.if-is_cut_at.true in
    told_at (supports rivals far (all_of lists) c.args.fact.now c.args.p c.args.q) own c.args.i k c.requires.within read false (cut_off rivals far (all_of lists) c.args.fact.now c.args.p c.args.q k cut.0 cut.1) d

pub returns-in-None-clause-cut : goal.returns-in-None-clause-cut
returns-in-None-clause-cut g c =
    let k = c.index-list-i.result in
    let same : k.fact ≡ c.args.fact.now = (bytes_decides k.fact c.args.fact.now).0 (not_false (same_name k.fact c.args.fact.now) (sym c.ne.ensures ∙ c.if-ne.false)) in
    kept_spot (of_rivals (g.R.Rivals.against c.args.rivals.now)) (g.S.Sure.distance c.args.order.now) (g.S.Sure.live c.args.order.now) (all_of (g.T.Tokens.lists c.args.tokens.now)) c.args.q k.fact c.args.fact.now same c.args.elsewhere.now _ c.is_cut_elsewhere.ensures.spot c.requires.cut
