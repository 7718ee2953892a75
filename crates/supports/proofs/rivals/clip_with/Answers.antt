use Rattle.std.proofs.Common.{◌∙◌, sym, ap, subst, Some, None}
use Rattle.std.specs.Prelude.{IfSome, IsSome}
use Rattle.std.specs.Ordering.{on}
use Rattle.belief_theory.specs.FirstPlaces.{IsFirstPlace}
use Rattle.clipping.specs.Cutters.{is_between}
use Rattle.spots.specs.Forest.{IsLive}
use Rattle.spots.specs.Spots.{spot_moment, spot_distance, spot_cmp}
use Rattle.occ_tree.specs.OfLists.{IsTreeOf}
use Rattle.occ_tree.specs.Places.{forest}
use Rattle.occ_tree.specs.Tokens.{number_of}
use Rattle.supports.proofs.ByDate.{by_date}
use Rattle.supports.proofs.ByPairs.{no_rival_more, rival_declared, rival_found}
use Rattle.supports.proofs.TokenRows.{no_row, rows_live, rows_of_nodes, live_at_place}
use Rattle.supports.proofs.rivals.clip_with.Goals as goal

pub returns-in_default-clause-clip : goal.returns-in_default-clause-clip
returns-in_default-clause-clip c pairs known b seen holds =
    no_rival_more seen holds (number_of c.args.k.now.spot) c.args.k.now c.requires.token pairs c.args.pair c.requires.no_span c.args.clip (known b seen holds) (sym c.rival_in.ensures ∙ c.in_default.is)

pub returns-in_default-class_of-clause-clip : goal.returns-in_default-class_of-clause-clip
returns-in_default-class_of-clause-clip c pairs known b seen holds =
    let some = rival_declared seen holds (number_of c.args.k.now.spot) c.args.k.now c.requires.token pairs c.args.pair c.requires.no_span c.args.clip (known b seen holds)
    c.in-Some.fact (sym c.rival_in.ensures ∙ c.in-Some.is) c.requires.pair in
    let no = subst IsSome (sym c.class_of.ensures ∙ c.in_default-class_of.is) some in
    cc

pub first_of_fact-requires-clause-all_live : goal.first_of_fact-requires-clause-all_live
first_of_fact-requires-clause-all_live c =
    let tree : IsTreeOf c.requires.dates.list.0 c.args.net.now.present c.args.tree.now = record { seen = c.requires.dates.list.1; dated = c.requires.dates.dated } in
    rows_live tree c.tokens-rows.ensures.rows

pub first_of_fact-requires-clause-by_date : goal.first_of_fact-requires-clause-by_date
first_of_fact-requires-clause-by_date c = by_date c.requires.dates c.tokens-rows.ensures.rows c.tokens-rows.ensures.in_order

pub node_at-requires-clause-nodes : goal.node_at-requires-clause-nodes
node_at-requires-clause-nodes c = rows_of_nodes c.requires.dates.list.1 c.tokens-rows.ensures.rows

pub returns-in-Some-first_of_fact-clause-live : goal.returns-in-Some-first_of_fact-clause-live
returns-in-Some-first_of_fact-clause-live c =
    live_at_place c.requires.dates.list.1 c.tokens-rows.ensures.rows c.in-Some-first_of_fact.place c.node_at.result c.in-Some-first_of_fact.ensures.within c.node_at.ensures

pub returns-in-Some-first_of_fact-clause-clip : goal.returns-in-Some-first_of_fact-clause-clip
returns-in-Some-first_of_fact-clause-clip c pairs known b seen holds =
    let f = forest c.args.tree.now in
    let net = c.args.net.now.present in
    let rows = c.tokens-rows.result.now in
    let k = c.args.k.now in
    ap (λ z. Some (spot_moment net.names f z)) (sym (c.node_at.ensures no_row))
    ∙ rival_found seen holds (number_of k.spot) k c.requires.token pairs c.args.pair c.requires.no_span c.args.clip (known b seen holds) c.in-Some.fact (sym c.rival_in.ensures ∙ c.in-Some.is)
    c.in-Some-class_of.class (sym c.class_of.ensures ∙ c.in-Some-class_of.is) rows c.tokens-rows.ensures.rows (λ y same. subst (λ o. IfSome o (IsLive f)) same c.requires.live) (Some c.in-Some-first_of_fact.place)
    (subst (λ o. IsFirstPlace (on (λ r. r.spot) (spot_cmp net f)) (is_between c.in-Some.fact (spot_distance net f) (spot_cmp net f) k.spot o) rows (Some c.in-Some-first_of_fact.place)) c.spot_of-before.ensures c.in-Some-first_of_fact.ensures)
    no_row

pub returns-in-None-clause-clip : goal.returns-in-None-clause-clip
returns-in-None-clause-clip c pairs known b seen holds =
    let f = forest c.args.tree.now in
    let net = c.args.net.now.present in
    let rows = c.tokens-rows.result.now in
    let k = c.args.k.now in
    rival_found seen holds (number_of k.spot) k c.requires.token pairs c.args.pair c.requires.no_span c.args.clip (known b seen holds) c.in-Some.fact (sym c.rival_in.ensures ∙ c.in-Some.is)
    c.in-Some-class_of.class (sym c.class_of.ensures ∙ c.in-Some-class_of.is) rows c.tokens-rows.ensures.rows (λ y same. subst (λ o. IfSome o (IsLive f)) same c.requires.live) None
    (subst (λ o. IsFirstPlace (on (λ r. r.spot) (spot_cmp net f)) (is_between c.in-Some.fact (spot_distance net f) (spot_cmp net f) k.spot o) rows None) c.spot_of-before.ensures c.in-None.ensures)
    no_row
