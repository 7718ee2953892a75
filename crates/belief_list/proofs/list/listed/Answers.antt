use Rattle.std.proofs.Common.{◌≡◌, ℕ, List, map, sym, subst, ap, ◌∙◌}
use Rattle.std.specs.Prelude.{Option, IfSome}
use Rattle.std.specs.Option.{option_map}
use Rattle.std.specs.List.{All, zip}
use Rattle.std.proofs.lemmas.Result.{IfOk-weaker}
use Rattle.tmm_model.specs.Answers.{rows, clip}
use Rattle.tmm_model.specs.Maps.{built}
use Rattle.spots.specs.Forest.{IsLive, moment_at}
use Rattle.occ_tree.specs.Ranks.{nodes_of}
use Rattle.occ_tree.specs.Places.{forest}
use Rattle.belief_list.specs.Rows.{belief_row, row_at, AreAllRanked, IsListing}
use Rattle.belief_list.proofs.Ordered.{as_many, rows_told, nodes_listed}
use Rattle.belief_list.proofs.list.listed.Goals as goal

pub clips-requires-clause-live : goal.clips-requires-clause-live
clips-requires-clause-live c = (subst (AreAllRanked c.args.map.now.net.now.present (forest c.args.map.now.tree.now)) (sym c.as_slice-ranked.ensures.value) c.in_ok-nodes.ensures).live

pub clips-requires-clause-all : goal.clips-requires-clause-all
clips-requires-clause-all c = (subst (AreAllRanked c.args.map.now.net.now.present (forest c.args.map.now.tree.now)) (sym c.as_slice-ranked.ensures.value) c.in_ok-nodes.ensures).all

pub clips-requires-clause-in_order : goal.clips-requires-clause-in_order
clips-requires-clause-in_order c = (subst (AreAllRanked c.args.map.now.net.now.present (forest c.args.map.now.tree.now)) (sym c.as_slice-ranked.ensures.value) c.in_ok-nodes.ensures).in_order

pub rows_of-requires : goal.rows_of-requires
rows_of-requires c =
    let s = c.args.map.now.standing.now.present in
    let f = forest c.args.map.now.tree.now in
    let rs = c.as_slice-ranked.result.now in
    let cs = c.as_slice.result.now in
    let clipped : map (option_map (moment_at f)) cs ≡ map (λ x. clip (built s) (moment_at f x)) (nodes_of rs) =
    ap (map (option_map (moment_at f))) c.as_slice.ensures.value ∙ c.in_ok-clips.ensures.first (built s).believed c.requires.seen.seen c.requires.holds in
    as_many s c.args.map.now.net.now.present f c.requires.seen.seen c.requires.holds rs cs clipped

pub returns-clause-rows : goal.returns-clause-rows
returns-clause-rows c =
    let s = c.args.map.now.standing.now.present in
    let f = forest c.args.map.now.tree.now in
    let rs = c.as_slice-ranked.result.now in
    let cs = c.as_slice.result.now in
    let all = subst (AreAllRanked c.args.map.now.net.now.present (forest c.args.map.now.tree.now)) (sym c.as_slice-ranked.ensures.value) c.in_ok-nodes.ensures in
    let clipped : map (option_map (moment_at f)) cs ≡ map (λ x. clip (built s) (moment_at f x)) (nodes_of rs) =
    ap (map (option_map (moment_at f))) c.as_slice.ensures.value ∙ c.in_ok-clips.ensures.first (built s).believed c.requires.seen.seen c.requires.holds in
    IfOk-weaker c.rows_of.result (λ list. list.items ≡ map belief_row (zip rs cs)) (λ list. map (row_at f) list.items ≡ rows (built s))
    (λ list told. rows_told s c.args.map.now.net.now.present f c.requires.seen.seen c.requires.holds rs all cs clipped list.items told)
    c.rows_of.ensures

pub returns-clause-listing : goal.returns-clause-listing
returns-clause-listing c =
    let s = c.args.map.now.standing.now.present in
    let f = forest c.args.map.now.tree.now in
    let rs = c.as_slice-ranked.result.now in
    let cs = c.as_slice.result.now in
    let all = subst (AreAllRanked c.args.map.now.net.now.present (forest c.args.map.now.tree.now)) (sym c.as_slice-ranked.ensures.value) c.in_ok-nodes.ensures in
    let clipped : map (option_map (moment_at f)) cs ≡ map (λ x. clip (built s) (moment_at f x)) (nodes_of rs) =
    ap (map (option_map (moment_at f))) c.as_slice.ensures.value ∙ c.in_ok-clips.ensures.first (built s).believed c.requires.seen.seen c.requires.holds in
    let live : All (λ (c : Option ℕ). IfSome c (IsLive f)) cs = subst (λ (l : List (Option ℕ)). All (λ (c : Option ℕ). IfSome c (IsLive f)) l) (sym c.as_slice.ensures.value) c.in_ok-clips.ensures.live in
    IfOk-weaker c.rows_of.result (λ list. list.items ≡ map belief_row (zip rs cs)) (λ list. IsListing f list.items)
    (λ list told. nodes_listed s c.args.map.now.net.now.present f c.requires.seen.seen c.requires.holds rs all cs clipped list.items told live)
    c.rows_of.ensures
