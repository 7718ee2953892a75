use Rattle.std.proofs.Common.{◌≡◌, ℕ, List, map, sym, subst, ap, ◌∙◌}
use Rattle.std.specs.Prelude.{Option, IfSome}
use Rattle.std.specs.Option.{option_map}
use Rattle.std.specs.List.{All, zip}
use Rattle.std.proofs.lemmas.Result.{IfOk-weaker}
use Rattle.tmm_model.specs.Answers.{rows, clip}
use Rattle.tmm_model.specs.Maps.{built}
use Rattle.spots.specs.Forest.{IsLive, moment_at}
use Rattle.occ_tree.specs.Ranks.{nodes_of}
use Rattle.occ_tree.specs.Places.{forest}
use Rattle.belief_list.specs.KeptRows.{row_under}
use Rattle.belief_list.specs.Rows.{belief_row, row_at, AreAllRanked, IsListing}
use Rattle.belief_list.proofs.ByNumber.{clips_are, clips_live}
use Rattle.belief_list.proofs.Ordered.{as_many, rows_told, nodes_listed}
use Rattle.belief_list.proofs.by_number.listed_by_number.Goals as goal

pub rows_of-requires : goal.rows_of-requires
rows_of-requires c =
    let s = c.args.map.now.standing.now.present in
    let f = forest c.args.map.now.tree.now in
    let rs = c.as_slice-ranked.result.now in
    let cs = c.as_slice.result.now in
    let all = subst (AreAllRanked c.args.map.now.net.now.present f) (sym c.as_slice-ranked.ensures.value) c.in_ok-nodes.ensures in
    let clipped : map (option_map (moment_at f)) cs ≡ map (λ x. clip (built s) (moment_at f x)) (nodes_of rs) =
    ap (map (option_map (moment_at f))) (c.as_slice.ensures.value ∙ c.in_ok-clips.ensures) ∙ clips_are s f (row_under c.args.kept.now) c.requires.kept (nodes_of rs) all.live in
    as_many s c.args.map.now.net.now.present f c.requires.seen.seen c.requires.holds rs cs clipped

pub returns-clause-rows : goal.returns-clause-rows
returns-clause-rows c =
    let s = c.args.map.now.standing.now.present in
    let f = forest c.args.map.now.tree.now in
    let rs = c.as_slice-ranked.result.now in
    let cs = c.as_slice.result.now in
    let all = subst (AreAllRanked c.args.map.now.net.now.present f) (sym c.as_slice-ranked.ensures.value) c.in_ok-nodes.ensures in
    let clipped : map (option_map (moment_at f)) cs ≡ map (λ x. clip (built s) (moment_at f x)) (nodes_of rs) =
    ap (map (option_map (moment_at f))) (c.as_slice.ensures.value ∙ c.in_ok-clips.ensures) ∙ clips_are s f (row_under c.args.kept.now) c.requires.kept (nodes_of rs) all.live in
    IfOk-weaker c.rows_of.result (λ list. list.items ≡ map belief_row (zip rs cs)) (λ list. map (row_at f) list.items ≡ rows (built s))
    (λ list told. rows_told s c.args.map.now.net.now.present f c.requires.seen.seen c.requires.holds rs all cs clipped list.items told)
    c.rows_of.ensures

pub returns-clause-listing : goal.returns-clause-listing
returns-clause-listing c =
    let s = c.args.map.now.standing.now.present in
    let f = forest c.args.map.now.tree.now in
    let rs = c.as_slice-ranked.result.now in
    let cs = c.as_slice.result.now in
    let all = subst (AreAllRanked c.args.map.now.net.now.present f) (sym c.as_slice-ranked.ensures.value) c.in_ok-nodes.ensures in
    let same = c.as_slice.ensures.value ∙ c.in_ok-clips.ensures in
    let clipped : map (option_map (moment_at f)) cs ≡ map (λ x. clip (built s) (moment_at f x)) (nodes_of rs) =
    ap (map (option_map (moment_at f))) same ∙ clips_are s f (row_under c.args.kept.now) c.requires.kept (nodes_of rs) all.live in
    let live : All (λ (c : Option ℕ). IfSome c (IsLive f)) cs = subst (λ (l : List (Option ℕ)). All (λ (c : Option ℕ). IfSome c (IsLive f)) l) (sym same) (clips_live s f (row_under c.args.kept.now) c.requires.kept (nodes_of rs) all.live) in
    IfOk-weaker c.rows_of.result (λ list. list.items ≡ map belief_row (zip rs cs)) (λ list. IsListing f list.items)
    (λ list told. nodes_listed s c.args.map.now.net.now.present f c.requires.seen.seen c.requires.holds rs all cs clipped list.items told live)
    c.rows_of.ensures
