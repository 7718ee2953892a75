use Rattle.std.proofs.Common.{◌≡◌, ◌∙◌, List, map, ap, sym, subst}
use Rattle.std.specs.List.{All}
use Rattle.tmm_model.specs.Answers.{rows, row_of}
use Rattle.tmm_model.specs.Maps.{built}
use Rattle.occ_tree.specs.Places.{forest}
use Rattle.belief_list.specs.declared.list.BeliefRow.{BeliefRow}
use Rattle.belief_list.specs.Rows.{row_at, IsLiveRow}
use Rattle.belief_list.proofs.WholeChanges.{if_ok}
use Rattle.map_engine.proofs.kept_view.kept_rows.Goals as goal

pub list_rows-requires : goal.list_rows-requires
list_rows-requires c = subst (λ (l : List BeliefRow). All (IsLiveRow (forest c.args.map.now.tree.now)) l) (sym c.items.ensures) c.in_ok-rows.ensures.listing.live

pub returns : goal.returns
returns c =
    let list = c.args.map.now.standing.now.present in
    let f = forest c.args.map.now.tree.now in
    let listing = ap (λ (l : List BeliefRow). map (row_at f) l) c.items.ensures ∙ c.in_ok-rows.ensures.rows in
    if_ok (λ found. map row_of found.items ≡ map (row_at f) c.items.result.now) (λ found. map row_of found.items ≡ rows (built list)) (λ found is. is ∙ listing) c.list_rows.result c.list_rows.ensures
