use Rattle.std.proofs.Common.{◌≡◌, ◌∙◌, List, map, ap, sym, subst}
use Rattle.std.specs.List.{All}
use Rattle.std.specs.Prelude.{◌↔◌, IsTrue}
use Rattle.tmm_model.specs.Moments.{moment_of}
use Rattle.tmm_model.specs.declared.point.Occ.{Occ}
use Rattle.spots.specs.Forest.{moment_at}
use Rattle.occ_tree.specs.Places.{forest}
use Rattle.belief_list.specs.declared.list.BeliefRow.{BeliefRow}
use Rattle.belief_list.specs.Rows.{IsLiveRow}
use Rattle.belief_theory.specs.Believed.{believed_in_order}
use Rattle.belief_list.proofs.RowOrder.{rows_in_order}
use Rattle.belief_list.proofs.WholeChanges.{if_ok}
use Rattle.map_engine.proofs.kept_view.audited_view.Goals as goal

pub occurrences-requires : goal.occurrences-requires
occurrences-requires c = subst (λ (l : List BeliefRow). All (IsLiveRow (forest c.args.map.now.tree.now)) l) (sym c.items.ensures) c.in_ok-rows.ensures.listing.live

pub returns : goal.returns
returns c =
    let list = c.args.map.now.standing.now.present in
    let tree = forest c.args.map.now.tree.now in
    let is : map moment_of c.items-2.result.now ≡ believed_in_order list =
    ap (λ (l : List Occ). map moment_of l) c.items-2.ensures
    ∙ c.in_ok-occs.ensures
    ∙ ap (λ (l : List BeliefRow). map (λ r. moment_at tree r.node) l) c.items.ensures
    ∙ rows_in_order list tree c.in_ok-rows.rows.items c.in_ok-rows.ensures.rows in
    if_ok (λ good. IsTrue good ↔ (map moment_of c.items-2.result.now ≡ believed_in_order list)) (λ good. IsTrue good) (λ good h. h.1 is) c.audit.result c.audit.ensures
