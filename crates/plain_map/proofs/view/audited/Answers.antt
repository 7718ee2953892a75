use Rattle.std.proofs.Common.{◌≡◌, ◌∙◌, List, map, ap}
use Rattle.std.specs.Prelude.{◌↔◌, IsTrue}
use Rattle.tmm_model.specs.Moments.{moment_of}
use Rattle.tmm_model.specs.declared.point.Occ.{Occ}
use Rattle.spots.specs.Forest.{moment_at}
use Rattle.occ_tree.specs.Places.{forest}
use Rattle.belief_list.specs.declared.list.BeliefRow.{BeliefRow}
use Rattle.belief_theory.specs.Believed.{believed_in_order}
use Rattle.belief_list.proofs.RowOrder.{rows_in_order}
use Rattle.belief_list.proofs.WholeChanges.{if_ok}
use Rattle.plain_map.proofs.view.audited.Goals as goal

pub returns : goal.returns
returns c =
    let list = c.args.map.now.standing.now.present in
    let tree = forest c.args.map.now.tree.now in
    let is : map moment_of c.items-2.result.now ≡ believed_in_order list =
    ap (λ (l : List Occ). map moment_of l) c.items-2.ensures
    ∙ c.in_ok-rows.ensures
    ∙ ap (λ (l : List BeliefRow). map (λ r. moment_at tree r.node) l) c.items.ensures
    ∙ rows_in_order list tree c.args.view.now.rows.items c.requires.view.listing in
    if_ok (λ good. IsTrue good ↔ (map moment_of c.items-2.result.now ≡ believed_in_order list)) (λ good. IsTrue good) (λ good h. h.1 is) c.audit.result c.audit.ensures
