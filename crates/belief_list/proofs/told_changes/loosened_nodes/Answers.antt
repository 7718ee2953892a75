use Rattle.std.proofs.Common.{◌∙◌, sym, ap, subst}
use Rattle.std.specs.List.{All}
use Rattle.std.proofs.lemmas.List.Elements.{All-push}
use Rattle.spots.specs.Forest.{IsLive, moment_at}
use Rattle.occ_tree.specs.Places.{forest}
use Rattle.belief_list.specs.Told.{loosened_at}
use Rattle.belief_list.proofs.Neighbours.{with_one, without, passes, fails}
use Rattle.belief_list.proofs.told_changes.loosened_nodes.Goals as goal
use Rattle.belief_list.proofs.told_changes.loosened_nodes.Goals.{then-is_loosened+in_ok-push_number, else-is_loosened}

pub loop-d-preserved : goal.loop-d-preserved
loop-d-preserved c =
    let f = forest c.args.tree.now in
    let told = c.args.told.now in
    let i = c.loop-d.d-index in
    let old = c.loop-d.nodes.items in
    let new = c.if-is_loosened.nodes.items in
    elim c.if-is_loosened.branch [
      | then-is_loosened+in_ok-push_number w ↦
          let grown = ap (λ v. v.items) w.nodes-is ∙ w.in_ok-push_number.ensures in
          record {
            live = subst (All (IsLive f)) (sym grown) (All-push (IsLive f) old _ c.loop-d.invariant.live (c.requires i _ c.loop-d-test.true));
            moments = with_one (moment_at f) (loosened_at f) told old new i _ c.loop-d-test.true c.loop-d.invariant.moments _ grown (passes _ _ (sym c.is_loosened.ensures ∙ w.if-is_loosened.true));
          }
      | else-is_loosened w ↦
          let stayed = ap (λ v. v.items) w.nodes-is in
          record {
            live = subst (All (IsLive f)) (sym stayed) c.loop-d.invariant.live;
            moments = without (moment_at f) (loosened_at f) told old new i _ c.loop-d-test.true c.loop-d.invariant.moments stayed (fails _ _ (sym c.is_loosened.ensures ∙ w.if-is_loosened.false));
          }
    ]
