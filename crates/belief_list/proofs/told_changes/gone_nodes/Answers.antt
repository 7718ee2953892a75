use Rattle.std.proofs.Common.{◌≡◌, ◌∙◌, ◌++◌, ◌∷◌, [], sym, ap, subst}
use Rattle.std.specs.List.{All}
use Rattle.std.specs.Option.{is_some, option_map, option_copied}
use Rattle.std.proofs.lemmas.List.Elements.{All-push}
use Rattle.tmm_model.specs.Moments.{moment_of}
use Rattle.belief_list.specs.declared.told_changes.Told.{Told}
use Rattle.belief_list.specs.Told.{left_at, IsToldThen}
use Rattle.belief_list.proofs.Told.{pushed_same, passed_same, told_then}
use Rattle.belief_list.proofs.told_changes.gone_nodes.Goals as goal
use Rattle.belief_list.proofs.told_changes.gone_nodes.Goals.{in-Some+in_ok-gone_node+in_ok-push, in_default}

pub loop-d-preserved : goal.loop-d-preserved
loop-d-preserved c =
    let left = c.args.left.now in
    let places = c.args.places.now in
    let ds = c.args.differences.now in
    let i = c.loop-d.d-index in
    let old = c.loop-d.told.items in
    let new = c.match-left_occ.told.items in
    elim c.match-left_occ.branch [
      | in-Some+in_ok-gone_node+in_ok-push w ↦
          let t = w.in_ok-gone_node.field-0 in
          let grown : new ≡ old ++ t ∷ [] = ap (λ v. v.items) w.told-is ∙ w.in_ok-push.ensures in
          let found = sym c.left_occ.ensures ∙ ap (λ o. option_map moment_of (option_copied o)) w.in-Some.is in
          record {
            same = pushed_same (λ (z : Told). z.difference) (λ d. is_some (left_at left places d)) old new ds i _ c.loop-d-test.true c.loop-d.invariant.same t grown w.in_ok-gone_node.ensures.difference (ap is_some found);
            dated = subst (All (IsToldThen left places)) (sym grown)
                (All-push (IsToldThen left places) old t c.loop-d.invariant.dated
                (told_then left places t _ _ w.in_ok-gone_node.ensures.difference found w.in_ok-gone_node.ensures.early w.in_ok-gone_node.ensures.word));
          }
      | in_default w ↦
          let stayed : new ≡ old = ap (λ v. v.items) w.told-is in
          let none = sym c.left_occ.ensures ∙ ap (λ o. option_map moment_of (option_copied o)) w.in_default.is in
          record {
            same = passed_same (λ (z : Told). z.difference) (λ d. is_some (left_at left places d)) old new ds i _ c.loop-d-test.true c.loop-d.invariant.same stayed (ap is_some none);
            dated = subst (All (IsToldThen left places)) (sym stayed) c.loop-d.invariant.dated;
          }
    ]
