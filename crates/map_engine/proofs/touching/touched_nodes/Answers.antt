use Rattle.std.proofs.Common.{◌∙◌, List, sym, subst}
use Rattle.std.specs.List.{Contains}
use Rattle.tmm_model.specs.Moments.{moment_of}
use Rattle.list_theory.proofs.Elements.{In, In-map, Contains-from_In}
use Rattle.occ_tree.specs.Places.{forest}
use Rattle.belief_turns.specs.Numbered.{left_under}
use Rattle.belief_table.specs.declared.dated.DatedOcc.{DatedOcc}
use Rattle.map_engine.specs.Touching.{HasNodeOf}
use Rattle.map_engine.proofs.touching.touched_nodes.Goals as goal

pub returns : goal.returns
returns c =
    let f = forest c.args.tree.now in
    let numbers = c.push_added.new.found.items in
    let last = c.in_ok-push_added.ensures in
    let entered = c.in_ok-push_entered.ensures in
    let left = c.in_ok-push_left.ensures in
    record {
      entered = λ k at.
          let (m, there, is) = In-map (λ (m : DatedOcc). moment_of m.occ) c.args.told.now.entered.items k at in
          let has : HasNodeOf f (moment_of m.occ) c.push_entered.new.found.items = entered.pushed m (subst (λ (l : List DatedOcc). Contains l m) (sym c.items-2.ensures) (Contains-from_In c.args.told.now.entered.items m there)) in
          λ x live same. last.kept x (has x live (same ∙ sym is));
      left = λ x k at. last.kept x (entered.kept x (left.pushed x k (subst (λ (l : List DatedOcc). In (x, k) (left_under l)) (sym c.items.ensures) at)));
      root = last.pushed;
      beside = λ x at. last.kept x (entered.kept x (left.kept x (c.in_ok-push_numbers.ensures.pushed x at)));
    }
