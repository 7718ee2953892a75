use Rattle.std.proofs.Common.{◌≡◌, ◌==◌, List, true, false, length, sym, ◌∙◌, ap}
use Rattle.std.specs.Prelude.{ℕ}
use Rattle.tmm_model.specs.declared.point.PointName.TheVariants.{Begin}
use Rattle.belief_list.proofs.LeftNodes.{if_some}
use Rattle.belief_list.proofs.left_nodes.if_derived.Goals as goal

pub returns-else-is_empty : goal.returns-else-is_empty
returns-else-is_empty c =
    let occ = c.args.occ.now in
    sym (if_some (Begin occ.root) occ.rules.items
    (λ e. (let empty : true ≡ false = sym (c.is_empty.ensures ∙ ap (λ (l : List (List ℕ)). length l == 0) (c.items.ensures ∙ e)) ∙ c.if-is_empty.false in cc)))
