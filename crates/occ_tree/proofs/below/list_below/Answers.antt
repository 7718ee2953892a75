use Rattle.std.proofs.Common.{◌∙◌, [], ◌∷◌, ◌++◌, ap, sym, subst}
use Rattle.occ_tree.specs.Below.{AreTops, ListAllBelow}
use Rattle.occ_tree.specs.Standing.{nodes_in, present_rows}
use Rattle.occ_tree.proofs.Gathering.{one_top, lists_one}
use Rattle.occ_tree.proofs.Placing.{have_parents}
use Rattle.occ_tree.proofs.below.list_below.Goals as goal

pub push_below-requires : goal.push_below-requires
push_below-requires c =
    let node = nodes_in (present_rows c.args.nodes.now) in
    let is = c.in_ok-push.ensures ∙ ap (λ l. l ++ c.args.x ∷ []) c.new-numbers.ensures.items in
    subst (AreTops node) (sym is) (one_top node (have_parents node c.limit.ensures.stands.placed) c.args.x c.requires)

pub returns : goal.returns
returns c =
    let node = nodes_in (present_rows c.args.nodes.now) in
    let is = c.in_ok-push.ensures ∙ ap (λ l. l ++ c.args.x ∷ []) c.new-numbers.ensures.items in
    lists_one node c.args.x c.push_below.new.numbers.items (subst (λ l. ListAllBelow node l c.push_below.new.numbers.items) is c.in_ok-push_below.ensures)
