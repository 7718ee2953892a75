use Rattle.std.proofs.Common.{ℕ, ◌≢◌, ◌∷◌, [], sym, subst}
use Rattle.std.proofs.lemmas.Bool.{false≢true}
use Rattle.row_links.specs.Lists.{IsOn}
use Rattle.row_links.proofs.Lists.{IsOn-first}
use Rattle.undo_lists.specs.Changes.{present}
use Rattle.occ_tree.specs.Standing.{nodes_in, present_rows}
use Rattle.occ_tree.proofs.Fewer.{node_gone, node_left, member_left}
use Rattle.occ_tree.proofs.Placing.{have_parents}
use Rattle.occ_tree.proofs.TokenLists.{tokens_same}
use Rattle.occ_tree.proofs.TokensOut.{out_gone}
use Rattle.occ_tree.proofs.leaving.leave.Goals as goal

pub take_out-requires-clause-tokens : goal.take_out-requires-clause-tokens
take_out-requires-clause-tokens c = ([], false≢true, c.requires.tokens)

pub returns-clause-tokens : goal.returns-clause-tokens
returns-clause-tokens c =
    let t = present_rows c.args.nodes.now in
    let u = present_rows c.take.new.self in
    let x = c.args.x in
    let is = c.take.ensures.taken.present_is in
    let parents = have_parents (nodes_in t) c.limit.ensures.stands.placed in
    let other : (y : ℕ) → (IsOn (x ∷ []) y → ⊥) → y ≢ x = λ y free same. free (subst (IsOn (x ∷ [])) (sym same) (IsOn-first x [])) in
    out_gone (nodes_in u) (present c.take_out.new.tokens) x (node_gone t u x is)
    (tokens_same (nodes_in t) (nodes_in u) (present c.take_out.new.tokens) (x ∷ []) (λ y free. node_left t u x is y (other y free)) (λ y free. member_left t u x is c.requires.leaf parents y (other y free)) (c.take_out.ensures.tokens [] false≢true c.requires.tokens))
