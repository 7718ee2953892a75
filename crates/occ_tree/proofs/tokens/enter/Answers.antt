use Rattle.std.proofs.Common.{◌≡◌, ◌∙◌, ap, sym, subst, [], ◌∷◌, Some}
use Rattle.std.proofs.lemmas.Bool.{false≢true}
use Rattle.std.specs.Prelude.{IfSome}
use Rattle.undo_lists.specs.Changes.{present}
use Rattle.occ_tree.specs.Standing.{nodes_in, present_rows}
use Rattle.occ_tree.specs.Tokens.{HasRoom}
use Rattle.occ_tree.specs.declared.node.Node.{Node}
use Rattle.occ_tree.proofs.Entering.{node_new}
use Rattle.occ_tree.proofs.Entered.{tokens_out}
use Rattle.occ_tree.proofs.TokenLists.{rows_of, some_is}
use Rattle.occ_tree.proofs.tokens.enter.Goals as goal

pub put_in-requires-clause-live : goal.put_in-requires-clause-live
put_in-requires-clause-live c =
    let a = c.in_ok-x.ensures.ok in
    some_is (nodes_in (present_rows c.add.new.self) c.in_ok-x.x) c.args.node (node_new (present_rows c.args.nodes.now) (present_rows c.add.new.self) c.in_ok-x.x c.args.node a.free a.present_is)

pub put_in-requires-clause-rows : goal.put_in-requires-clause-rows
put_in-requires-clause-rows c = rows_of (nodes_in (present_rows c.add.new.self)) (present c.args.tokens.now) (c.in_ok-x.x ∷ []) (tokens_out c.args.nodes.now c.add.new.self c.in_ok-x.x c.args.node (present c.args.tokens.now) c.in_ok-x.ensures.ok c.add.ensures.placed c.requires.tokens)

pub put_in-requires-clause-room : goal.put_in-requires-clause-room
put_in-requires-clause-room c = λ k (n, at, list).
    let a = c.in_ok-x.ensures.ok in
    let both : Some c.args.node ≡ Some n = sym (node_new (present_rows c.args.nodes.now) (present_rows c.add.new.self) c.in_ok-x.x c.args.node a.free a.present_is) ∙ at in
    let same : c.args.node ≡ n = cc in
    subst (λ o. IfSome o (HasRoom c.args.tokens.now)) (ap (λ (q : Node). q.list) same ∙ list) c.requires.room

pub returns-clause-tokens : goal.returns-clause-tokens
returns-clause-tokens c = c.put_in.ensures.tokens [] false≢true (tokens_out c.args.nodes.now c.add.new.self c.in_ok-x.x c.args.node (present c.args.tokens.now) c.in_ok-x.ensures.ok c.add.ensures.placed c.requires.tokens)
