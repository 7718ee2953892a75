use Rattle.std.proofs.Common.{◌≡◌, ◌∙◌, [], ap, sym, subst}
use Rattle.std.specs.Option.{option_map_or}
use Rattle.undo_lists.specs.Changes as lists
use Rattle.occ_tree.specs.Standing.{Kept, nodes_in, present_rows, present, forest, order, tokens_under}
use Rattle.spots.specs.Forest.{IsOnce}
use Rattle.spots.specs.Spots.{AreTokens}
use Rattle.occ_tree.specs.Tokens.{IsInOrder, numbers_in}
use Rattle.occ_tree.proofs.Finding.{one_number}
use Rattle.occ_tree.proofs.Keeping.{tokens_of, order_of}
use Rattle.occ_tree.proofs.tree.Tree.tokens.Goals as goal

pub returns-in-Some-clause-rows : goal.returns-in-Some-clause-rows
returns-in-Some-clause-rows c =
    let names = c.self.inside.classes in
    let node = nodes_in (present_rows c.self.inside.nodes) in
    let rows = lists.present c.self.inside.tokens in
    let is : tokens_under names rows c.args.class.now ≡ c.list.result.now = ap (λ o. option_map_or rows o []) (sym c.find.ensures ∙ c.in-Some.is) ∙ sym c.list.ensures in
    subst (λ (k : Kept). AreTokens (forest (present k)) c.args.class.now c.list.result.now) c.self.view_is
    (subst (AreTokens (forest (present (record { nodes = c.self.inside.nodes; classes = names; tokens = c.self.inside.tokens }))) c.args.class.now) is (tokens_of names node rows c.self.invariant.now c.args.class.now))

pub returns-in-Some-clause-in_order : goal.returns-in-Some-clause-in_order
returns-in-Some-clause-in_order c =
    let names = c.self.inside.classes in
    let node = nodes_in (present_rows c.self.inside.nodes) in
    let rows = lists.present c.self.inside.tokens in
    let is : tokens_under names rows c.args.class.now ≡ c.list.result.now = ap (λ o. option_map_or rows o []) (sym c.find.ensures ∙ c.in-Some.is) ∙ sym c.list.ensures in
    subst (λ (k : Kept). IsInOrder (order (present k)) (numbers_in c.list.result.now)) c.self.view_is
    (subst (λ l. IsInOrder (order (present (record { nodes = c.self.inside.nodes; classes = names; tokens = c.self.inside.tokens }))) (numbers_in l)) is (order_of names node rows c.self.invariant.now c.args.class.now))

pub returns-in-None-clause-rows : goal.returns-in-None-clause-rows
returns-in-None-clause-rows c =
    let names = c.self.inside.classes in
    let node = nodes_in (present_rows c.self.inside.nodes) in
    let rows = lists.present c.self.inside.tokens in
    let is : tokens_under names rows c.args.class.now ≡ [] = ap (λ o. option_map_or rows o []) (sym c.find.ensures ∙ c.in-None.is) in
    subst (λ (k : Kept). AreTokens (forest (present k)) c.args.class.now []) c.self.view_is
    (subst (AreTokens (forest (present (record { nodes = c.self.inside.nodes; classes = names; tokens = c.self.inside.tokens }))) c.args.class.now) is (tokens_of names node rows c.self.invariant.now c.args.class.now))

pub returns-in-Some-clause-once : goal.returns-in-Some-clause-once
returns-in-Some-clause-once c = subst (λ (k : Kept). IsOnce (forest (present k))) c.self.view_is (one_number (nodes_in (present_rows c.self.inside.nodes)) c.limit.ensures.stands.placed)

pub returns-in-None-clause-once : goal.returns-in-None-clause-once
returns-in-None-clause-once c = subst (λ (k : Kept). IsOnce (forest (present k))) c.self.view_is (one_number (nodes_in (present_rows c.self.inside.nodes)) c.limit.ensures.stands.placed)
