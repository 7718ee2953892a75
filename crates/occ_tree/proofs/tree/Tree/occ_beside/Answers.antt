use Rattle.std.proofs.Common.{◌∙◌, ◌≤◌, List, ℕ, length, ap, subst, sym}
use Rattle.tmm_model.specs.declared.point.PointName.TheVariants.{Begin}
use Rattle.tmm_model.specs.Moments.{At, along}
use Rattle.spots.specs.Forest.{moment_at}
use Rattle.occ_tree.specs.Nodes.{forest_in}
use Rattle.occ_tree.specs.Standing.{Grove, nodes_in, present_rows}
use Rattle.occ_tree.proofs.Beside.{within, first_is, beside_is}
use Rattle.occ_tree.proofs.tree.Tree.occ_beside.Goals as goal

pub rules_on-requires-clause-within : goal.rules_on-requires-clause-within
rules_on-requires-clause-within c =
    let node = nodes_in (present_rows c.nodes-nodes.result.now) in
    let same = c.requires.occ ∙ ap (λ (g : Grove). moment_at (forest_in (nodes_in (present_rows g))) c.args.y) (sym c.nodes-nodes.ensures) in
    let all = within node c.get.ensures.stands.placed c.args.x c.args.y c.get.result.now c.get-2.result.now c.get.ensures.node c.get-2.ensures.node c.in-Some.shared c.in-Some.ensures c.args.occ.now.root c.args.occ.now.rules.items same in
    subst (λ (names : List (List ℕ)). c.in-Some.shared ≤ length names) (sym c.items.ensures) all.0

pub rules_on-requires-clause-fits : goal.rules_on-requires-clause-fits
rules_on-requires-clause-fits c =
    let node = nodes_in (present_rows c.nodes-nodes.result.now) in
    let same = c.requires.occ ∙ ap (λ (g : Grove). moment_at (forest_in (nodes_in (present_rows g))) c.args.y) (sym c.nodes-nodes.ensures) in
    (within node c.get.ensures.stands.placed c.args.x c.args.y c.get.result.now c.get-2.result.now c.get.ensures.node c.get-2.ensures.node c.in-Some.shared c.in-Some.ensures c.args.occ.now.root c.args.occ.now.rules.items same).1

pub rules_on-requires-clause-first : goal.rules_on-requires-clause-first
rules_on-requires-clause-first c =
    let node = nodes_in (present_rows c.nodes-nodes.result.now) in
    let same = ap (along (At (Begin c.args.occ.now.root))) c.items.ensures ∙ c.requires.occ ∙ ap (λ (g : Grove). moment_at (forest_in (nodes_in (present_rows g))) c.args.y) (sym c.nodes-nodes.ensures) in
    first_is node c.get.ensures.stands.placed c.args.x c.args.y c.get.result.now c.get-2.result.now c.get.ensures.node c.get-2.ensures.node c.in-Some.shared c.in-Some.ensures c.args.occ.now.root c.items.result.now same

pub returns : goal.returns
returns c =
    let node = nodes_in (present_rows c.nodes-nodes.result.now) in
    let same = c.requires.occ ∙ ap (λ (g : Grove). moment_at (forest_in (nodes_in (present_rows g))) c.args.y) (sym c.nodes-nodes.ensures) in
    beside_is node c.get.ensures.stands.placed c.args.x c.args.y c.get.result.now c.get-2.result.now c.get.ensures.node c.get-2.ensures.node c.in-Some.shared c.in-Some.ensures c.args.occ.now.root c.args.occ.now.rules.items same c.in_ok-rules.rules.items c.in_ok-rules.ensures
    ∙ ap (λ (g : Grove). moment_at (forest_in (nodes_in (present_rows g))) c.args.x) c.nodes-nodes.ensures
