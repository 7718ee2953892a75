use Rattle.std.proofs.Common.{w64, rules, ◌∙◌}
use Rattle.std.specs.Int.RustNames.{FitsSigned}
use Rattle.std.proofs.lemmas.Int.{to_z-of_z}
use Rattle.std.proofs.lemmas.Result.{on_ok_weaker}
use Rattle.spots.proofs.Nodes.{live_at}
use Rattle.occ_tree.specs.Places.{forest}
use Rattle.belief_list.specs.KeptRows.{row_under}
use Rattle.belief_list.proofs.Finding.{token_now}
use Rattle.belief_list.proofs.differing.tell_token.Goals as goal

pub early-requires : goal.early-requires
early-requires c = let (m, here, class, of) = c.requires.token in live_at (forest c.args.tree.now) c.args.x m here

pub weight_of-requires-clause-live : goal.weight_of-requires-clause-live
weight_of-requires-clause-live c = let (m, here, class, of) = c.requires.token in live_at (forest c.args.tree.now) c.args.x m here

pub returns-clause-found : goal.returns-clause-found
returns-clause-found c =
    let s = c.args.standing.now.present in
    let tree = c.args.tree.now in
    let x = c.args.x in
    let kept = c.args.kept.now in
    let (m, here, class, of) = c.requires.token in
    let fits : FitsSigned w64 c.early.result = search rules in
    let date = to_z-of_z w64 c.early.result fits ∙ c.early.ensures.date in
    on_ok_weaker c.tell.result
    (λ told net classes own w. told s net tree classes w (token_now s net tree classes kept x m class (row_under kept x) _ here of date c.weight_of.ensures.value own c.requires.live))
    c.tell.ensures.found
