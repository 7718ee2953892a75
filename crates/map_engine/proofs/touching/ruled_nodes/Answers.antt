use Rattle.std.proofs.Common.{sym, subst}
use Rattle.std.proofs.lemmas.Result.{IfOk-weaker}
use Rattle.std.specs.Prelude.{IfOk}
use Rattle.std.specs.List.{Contains}
use Rattle.tmm_model.specs.declared.premise.Edit.{Edit}
use Rattle.tmm_model.specs.declared.premise.Edit.TheVariants.{Add}
use Rattle.tmm_model.specs.Beliefs.{rules_at}
use Rattle.tmm_model.specs.Edits.{next_list}
use Rattle.tmm_model.specs.Standing.{Standing}
use Rattle.dist_net.specs.Net.{Net}
use Rattle.spots.specs.Forest.{IsLive, moment_at}
use Rattle.occ_tree.specs.Places.{forest}
use Rattle.occ_tree.specs.Standing.{Kept}
use Rattle.joined.specs.Netted.{IsCurrent}
use Rattle.belief_turns.specs.Turning.{rows_of}
use Rattle.map_engine.specs.Ruled.{HasRuled}
use Rattle.map_engine.proofs.Ruled.{added_ruled, all_ruled}
use Rattle.map_engine.proofs.touching.ruled_nodes.Goals as goal

pub returns-in-Add : goal.returns-in-Add
returns-in-Add c =
    let b = c.args.nodes.now in
    let f = forest b.tree in
    let p = c.in-Add.premise in
    subst (λ (k : Edit). IfOk c.events_of_rule.result (λ found. (s : Standing) (net : Net) → IsCurrent (next_list s k) net (forest b.tree) (rows_of b) → HasRuled (forest b.tree) s.premises k found.items)) (sym c.in-Add.is)
    (IfOk-weaker c.events_of_rule.result _ _
    (λ found all s net current. added_ruled s net f p found.items current.seen
    (λ x live stands. all (next_list s (Add p)) net x current live (subst (Contains (rules_at (next_list s (Add p)) (moment_at f x))) (sym c.name.ensures) stands)))
    c.events_of_rule.ensures)

pub returns-in-Erase : goal.returns-in-Erase
returns-in-Erase c =
    let b = c.args.nodes.now in
    IfOk-weaker c.numbers.result _ _
    (λ found all s net current. all_ruled (forest b.tree) s.premises c.args.edit.now found.items (λ x live. all x (subst (λ (k : Kept). IsLive (forest k) x) (sym c.tree.ensures) live)))
    c.numbers.ensures.all
