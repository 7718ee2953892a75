use Rattle.std.proofs.Common.{◌≡◌, ◌≢◌, ◌∙◌, ℕ, List, [], length, true, false, sym, ap}
use Rattle.std.specs.Bool.{◌==◌}
use Rattle.tmm_model.specs.Maps.{built}
use Rattle.tt_query.proofs.Believed.{no_cause, a_cause, why_is_derived, stops_why}
use Rattle.occ_tree.specs.Places.{forest}
use Rattle.tt_query.proofs.points.resolve_why.Goals as goal

pub returns-in-Some-clause-known : goal.returns-in-Some-clause-known
returns-in-Some-clause-known c =
    let (m, is, same) = c.in-Some.ensures in
    let o = c.args.occ.now in
    let some : o.rules.items ≢ [] = λ e. (let empty : true ≡ false = sym (c.is_empty.ensures ∙ ap (λ (l : List (List ℕ)). length l == 0) (c.items.ensures ∙ e)) ∙ c.if-is_empty.false in cc) in
    why_is_derived (built c.args.standing.now.present) o o.rules.items some ∙ no_cause c.args.standing.now.present (forest c.args.tree.now) c.requires.holds o c.in-Some.x m is same

pub returns-in-None-clause-stops : goal.returns-in-None-clause-stops
returns-in-None-clause-stops c =
    let o = c.args.occ.now in
    let some : o.rules.items ≢ [] = λ e. (let empty : true ≡ false = sym (c.is_empty.ensures ∙ ap (λ (l : List (List ℕ)). length l == 0) (c.items.ensures ∙ e)) ∙ c.if-is_empty.false in cc) in
    stops_why (built c.args.standing.now.present) o o.rules.items c.unknown.result some (a_cause c.args.standing.now.present (forest c.args.tree.now) c.requires.holds o c.in-None.ensures) c.unknown.ensures.stops
