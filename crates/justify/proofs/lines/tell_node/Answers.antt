use Rattle.std.proofs.Common.{◌≡◌, ◌∙◌, List, [], ◌∷◌, map, ap, refl, sym, subst}
use Rattle.std.specs.List.{All, Contains, flat_map}
use Rattle.std.proofs.lemmas.Result.{on_ok_weaker}
use Rattle.tmm_model.specs.declared.changes.WhyLine.{WhyLine}
use Rattle.tmm_model.specs.declared.changes.WhyLine.TheVariants.{Premise as PremiseLine}
use Rattle.tmm_model.specs.Maps.{built}
use Rattle.tmm_model.specs.Moments.{Moment, is_derived}
use Rattle.tmm_model.specs.Reasons.{pairs_of}
use Rattle.walk_theory.proofs.Members.{All-from_contains, Contains-map}
use Rattle.spots.specs.Forest.{moment_at}
use Rattle.occ_tree.specs.Places.{forest}
use Rattle.spots.proofs.Rules.{rule_there}
use Rattle.justify.specs.Lines.{IsInOrder, AreOrders, AreLinesOf}
use Rattle.justify.proofs.Origins.{rule_at}
use Rattle.justify.proofs.Supported.{supports_in_order}
use Rattle.justify.proofs.Told.{hears_one, hears_more, effect_lines}
use Rattle.justify.proofs.lines.tell_node.Goals as goal

pub supports_at-supports-requires-clause-rule : goal.supports_at-supports-requires-clause-rule
supports_at-supports-requires-clause-rule g c =
    rule_at c.args.map.now.standing.now.present c.args.map.now.net.now.present (forest c.args.map.now.tree.now) c.requires.seen.seen c.args.x c.in-Effect.event c.in-Effect.rule c.requires.live c.in-Effect.ensures.1

pub exceptions_of-exceptions-requires : goal.exceptions_of-exceptions-requires
exceptions_of-exceptions-requires g c =
    let s = c.args.map.now.standing.now.present in
    let f = forest c.args.map.now.tree.now in
    let sound = c.requires.seen.seen.network.sound in
    rule_there s sound (moment_at f c.in-Effect.event) c.in-Effect.rule
    (rule_at s c.args.map.now.net.now.present f c.requires.seen.seen c.args.x c.in-Effect.event c.in-Effect.rule c.requires.live c.in-Effect.ensures.1)

pub tell_orders-requires-clause-in_order : goal.tell_orders-requires-clause-in_order
tell_orders-requires-clause-in_order g c =
    let s = c.args.map.now.standing.now.present in
    let f = forest c.args.map.now.tree.now in
    let t = moment_at f c.in-Effect.event in
    let nodes = c.as_slice-nodes.result.now in
    All-from_contains (λ x. All (IsInOrder (built s)) (pairs_of (built s) t (moment_at f x))) nodes
    (λ x at.
    supports_in_order s t c.in-Effect.rule (moment_at f x)
    (subst (λ (l : List Moment). Contains l (moment_at f x)) (ap (map (moment_at f)) c.as_slice-nodes.ensures.value ∙ c.supports_at-supports.ensures.first) (Contains-map (moment_at f) nodes x at)))

pub returns-in-Declared : goal.returns-in-Declared
returns-in-Declared g c =
    let m = built c.args.map.now.standing.now.present in
    let x = moment_at (forest c.args.map.now.tree.now) c.args.x in
    let line = PremiseLine c.in-Declared.name in
    let its : AreLinesOf m x (line ∷ []) = subst (λ k. AreLinesOf m k (line ∷ [])) (sym c.in-Declared.ensures) ([], refl, tt) in
    on_ok_weaker c.hear.result (hears_one g.R.Listener.parts_of (AreLinesOf m x) line its tt _ _) c.hear.ensures

pub returns-in_ok-derived_line-in-Effect : goal.returns-in_ok-derived_line-in-Effect
returns-in_ok-derived_line-in-Effect g c =
    let m = built c.args.map.now.standing.now.present in
    let f = forest c.args.map.now.tree.now in
    let x = moment_at f c.args.x in
    let t = moment_at f c.in-Effect.event in
    let ks = map (moment_at f) c.as_slice-nodes.result.now in
    let line = c.in_ok-derived_line-in-Effect.field-0 in
    let own : List WhyLine → Type 0 = λ ys. ys ≡ line ∷ [] in
    let same = ap (map (moment_at f)) c.as_slice-nodes.ensures.value ∙ c.supports_at-supports.ensures.first in
    let shaped = c.in_ok-derived_line-in-Effect.ensures.shaped (ap is_derived c.in-Effect.ensures.1) in
    on_ok_weaker c.hear-in-Effect.result
    (λ grown.
    hears_more g.R.Listener.parts_of (AreOrders m (flat_map (pairs_of m t) ks)) own (AreLinesOf m x)
    (effect_lines m x t c.in-Effect.rule ks c.exceptions_of-exceptions.result.items line c.in-Effect.ensures.1 same c.exceptions_of-exceptions.ensures c.in_ok-derived_line-in-Effect.ensures.reason) _ _ _
    c.in_ok-tell_orders-in-Effect.ensures
    (hears_one g.R.Listener.parts_of own line refl shaped _ _ grown))
    c.hear-in-Effect.ensures
