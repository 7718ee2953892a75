use Rattle.std.proofs.Common.{◌≡◌, ◌∙◌, true, false, [], ◌∷◌, refl, subst, rules, w64}
use Rattle.std.specs.Prelude.{FitsSigned}
use Rattle.std.proofs.lemmas.Int.{to_z-of_z}
use Rattle.belief_net.specs.Adding.{IsEventOf}
use Rattle.belief_table.specs.Decided.{AddsRows}
use Rattle.belief_net.proofs.Ruled.{alone, rule_here, rule_nowhere}
use Rattle.belief_net.proofs.ruling.add_rule_at.Goals as goal

pub returns-in_ok-add_under-clause-adds : goal.returns-in_ok-add_under-clause-adds
returns-in_ok-add_under-clause-adds c s rule under are =
    let t = c.args.tree.now in
    let fits : FitsSigned w64 c.early.result = search rules in
    let told = c.in_ok-add_under.ensures.adds s rule under are in (
      rule_here t rule c.args.kind c.args.x c.args.decisions.now c.add_under.new.decisions (c.if-is_event_of.ensures.event refl)
          (subst (λ z. AddsRows (rule ∷ []) c.args.x z c.args.decisions.now c.add_under.new.decisions) (to_z-of_z w64 c.early.result fits ∙ c.early.ensures.date) told.0),
      told.1,
    )

pub returns-else-is_event_of-clause-adds : goal.returns-else-is_event_of-clause-adds
returns-else-is_event_of-clause-adds c s rule under are =
    let t = c.args.tree.now in (
      rule_nowhere t rule c.args.kind (c.args.x ∷ []) c.args.decisions.now
          (λ y on is. (let never : false ≡ true = c.if-is_event_of.ensures.other (subst (IsEventOf t c.args.kind) (alone c.args.x y on) is) in cc)),
      under,
    )
