-- What occurred still occurs exactly where its root and its rules stand.
use Rattle.std.proofs.Common.{◌≡◌, ◌∙◌, ℕ, List, sym, ap, subst, inl, inr}
use Rattle.std.specs.Prelude.{◌↔◌, Option, Some, None, IsSome, is_some}
use Rattle.std.specs.List.{Contains}
use Rattle.tmm_model.specs.declared.point.PointName.TheVariants.{Start, Begin, End}
use Rattle.tmm_model.specs.declared.premise.Edit.{Edit}
use Rattle.tmm_model.specs.declared.premise.Premise.{Premise}
use Rattle.tmm_model.specs.declared.premise.Premise.TheVariants.{Class, Kind, Point, Event, Token, Span, Dist, Rule, Protect, Against}
use Rattle.tmm_model.specs.declared.token.Shape.{Shape}
use Rattle.tmm_model.specs.declared.token.Shape.TheVariants.{Event as AnEvent, Persistence as APersistence, Span as ASpan}
use Rattle.tmm_model.specs.Beliefs.{is_of, root_of, roots, on_kind, rules_on, rules_for, rules_at}
use Rattle.tmm_model.specs.Edits.{next_list}
use Rattle.tmm_model.specs.Moments.{Moment, At, After}
use Rattle.list_theory.specs.WellNamed.{IsSound}
use Rattle.belief_theory.specs.Right.{Occurs}
use Rattle.tmm_model.specs.Standing.{Standing, name_of, premise_in}
use Rattle.belief_theory.proofs.NextLists.{one_way}
use Rattle.list_theory.proofs.Elements.{In, In-from_Contains, Contains-from_In, In-filter_map, filter_map-In, some_value}
use Rattle.list_theory.proofs.KnownNames.{found, finds}
use Rattle.belief_theory.proofs.Sound.{named_rule}
use Rattle.spots.proofs.Rules.{rule_there}
use Rattle.revisions.specs.Standing.{Stands}
use Rattle.revisions.proofs.Tokens.{is_of_stays, root_named}

not_root : (s : Standing) (p : Premise) → root_of p ≡ Some (At Start) → ⊥
not_root s (Event name kind) e = cc
not_root s (Token name fact) e = cc
not_root s (Span name fact) e = cc
not_root s (Class name facts) e = cc
not_root s (Kind name) e = cc
not_root s (Point name) e = cc
not_root s (Dist name from to lo hi) e = cc
not_root s (Rule name trigger lo hi effect given unless_facts) e = cc
not_root s (Protect name fact from to) e = cc
not_root s (Against name one other) e = cc

no_end : (p : Premise) (k : List ℕ) → root_of p ≡ Some (At (End k)) → ⊥
no_end (Event name kind) k e = cc
no_end (Token name fact) k e = cc
no_end (Span name fact) k e = cc
no_end (Class name facts) k e = cc
no_end (Kind name) k e = cc
no_end (Point name) k e = cc
no_end (Dist name from to lo hi) k e = cc
no_end (Rule name trigger lo hi effect given unless_facts) k e = cc
no_end (Protect name fact from to) k e = cc
no_end (Against name one other) k e = cc

module _ (old : Standing) (edit : Edit) (sound_old : IsSound old) (sound_new : IsSound (next_list old edit)) where
  abbrev new : Standing
  new = next_list old edit

  -- a premise of the list before whose name still stands is one of the list after
  premise_stays : (p : Premise) (k : List ℕ) → In p old.premises → name_of p ≡ k → IsSome (premise_in new.premises k) → In p new.premises
  premise_stays p k at named stands =
      elim (one_way old edit) [
        | inl more ↦ more p at
        | inr fewer ↦ (
            let (q, is) = some_value (premise_in new.premises k) stands in
            let (there, same) = finds new.premises k q is in
            let one : premise_in old.premises k ≡ Some q = subst (λ z. premise_in old.premises z ≡ Some q) same (found old.premises sound_old.well_named q (fewer q there)) in
            let two : premise_in old.premises k ≡ Some p = subst (λ z. premise_in old.premises z ≡ Some p) named (found old.premises sound_old.well_named p at) in
            let both : Some q ≡ Some p = sym one ∙ two in
            let equal : q ≡ p = cc in
            subst (λ z. In z new.premises) equal there)
      ]

  rule_stays : (t : Moment) (r : List ℕ) → Occurs old t → Occurs new t → Contains (rules_at old t) r → IsSome (premise_in new.premises r) → Contains (rules_at new t) r
  rule_stays t r before now at stands = subst (λ o. Contains (rules_for new o) r) (is_of_stays old edit sound_old sound_new t before now) (by (is_of old t) at)
    where
      on : (kind : List ℕ) → Contains (rules_on old kind) r → Contains (rules_on new kind) r
      on kind there =
          let (p, here, is) = In-filter_map (on_kind kind) old.premises r (In-from_Contains (rules_on old kind) r there) in
          Contains-from_In (rules_on new kind) r (filter_map-In (on_kind kind) new.premises p r (premise_stays p r here (named_rule kind p r is) stands) is)

      by : (o : Option (Shape × List ℕ)) → Contains (rules_for old o) r → Contains (rules_for new o) r
      by (Some (AnEvent, kind)) there = on kind there
      by (Some (APersistence, f)) there = there
      by (Some (ASpan, f)) there = there
      by None there = there

  stands_of : (x : Moment) → Occurs new x → Stands new x
  stands_of (At (Begin k)) h =
      let (p, at, e) = In-filter_map root_of new.premises (At (Begin k)) (In-from_Contains (roots new) (At (Begin k)) h) in
      ap (λ (o : Option Premise). is_some o) (subst (λ z. premise_in new.premises z ≡ Some p) (root_named p k e) (found new.premises sound_new.well_named p at))
  stands_of (At Start) h = let (p, at, e) = In-filter_map root_of new.premises (At Start) (In-from_Contains (roots new) (At Start) h) in not_root new p e
  stands_of (At (End k)) h = let (p, at, e) = In-filter_map root_of new.premises (At (End k)) (In-from_Contains (roots new) (At (End k)) h) in no_end p k e
  stands_of (After t r) h = (stands_of t h.0, let (p, is, _) = rule_there new sound_new t r h.1 in ap (λ (o : Option Premise). is_some o) is)

  occurs_of : (x : Moment) → Occurs old x → Stands new x → Occurs new x
  occurs_of (At (Begin k)) h stands =
      let (p, at, e) = In-filter_map root_of old.premises (At (Begin k)) (In-from_Contains (roots old) (At (Begin k)) h) in
      Contains-from_In (roots new) (At (Begin k)) (filter_map-In root_of new.premises p (At (Begin k)) (premise_stays p k at (root_named p k e) stands) e)
  occurs_of (At Start) h stands = absurd stands
  occurs_of (At (End k)) h stands = absurd stands
  occurs_of (After t r) h stands = let now = occurs_of t h.0 stands.0 in (now, rule_stays t r h.0 now h.1 stands.1)

  pub standing_occurs : (x : Moment) → Occurs old x → Occurs (next_list old edit) x ↔ Stands (next_list old edit) x
  standing_occurs x h = (stands_of x, occurs_of x h)
