-- What an edit declares anew: a premise that is added, with its root or its rule.
use Rattle.std.proofs.Common.{◌≡◌, ◌∙◌, ℕ, List, [], ◌∷◌, Option, Some, None, refl, sym, ap, subst, inl, inr, ◌⊎◌}
use Rattle.std.specs.Prelude.{IsSome, is_some}
use Rattle.std.specs.List.{Contains}
use Rattle.tmm_model.specs.declared.premise.Edit.{Edit}
use Rattle.tmm_model.specs.declared.premise.Edit.TheVariants.{Add, Erase, Horizon, Upgrade}
use Rattle.tmm_model.specs.declared.premise.Premise.{Premise}
use Rattle.tmm_model.specs.declared.token.Shape.{Shape}
use Rattle.tmm_model.specs.declared.token.Shape.TheVariants.{Event as AnEvent, Persistence as APersistence, Span as ASpan}
use Rattle.tmm_model.specs.Beliefs.{is_of, root_of, roots, on_kind, rules_on, rules_for, rules_at}
use Rattle.tmm_model.specs.Edits.{next_list}
use Rattle.tmm_model.specs.Moments.{Moment, At, After}
use Rattle.tmm_model.specs.Standing.{Standing, name_of, premise_in}
use Rattle.list_theory.specs.WellNamed.{IsSound}
use Rattle.list_theory.proofs.Elements.{In, In-left, In-cases, In-from_Contains, Contains-from_In, In-filter_map, filter_map-In}
use Rattle.list_theory.proofs.Erasure.{kept_before}
use Rattle.list_theory.proofs.KnownNames.{found}
use Rattle.belief_theory.specs.Right.{Occurs}
use Rattle.belief_theory.proofs.Sound.{rule_stands}
use Rattle.spots.proofs.Grown.{root_name}
use Rattle.revisions.specs.Standing.{Stands}
use Rattle.revisions.proofs.Standing.{standing_occurs}
use Rattle.revisions.proofs.Tokens.{is_of_stays}

-- a premise of the list after stood before, or is added
pub premise_cases : (old : Standing) (edit : Edit) (p : Premise) → In p (next_list old edit).premises → In p old.premises ⊎ (edit ≡ Add p)
premise_cases old (Add q) p at = elim (In-cases old.premises (q ∷ []) p at) [
  | inl was ↦ inl was
  | inr new ↦ elim new [ inl is ↦ inr (ap Add is) | inr none ↦ absurd none ]
]
premise_cases old (Erase n) p at = inl (kept_before n [] old.premises p at)
premise_cases old (Horizon n) p at = inl at
premise_cases old Upgrade p at = inl at

-- so a root
pub root_cases : (old : Standing) (edit : Edit) (k : Moment) → Contains (roots (next_list old edit)) k → Contains (roots old) k ⊎ ((p : Premise) × (edit ≡ Add p) × (root_of p ≡ Some k))
root_cases old edit k at =
    let (p, there, is) = In-filter_map root_of (next_list old edit).premises k (In-from_Contains (roots (next_list old edit)) k at) in
    elim (premise_cases old edit p there) [
      | inl was ↦ inl (Contains-from_In (roots old) k (filter_map-In root_of old.premises p k was is))
      | inr added ↦ inr (p, added, is)
    ]

-- the rule is of a premise that is added, on the kind of the event
pub record IsAddedRule (new : Standing) (edit : Edit) (t : Moment) (r : List ℕ) : Type 0 where
  pub premise : Premise
  pub added : edit ≡ Add premise
  pub kind : List ℕ
  pub event : is_of new t ≡ Some (AnEvent, kind)
  pub on : on_kind kind premise ≡ Some r

module _ (old : Standing) (edit : Edit) (sound_old : IsSound old) (sound_new : IsSound (next_list old edit)) where
  -- a rule that stands at what occurs in both lists stood there before, or is added
  pub rule_cases : (t : Moment) (r : List ℕ) → Occurs old t → Occurs (next_list old edit) t → Contains (rules_at (next_list old edit) t) r
      → Contains (rules_at old t) r ⊎ IsAddedRule (next_list old edit) edit t r
  rule_cases t r before now at = by (is_of (next_list old edit) t) refl at
    where
      by : (o : Option (Shape × List ℕ)) → is_of (next_list old edit) t ≡ o → Contains (rules_for (next_list old edit) o) r
          → Contains (rules_at old t) r ⊎ IsAddedRule (next_list old edit) edit t r
      by (Some (AnEvent, kind)) e at =
          let (p, there, is) = In-filter_map (on_kind kind) (next_list old edit).premises r (In-from_Contains (rules_on (next_list old edit) kind) r at) in
          elim (premise_cases old edit p there) [
            | inl was ↦ inl (subst (λ o. Contains (rules_for old o) r) (sym (is_of_stays old edit sound_old sound_new t before now ∙ e))
                (Contains-from_In (rules_on old kind) r (filter_map-In (on_kind kind) old.premises p r was is)))
            | inr added ↦ inr (record { premise = p; added = added; kind = kind; event = e; on = is })
          ]
      by (Some (APersistence, f)) e at = absurd (In-from_Contains [] r at)
      by (Some (ASpan, f)) e at = absurd (In-from_Contains [] r at)
      by None e at = absurd (In-from_Contains [] r at)

-- ---- where a premise is added, all that occurred still does

module _ (old : Standing) (p : Premise) (sound_old : IsSound old) (sound_new : IsSound (next_list old (Add p))) where
  abbrev new : Standing
  new = next_list old (Add p)

  stands_on : (q : Premise) → In q old.premises → IsSome (premise_in new.premises (name_of q))
  stands_on q at = ap (λ (o : Option Premise). is_some o) (found new.premises sound_new.well_named q (In-left old.premises (p ∷ []) q at))

  rule_on : (t : Moment) (r : List ℕ) → Contains (rules_at old t) r → IsSome (premise_in new.premises r)
  rule_on t r at = let (q, there, named, _, _) = rule_stands old t r at in subst (λ n. IsSome (premise_in new.premises n)) named (stands_on q there)

  stands_still : (x : Moment) → Occurs old x → Stands new x
  stands_still (At k) h =
      let (q, there, is) = In-filter_map root_of old.premises (At k) (In-from_Contains (roots old) (At k) h) in
      subst (Stands new) (sym (root_name q (At k) is)) (stands_on q there)
  stands_still (After t r) h = (stands_still t h.0, rule_on t r h.1)

  pub occurs_still : (x : Moment) → Occurs old x → Occurs (next_list old (Add p)) x
  occurs_still x h = (standing_occurs old (Add p) sound_old sound_new x h).1 (stands_still x h)
