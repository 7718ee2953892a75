-- How many decisions an edit makes.
use Rattle.std.proofs.Common.{◌≡◌, ◌∙◌, ℕ, ◌≤◌, Bool, true, false, not, ◌&&◌, ◌||◌, List, [], ◌∷◌, length, map, refl, sym, ap, subst}
use Rattle.std.specs.Prelude.{◌↔◌, ℤ}
use Rattle.std.specs.List.{Contains}
use Rattle.std.proofs.lemmas.Bool.{eq-eqb}
use Rattle.tmm_model.specs.declared.premise.Edit.{Edit}
use Rattle.belief_theory.specs.Outcomes.{Outcome, fires, blocked, barred, beyond, outcome, decisions}
use Rattle.tmm_model.specs.Beliefs.{rules_at}
use Rattle.tmm_model.specs.Edits.{next_list}
use Rattle.tmm_model.specs.Maps.{built}
use Rattle.tmm_model.specs.Moments.{Moment}
use Rattle.list_theory.specs.WellNamed.{IsSound}
use Rattle.tmm_model.specs.Standing.{Standing}
use Rattle.belief_theory.specs.Touched.{is_decision, touched}
use Rattle.list_theory.proofs.Distinct.{Distinct, Distinct-map, Distinct-flat_map}
use Rattle.list_theory.proofs.Elements.{In, In-from_Contains, Contains-from_In, In-flat_map, flat_map-In, In-map, map-In}
use Rattle.belief_theory.proofs.Moments.{Decides-same_moment}
use Rattle.spots.proofs.Believed.{believed_once, rules_once}
use Rattle.revisions.specs.Counted.{same_moments, same_outcome, is_changed, changed}
use Rattle.revisions.specs.Keeping.{IsKeeping}
use Rattle.revisions.specs.Laws.{AreDecisions, TellsChanged}
use Rattle.revisions.specs.Maps.{revision}
use Rattle.revisions.specs.Revisions.{Revision}
use Rattle.revisions.proofs.Counting.{at_most, at_least}
use Rattle.revisions.proofs.Lawful.{lawful}

same_itself : (ks : List Moment) → same_moments ks ks ≡ true
same_itself [] = refl
same_itself (k ∷ ks) = λ i. (Decides-same_moment k k).1 refl i && same_itself ks i

pub outcome_itself : (o : Outcome) → same_outcome o o ≡ true
outcome_itself (fires ks) = same_itself ks
outcome_itself (blocked n) = eq-eqb n n refl
outcome_itself (barred n) = eq-eqb n n refl
outcome_itself beyond = refl

module _ (s : Standing) (sound : IsSound s) where
  abbrev on : Moment → List (Moment × List ℕ)
  on t = map (λ r. (t, r)) (rules_at s t)

  first_of : (t : Moment) (e : Moment × List ℕ) → In e (on t) → e.0 ≡ t
  first_of t e at = let (r, _, is) = In-map (λ r. (t, r)) (rules_at s t) e at in ap (λ x. x.0) (sym is)

  pub decisions_once : Distinct (decisions s (built s).believed)
  decisions_once =
      Distinct-flat_map on (λ t. Distinct-map (λ r. (t, r)) (λ x y e. ap (λ p. p.1) e) (rules_at s t) (rules_once s sound t))
      (λ t u e h g. sym (first_of t e h) ∙ first_of u e g) (built s).believed (believed_once s sound)

  pub decisions_each : (t : Moment) (r : List ℕ) → In (t, r) (decisions s (built s).believed) ↔ (Contains (built s).believed t × Contains (rules_at s t) r)
  decisions_each t r = (
    (λ at.
        let (u, in_b, here) = In-flat_map on (built s).believed (t, r) at in
        let (q, stands, is) = In-map (λ q. (u, q)) (rules_at s u) (t, r) here in
        let one : u ≡ t = ap (λ x. x.0) is in
        let two : q ≡ r = ap (λ x. x.1) is in (
          subst (Contains (built s).believed) one (Contains-from_In (built s).believed u in_b),
          subst (λ z. Contains (rules_at s z) r) one (subst (Contains (rules_at s u)) two (Contains-from_In (rules_at s u) q stands)),
        )),
    (λ h. flat_map-In on (built s).believed t (t, r) (In-from_Contains (built s).believed t h.0) (map-In (λ q. (t, q)) (rules_at s t) r (In-from_Contains (rules_at s t) r h.1))),
  )

module _ (old : Standing) (edit : Edit) (sound_old : IsSound old) (sound_new : IsSound (next_list old edit)) where
  abbrev new : Standing
  new = next_list old edit

  abbrev g : Revision
  g = revision (built old) (built (next_list old edit))

  abbrev all : List (Moment × List ℕ)
  all = decisions (next_list old edit) (built (next_list old edit)).believed

  are : AreDecisions g all
  are = record { each = decisions_each new sound_new; once = decisions_once new sound_new }

  tells : TellsChanged g (is_changed (built old) (built new))
  tells = record {
    unchanged = λ t r was same.
        by (is_decision (built old) (t, r)) (same_outcome (outcome old (built old).far (built old).believed t r) (outcome new (built new).far (built new).believed t r)) was
        (ap (λ o. same_outcome o (outcome new (built new).far (built new).believed t r)) same ∙ outcome_itself (outcome new (built new).far (built new).believed t r));
  }
    where
      by : (a b : Bool) → a ≡ true → b ≡ true → (not a || not b) ≡ false
      by true true e f = refl
      by true false e f = cc
      by false b e f = cc

  -- the bounds, however it is told what waits
  pub counted_by : (b : List Moment) (kept : Moment → List ℕ → Outcome) (queued : Moment → List ℕ → Type 0) (taken : List (Moment × List ℕ)) (d : ℤ)
      → IsKeeping (revision (built old) (built (next_list old edit))) b kept queued taken d
      → (length taken ≤ touched old (next_list old edit)) × (((t : Moment) (r : List ℕ) → queued t r → ⊥) → changed old (next_list old edit) ≤ length taken)
  counted_by b kept queued taken d k = (
    at_most g b kept queued taken all d k are,
    λ none. at_least g b kept queued taken all d k are (lawful old edit sound_old sound_new) none (is_changed (built old) (built new)) tells,
  )

  pub counted : (b : List Moment) (kept : Moment → List ℕ → Outcome) (queue taken : List (Moment × List ℕ)) (d : ℤ)
      → IsKeeping (revision (built old) (built (next_list old edit))) b kept (λ t r. In (t, r) queue) taken d
      → (length taken ≤ touched old (next_list old edit)) × (queue ≡ [] → changed old (next_list old edit) ≤ length taken)
  counted b kept queue taken d k =
      let bounds = counted_by b kept (λ t r. In (t, r) queue) taken d k in
      (bounds.0, λ none. bounds.1 (λ t r at. subst (In (t, r)) none at))
