-- An edit that leaves a list alike in all that beliefs read changes no decision.
use Rattle.std.proofs.Common.{◌≡◌, ◌∙◌, ℕ, Bool, true, false, not, ◌||◌, List, [], ◌∷◌, refl, sym, ap, subst, inl, inr}
use Rattle.std.specs.Prelude.{cond, ◌+◌}
use Rattle.std.specs.List.{Contains, count_by, fold}
use Rattle.tmm_model.specs.declared.premise.Edit.{Edit}
use Rattle.tmm_model.specs.Edits.{next_list}
use Rattle.tmm_model.specs.Maps.{built}
use Rattle.tmm_model.specs.Moments.{Moment}
use Rattle.tmm_model.specs.Beliefs.{rules_at}
use Rattle.tmm_model.specs.Standing.{Standing, far_in}
use Rattle.list_theory.specs.WellNamed.{IsSound}
use Rattle.list_theory.proofs.Elements.{In}
use Rattle.belief_theory.specs.Outcomes.{Outcome, outcome, decisions}
use Rattle.belief_theory.specs.Touched.{is_decision}
use Rattle.revisions.specs.Alike.{AreAlike}
use Rattle.revisions.specs.Counted.{same_outcome, is_changed, changed}
use Rattle.revisions.proofs.Alike.{rules_same, alike_believe}
use Rattle.revisions.proofs.Bounds.{outcome_itself, decisions_each}
use Rattle.revisions.proofs.Lawful.{decided}
use Rattle.belief_net.proofs.AlikeKept.{outcome_same}

-- where no element passes the test, none is counted
count_none : {A : Type 0} (test : A → Bool) (xs : List A) → ((x : A) → In x xs → test x ≡ false) → count_by test xs ≡ 0
count_none test [] none = refl
count_none test (x ∷ xs) none =
    ap (λ b. fold (λ n y. n + cond (test y) 1 0) (0 + cond b 1 0) xs) (none x (inl refl)) ∙ count_none test xs (λ y at. none y (inr at))

neither : (a b : Bool) → a ≡ true → b ≡ true → (not a || not b) ≡ false
neither true true e f = refl
neither true false e f = cc
neither false b e f = cc

module _ (s : Standing) (edit : Edit) (sound : IsSound s) (sound_after : IsSound (next_list s edit)) (alike : AreAlike s (next_list s edit)) where
  abbrev t : Standing
  t = next_list s edit

  believed_same : (built s).believed ≡ (built t).believed
  believed_same = (alike_believe s t alike).0.believed

  is_kept : (x : Moment) (r : List ℕ) → In (x, r) (decisions t (built t).believed) → is_changed (built s) (built t) (x, r) ≡ false
  is_kept x r at =
      let stands = (decisions_each t sound_after x r).0 at in
      let was : Contains (built s).believed x = subst (λ l. Contains l x) (sym believed_same) stands.0 in
      let stood : Contains (rules_at s x) r = subst (λ l. Contains l r) (sym (rules_same s t alike.say x)) stands.1 in
      let now : Outcome = outcome t (far_in t.premises) (built t).believed x r in
      neither (is_decision (built s) (x, r)) (same_outcome (outcome s (far_in s.premises) (built s).believed x r) now)
      (decided s edit sound sound_after (built s) x r was stood)
      (ap (λ o. same_outcome o now) (outcome_same s t alike sound sound_after x was r) ∙ outcome_itself now)

  -- **No decision is changed.**
  pub none_changed : changed s t ≡ 0
  none_changed = count_none (is_changed (built s) (built t)) (decisions t (built t).believed) (λ e at. is_kept e.0 e.1 at)
