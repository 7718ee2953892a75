-- What is told of derived occurrences is what newly or no longer is believed.
use Rattle.std.proofs.Common.{◌≡◌, ◌∙◌, ℕ, true, false, List, ◌∷◌, ◌++◌, sym, subst, inl, inr}
use Rattle.std.specs.Prelude.{◌↔◌, ℤ}
use Rattle.std.specs.List.{Contains}
use Rattle.belief_theory.specs.Outcomes.{Outcome}
use Rattle.tmm_model.specs.Moments.{Moment, After}
use Rattle.list_theory.proofs.Elements.{In, In-left, In-right, In-cases}
use Rattle.list_theory.proofs.Distinct.{Distinct-append}
use Rattle.revisions.specs.Revisions.{Revision, is_firing, IsLawful, IsNew, IsLost}
use Rattle.revisions.specs.Keeping.{IsKeeping, IsLeast, IsTold}
use Rattle.revisions.specs.Steps.{Stays, Enters, Withdraws, Goes}
use Rattle.revisions.proofs.Turning.{newly, lost}
use Rattle.revisions.proofs.Agreeing.{ended}

module _ (g : Revision) (laws : IsLawful g) (b : List Moment) (kept : Moment → List ℕ → Outcome) (queued : Moment → List ℕ → Type 0) (taken : List (Moment × List ℕ)) (d : ℤ)
    (k : IsKeeping g b kept queued taken d) where
  module _ (t : Moment) (r : List ℕ) (first : IsLeast g queued t r) (c : List Moment) (entered left : List Moment) (told : IsTold g b entered left) where
    pub told_stays : Stays g b c kept t r → IsTold g c entered left
    told_stays h = subst (λ z. IsTold g z entered left) (sym h.same) told

    pub told_enters : (kept_after : Moment → List ℕ → Outcome) (queued_after : Moment → List ℕ → Type 0) → Enters g b c kept kept_after queued_after t r → IsTold g c (After t r ∷ entered) left
    told_enters kept_after queued_after h = record {
      new = λ x at. elim at [ inl e ↦ subst (IsNew g) e new | inr old ↦ told.new x old ];
      lost = told.lost;
      entered = λ u q at. elim (h.from (After u q) at) [
        | inl old ↦ elim (told.entered u q old) [ inl before ↦ inl before | inr there ↦ inr (inr there) ]
        | inr e ↦ inr (inl (sym e))
      ];
      left = λ u q at. elim (told.left u q at) [ inl live ↦ inl (h.into (After u q) live) | inr there ↦ inr there ];
      live = λ x at. elim at [ inl e ↦ subst (Contains c) e h.entered | inr old ↦ h.into x (told.live x old) ];
      gone = λ x at live. elim (h.from x live) [ inl old ↦ told.gone x at old | inr e ↦ (told.lost x at).not_now (subst (Contains g.believed) (sym e) new.now) ];
      once_entered = ((λ at. not_live (told.live (After t r) at)), told.once_entered);
      once_left = told.once_left;
    }
      where
        new : IsNew g (After t r)
        new = newly g laws b kept queued taken d k t r first h.fires_now h.fired_not

        not_live : Contains b (After t r) → ⊥
        not_live at =
            let w = k.waits t r first.waits in
            let e : is_firing (kept t r) ≡ true = (k.fires t r w.live w.stands).0 at in
            let f : true ≡ false = sym e ∙ h.fired_not in
            cc

    pub told_withdraws : (out : List Moment) → Withdraws g b c kept t r → Goes b t r out → IsTold g c entered (out ++ left)
    told_withdraws out h o = record {
      new = told.new;
      lost = λ x at. elim (In-cases out left x at) [ inl now ↦ gone_now x now | inr old ↦ told.lost x old ];
      entered = λ u q at. told.entered u q (h.out (After u q) at).0;
      left = λ u q at. elim (told.left u q at) [
        | inr there ↦ inr (In-right out left (After u q) there)
        | inl live ↦ elim (h.rest (After u q) live) [ inl there ↦ inl there | inr under ↦ inr (In-left out left (After u q) ((o.each (After u q)).1 (live, under))) ]
      ];
      live = λ x at. elim (h.rest x (told.live x at)) [
        | inl there ↦ there
        | inr under ↦ absurd ((lost g laws b kept queued taken d k t r first h.fires_not x (told.live x at) under).not_now (told.new x at).now)
      ];
      gone = λ x at live. elim (In-cases out left x at) [ inl now ↦ (h.out x live).1 ((o.each x).0 now).1 | inr old ↦ told.gone x old (h.out x live).0 ];
      once_entered = told.once_entered;
      once_left = Distinct-append out left o.once told.once_left (λ x now old. told.gone x old ((o.each x).0 now).0);
    }
      where
        gone_now : (x : Moment) → In x out → IsLost g x
        gone_now x at = let e = (o.each x).0 at in lost g laws b kept queued taken d k t r first h.fires_not x e.0 e.1

  module _ (none : (t : Moment) (r : List ℕ) → queued t r → ⊥) (entered left : List Moment) (told : IsTold g b entered left) where
    -- **At the end it is exactly that.**
    pub told_all : ((t : Moment) (r : List ℕ) → In (After t r) entered ↔ IsNew g (After t r)) × ((t : Moment) (r : List ℕ) → In (After t r) left ↔ IsLost g (After t r))
    told_all = (
      λ t r. (told.new (After t r), λ n. elim (told.entered t r ((end.0 (After t r)).1 n.now)) [ inl before ↦ absurd (n.not_before before) | inr there ↦ there ]),
      λ t r. (told.lost (After t r), λ l. elim (told.left t r l.before) [ inl live ↦ absurd (l.not_now ((end.0 (After t r)).0 live)) | inr there ↦ there ]),
    )
      where
        end : ((x : Moment) → Contains b x ↔ Contains g.believed x) × ((t : Moment) (r : List ℕ) → Contains b t → Contains (g.rules t) r → kept t r ≡ g.outcome g.believed t r)
        end = ended g laws b kept queued taken d k none
