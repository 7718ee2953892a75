-- Walks that do without a constraint, and the distances that stay without it.
use Rattle.std.proofs.Common.{◌≡◌, ◌∙◌, inl, inr, ◌++◌, List, [], ◌∷◌, ℤ, ◌+ℤ◌, ◌-ℤ◌, ◌≤ℤ◌, ap, sym, subst, arith, refl, pos}
use Rattle.std.specs.List.{Contains}
use Rattle.std.proofs.lemmas.Int.{ints}
use Rattle.tmm_model.specs.declared.bound.Bound.{Bound}
use Rattle.tmm_model.specs.declared.bound.Bound.TheVariants.{Finite, Free}
use Rattle.tmm_model.specs.Bounds.{IfFinite, bound_plus}
use Rattle.walk_theory.specs.LeastWalks.{AtMost, IsWalk, HasWalk, IsFar, Adds}
use Rattle.tmm_model.specs.Walks.{Arc, HasDates, total}
use Rattle.walk_theory.proofs.Bounds.{AtMost-weaker}
use Rattle.walk_theory.proofs.Dates.{difference-le_total}
use Rattle.walk_theory.proofs.Walks.{IsWalk-append, IsWalk-kept, total-append}

-- bounds that are one have one number
pub same_finite : {u v : ℤ} → Finite u ≡ Finite v → u ≡ v
same_finite h = cc

module _ {P : Type 0} where
  -- a constraint after a walk
  pub AtMost-after_walk : (arcs : List (Arc P)) (a : P) (e : Arc P) (near far : Bound) (s : ℤ) → Contains arcs e → IfFinite near (HasWalk arcs a e.from) → IsFar arcs a e.to far → AtMost near s → AtMost far (s +ℤ e.weight)
  AtMost-after_walk arcs a e (Finite x) far s m r far_far h =
      AtMost-weaker far _ _
      (far_far.least (r.0 ++ e ∷ []) (IsWalk-append arcs a e.from e.to r.0 (e ∷ []) r.1 (m, refl, refl)))
      (omega (arith, ints, r.2, total-append r.0 (e ∷ [])))
  AtMost-after_walk arcs a e Free far s m r far_far h = absurd h

  -- one walk after another
  pub IfFinite-plus : (arcs : List (Arc P)) (a c b : P) (x y : Bound) (s : ℤ) → IfFinite x (HasWalk arcs a c) → IfFinite y (HasWalk arcs c b) → bound_plus x y ≡ Finite s → HasWalk arcs a b s
  IfFinite-plus arcs a c b (Finite x) (Finite y) s h k is =
      (h.0 ++ k.0, IsWalk-append arcs a c b h.0 k.0 h.1 k.1, total-append h.0 k.0 ∙ (ap (λ (z : ℤ). z +ℤ total k.0) h.2 ∙ (ap (λ (z : ℤ). x +ℤ z) k.2 ∙ same_finite is)))
  IfFinite-plus arcs a c b (Finite x) Free s h k is = cc
  IfFinite-plus arcs a c b Free y s h k is = cc

  -- among fewer walks a least sum stays least, if it is the sum of one of them
  pub IsFar-among : (old new : List (Arc P)) → ((x : Arc P) → Contains new x → Contains old x) → (a b : P) (x : Bound) → IsFar old a b x → IfFinite x (HasWalk new a b) → IsFar new a b x
  IsFar-among old new sub a b x far reached = record { reached = reached; least = λ walk h. far.least walk (IsWalk-kept new old sub a b walk h) }

module _ {P : Type 0} (old new : List (Arc P)) (e : Arc P) (adds : Adds new e old) where
  -- Where each walk from the beginning of e can be no shorter than one over new, each walk can:
  -- what comes before e is over new.
  around : (b : P) → ((walk : List (Arc P)) → IsWalk old e.from b walk → (w : List (Arc P)) × IsWalk new e.from b w × (total w ≤ℤ total walk)) →
      (a : P) (walk : List (Arc P)) → IsWalk old a b walk → (w : List (Arc P)) × IsWalk new a b w × (total w ≤ℤ total walk)
  around b there a [] h = ([], h, omega (arith, ints))
  around b there a (x ∷ walk) h =
      let rest : (w : List (Arc P)) × IsWalk new x.to b w × (total w ≤ℤ total walk) = around b there x.to walk h.2 in
      elim (adds.only x h.0) [
        | inl m ↦ (x ∷ rest.0, (m, h.1, rest.1), omega (arith, ints, rest.2))
        | inr same ↦ (let at : a ≡ e.from = sym h.1 ∙ ap (λ (y : Arc P). y.from) same in
            let F : P → Type 0 = λ p. (w : List (Arc P)) × IsWalk new p b w × (total w ≤ℤ total (x ∷ walk)) in
            subst F (sym at) (there (x ∷ walk) (subst (λ (p : P). IsWalk old p b (x ∷ walk)) at h)))
      ]

  -- Where each walk from a to the end of e can be no shorter than one over new, each walk from a
  -- can.
  onward : (a b : P) → ((walk : List (Arc P)) → IsWalk old a e.to walk → (w : List (Arc P)) × IsWalk new a e.to w × (total w ≤ℤ total walk)) →
      (c : P) (front walk : List (Arc P)) → IsWalk new a c front → IsWalk old c b walk → (w : List (Arc P)) × IsWalk new a b w × (total w ≤ℤ (total front +ℤ total walk))
  onward a b there c front [] h k = (front, subst (λ (p : P). IsWalk new a p front) k h, omega (arith, ints))
  onward a b there c front (x ∷ walk) h k =
      elim (adds.only x k.0) [
        | inl m ↦ (let r : (w : List (Arc P)) × IsWalk new a b w × (total w ≤ℤ (total (front ++ x ∷ []) +ℤ total walk)) =
            onward a b there x.to (front ++ x ∷ []) walk (IsWalk-append new a c x.to front (x ∷ []) h (m, k.1, refl)) k.2 in
            (r.0, r.1, omega (arith, ints, r.2, total-append front (x ∷ []))))
        | inr same ↦ (let at : x.to ≡ e.to = ap (λ (y : Arc P). y.to) same in
            let through : IsWalk old a x.to (front ++ x ∷ []) = IsWalk-append old a c x.to front (x ∷ []) (IsWalk-kept new old adds.kept a c front h) (k.0, k.1, refl) in
            let w : (w : List (Arc P)) × IsWalk new a e.to w × (total w ≤ℤ total (front ++ x ∷ [])) = there (front ++ x ∷ []) (subst (λ (p : P). IsWalk old a p (front ++ x ∷ [])) at through) in
            let r : (v : List (Arc P)) × IsWalk new a b v × (total v ≤ℤ (total w.0 +ℤ total walk)) = onward a b there x.to w.0 walk (subst (λ (p : P). IsWalk new a p w.0) (sym at) w.1) k.2 in
            (r.0, r.1, omega (arith, ints, r.2, w.2, total-append front (x ∷ []))))
      ]

  far_by : (a b : P) (x : Bound) → ((walk : List (Arc P)) → IsWalk old a b walk → (w : List (Arc P)) × IsWalk new a b w × (total w ≤ℤ total walk)) → IsFar old a b x → IsFar new a b x
  far_by a b (Finite s) by far =
      let r : HasWalk old a b s = far.reached in
      let w : (w : List (Arc P)) × IsWalk new a b w × (total w ≤ℤ total r.0) = by r.0 r.1 in
      let low : s ≤ℤ total w.0 = far.least w.0 (IsWalk-kept new old adds.kept a b w.0 w.1) in
      record { reached = (w.0, w.1, omega (arith, ints, r.2, w.2, low)); least = λ walk h. far.least walk (IsWalk-kept new old adds.kept a b walk h) }
  far_by a b Free by far = record { reached = tt; least = λ walk h. far.least walk (IsWalk-kept new old adds.kept a b walk h) }

  no_shorter : (a b : P) (y : Bound) → IsFar old a b y → IsFar new a b y → (walk : List (Arc P)) → IsWalk old a b walk → (w : List (Arc P)) × IsWalk new a b w × (total w ≤ℤ total walk)
  no_shorter a b (Finite t) far_old far_new walk h =
      let r : HasWalk new a b t = far_new.reached in
      let low : t ≤ℤ total walk = far_old.least walk h in
      (r.0, r.1, omega (arith, ints, r.2, low))
  no_shorter a b Free far_old far_new walk h = absurd (far_old.least walk h)

  -- **A distance to b stays where that from the beginning of the constraint to b does.**
  pub IsFar-around : (a b : P) (x y : Bound) → IsFar old e.from b y → IsFar new e.from b y → IsFar old a b x → IsFar new a b x
  IsFar-around a b x y far_old far_new far = far_by a b x (λ walk h. around b (no_shorter e.from b y far_old far_new) a walk h) far

  -- **A distance from a stays where that from a to the end of the constraint does.**
  pub IsFar-onward : (a b : P) (x y : Bound) → IsFar old a e.to y → IsFar new a e.to y → IsFar old a b x → IsFar new a b x
  IsFar-onward a b x y far_old far_new far =
      far_by a b x
      (λ walk h. (let w : (w : List (Arc P)) × IsWalk new a b w × (total w ≤ℤ (pos 0 +ℤ total walk)) = onward a b (no_shorter a e.to y far_old far_new) a [] walk refl h in (w.0, w.1, omega (arith, ints, w.2))))
      far

  -- **A distance to the beginning of the constraint stays**: back to it leads no walk of a negative
  -- sum.
  pub IsFar-to_beginning : (start : P) → HasDates start old → (a : P) (x : Bound) → IsFar old a e.from x → IsFar new a e.from x
  IsFar-to_beginning start dates a x far =
      far_by a e.from x
      (λ walk h. around e.from (λ walk h. ([], refl, (let low : (dates.0 e.from -ℤ dates.0 e.from) ≤ℤ total walk = difference-le_total start old dates.0 dates.1 e.from e.from walk h in omega (arith, ints, low)))) a walk h)
      far

  -- Where each constraint from the end of e leads to a point to which a walk from the beginning of
  -- e can do without e, each walk to a point beside that end can.
  past : (b : P) → (e.to ≡ b → ⊥) → (e.from ≡ e.to → ⊥) → ((y : Arc P) → Contains new y → y.from ≡ e.to → (walk : List (Arc P)) → IsWalk old e.from y.to walk → (w : List (Arc P)) × IsWalk new e.from y.to w × (total w ≤ℤ total walk)) →
      (a : P) (walk : List (Arc P)) → IsWalk old a b walk → (w : List (Arc P)) × IsWalk new a b w × (total w ≤ℤ total walk)
  past b out apart on a [] h = ([], h, omega (arith, ints))
  past b out apart on a (x ∷ []) h =
      elim (adds.only x h.0) [
        | inl m ↦ (x ∷ [], (m, h.1, h.2), omega (arith, ints))
        | inr same ↦ absurd (out (sym (ap (λ (z : Arc P). z.to) same) ∙ h.2))
      ]
  past b out apart on a (x ∷ (y ∷ walk)) h =
      elim (adds.only x h.0) [
        | inl m ↦ (let rest : (w : List (Arc P)) × IsWalk new x.to b w × (total w ≤ℤ total (y ∷ walk)) = past b out apart on x.to (y ∷ walk) h.2 in
            (x ∷ rest.0, (m, h.1, rest.1), omega (arith, ints, rest.2)))
        | inr same ↦ (let ends : x.to ≡ e.to = ap (λ (z : Arc P). z.to) same in
            let begins : e.from ≡ a = sym (ap (λ (z : Arc P). z.from) same) ∙ h.1 in
            let at : y.from ≡ e.to = h.2.1 ∙ ends in
            elim (adds.only y h.2.0) [
              | inr again ↦ absurd (apart (sym (ap (λ (z : Arc P). z.from) again) ∙ at))
              | inl n ↦ (let rest : (w : List (Arc P)) × IsWalk new y.to b w × (total w ≤ℤ total walk) = past b out apart on y.to walk h.2.2 in
                  let near : (w : List (Arc P)) × IsWalk new e.from y.to w × (total w ≤ℤ total (x ∷ (y ∷ []))) =
                  on y n at (x ∷ (y ∷ [])) (h.0, ap (λ (z : Arc P). z.from) same, (h.2.0, h.2.1, refl)) in
                  let whole : IsWalk new e.from b (near.0 ++ rest.0) = IsWalk-append new e.from y.to b near.0 rest.0 near.1 rest.1 in
                  (near.0 ++ rest.0, subst (λ (p : P). IsWalk new p b (near.0 ++ rest.0)) begins whole, omega (arith, ints, near.2, rest.2, total-append near.0 rest.0)))
            ])
      ]

  -- **A distance to a point beside the end of the constraint stays, where those from its beginning
  -- to the points next to that end do.**
  pub IsFar-past : (a b : P) (x : Bound) → (e.to ≡ b → ⊥) → (e.from ≡ e.to → ⊥) → ((y : Arc P) → Contains new y → y.from ≡ e.to → (t : Bound) × IsFar old e.from y.to t × IsFar new e.from y.to t) → IsFar old a b x → IsFar new a b x
  IsFar-past a b x out apart on far =
      far_by a b x
      (λ walk h. past b out apart (λ y n at w k. (let t : (t : Bound) × IsFar old e.from y.to t × IsFar new e.from y.to t = on y n at in no_shorter e.from y.to t.0 t.1 t.2 w k)) a walk h) far
