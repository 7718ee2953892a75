-- `far_within` is the least sum over the walks of at most so many constraints.
use Rattle.std.proofs.Common.{◌≡◌, inl, inr, ℕ, zero, suc, ◌≤◌, List, [], ◌∷◌, length, ℤ, pos, ◌+ℤ◌, sym, subst, arith, refl, true, cond, Bool}
use Rattle.std.specs.Bool.{Decides}
use Rattle.std.specs.List.{Contains}
use Rattle.std.proofs.lemmas.Bool.{cond_both}
use Rattle.std.proofs.lemmas.Int.{ints}
use Rattle.tmm_model.specs.declared.bound.Bound.{Bound}
use Rattle.tmm_model.specs.declared.bound.Bound.TheVariants.{Finite, Free}
use Rattle.tmm_model.specs.Bounds.{IfFinite, lesser, after}
use Rattle.walk_theory.specs.LeastWalks.{AtMost, IsWalk, IsFarWithin}
use Rattle.tmm_model.specs.Walks.{Arc, total, least_first, far_within}
use Rattle.walk_theory.proofs.Bounds.{AtMost-after, AtMost-lesser_left, AtMost-lesser_right, IfFinite-lesser}
use Rattle.walk_theory.proofs.Members.{Contains-cons_cases, Adds-cons}

AtMost-cond : (b : Bool) (x : Bound) (s : ℤ) → b ≡ true → AtMost x s → AtMost (cond b x Free) s
AtMost-cond b x s h k = let F : Bool → Type 0 = λ t. AtMost (cond t x Free) s in subst F (sym h) k

module _ {P : Type 0} where
  -- a walk of at most k constraints of the sum s
  abbrev Short : List (Arc P) → ℕ → P → P → ℤ → Type 0
  Short arcs k a b s = (walk : List (Arc P)) × IsWalk arcs a b walk × (length walk ≤ k) × (total walk ≡ s)

  Short-first : (arcs : List (Arc P)) (k : ℕ) (a b : P) (e : Arc P) (x : Bound) → Contains arcs e → e.from ≡ a → IfFinite x (Short arcs k e.to b) → IfFinite (after e.weight x) (Short arcs (suc k) a b)
  Short-first arcs k a b e (Finite x) m at h = (e ∷ h.0, (m, at, h.1), omega (arith, h.2), omega (arith, ints, h.3))
  Short-first arcs k a b e Free m at h = tt

  Short-more : (arcs : List (Arc P)) (k : ℕ) (a b : P) (x : Bound) → IfFinite x (Short arcs k a b) → IfFinite x (Short arcs (suc k) a b)
  Short-more arcs k a b (Finite x) h = (h.0, h.1, omega (arith, h.2), h.3)
  Short-more arcs k a b Free h = tt

module _ {P : Type 0} (same : P → P → Bool) (decides : (x y : P) → Decides (same x y) (x ≡ y)) where
  least_first-le : (arcs : List (Arc P)) (a : P) (rest : P → Bound) (e : Arc P) (s : ℤ) → Contains arcs e → e.from ≡ a → AtMost (rest e.to) s → AtMost (least_first same arcs a rest) (e.weight +ℤ s)
  least_first-le [] a rest e s m at h = absurd (omega (arith, m.1))
  least_first-le (x ∷ arcs) a rest e s m at h =
      elim (Contains-cons_cases x arcs e m) [
        | inl k ↦ AtMost-lesser_right (cond (same x.from a) (after x.weight (rest x.to)) Free) (least_first same arcs a rest) (e.weight +ℤ s) (least_first-le arcs a rest e s k at h)
        | inr is ↦ (let F : Arc P → Type 0 = λ y. y.from ≡ a → AtMost (rest y.to) s → AtMost (lesser (cond (same x.from a) (after x.weight (rest x.to)) Free) (least_first same arcs a rest)) (y.weight +ℤ s) in
            subst F (sym is)
            (λ at_x h_x. AtMost-lesser_left (cond (same x.from a) (after x.weight (rest x.to)) Free) (least_first same arcs a rest) (x.weight +ℤ s)
            (AtMost-cond (same x.from a) (after x.weight (rest x.to)) (x.weight +ℤ s) ((decides x.from a).1 at_x) (AtMost-after x.weight (rest x.to) s h_x)))
            at h)
      ]

  least_first-reached : (all : List (Arc P)) (k : ℕ) (a b : P) (rest : P → Bound) → ((c : P) → IfFinite (rest c) (Short all k c b)) → (arcs : List (Arc P)) → ((x : Arc P) → Contains arcs x → Contains all x) → IfFinite (least_first same arcs a rest) (Short all (suc k) a b)
  least_first-reached all k a b rest reached [] sub = tt
  least_first-reached all k a b rest reached (e ∷ arcs) sub =
      let F : Bound → Type 0 = λ x. IfFinite x (Short all (suc k) a b) in
      IfFinite-lesser (cond (same e.from a) (after e.weight (rest e.to)) Free) (least_first same arcs a rest) (Short all (suc k) a b)
      (cond_both (same e.from a) (after e.weight (rest e.to)) Free F
      (λ h. Short-first all k a b e (rest e.to) (sub e (Adds-cons arcs e).added) ((decides e.from a).0 h) (reached e.to))
      (λ _. tt))
      (least_first-reached all k a b rest reached arcs (λ x m. sub x ((Adds-cons arcs e).kept x m)))

  far_within-reached : (arcs : List (Arc P)) (k : ℕ) (a b : P) → IfFinite (far_within same arcs k a b) (Short arcs k a b)
  unfolding far_within
  far_within-reached arcs zero a b =
      let F : Bound → Type 0 = λ x. IfFinite x (Short arcs zero a b) in
      cond_both (same a b) (Finite (pos 0)) Free F (λ h. ([], (decides a b).0 h, omega arith, refl)) (λ _. tt)
  far_within-reached arcs (suc k) a b =
      IfFinite-lesser (far_within same arcs k a b) (least_first same arcs a (λ c. far_within same arcs k c b)) (Short arcs (suc k) a b)
      (Short-more arcs k a b (far_within same arcs k a b) (far_within-reached arcs k a b))
      (least_first-reached arcs k a b (λ c. far_within same arcs k c b) (λ c. far_within-reached arcs k c b) arcs (λ x m. m))

  far_within-least : (arcs : List (Arc P)) (k : ℕ) (a b : P) (walk : List (Arc P)) → IsWalk arcs a b walk → length walk ≤ k → AtMost (far_within same arcs k a b) (total walk)
  unfolding far_within
  far_within-least arcs zero a b [] h short = AtMost-cond (same a b) (Finite (pos 0)) (pos 0) ((decides a b).1 h) (omega (arith, ints))
  far_within-least arcs zero a b (e ∷ walk) h short = absurd (omega arith)
  far_within-least arcs (suc k) a b [] h short =
      AtMost-lesser_left (far_within same arcs k a b) (least_first same arcs a (λ c. far_within same arcs k c b)) (pos 0) (far_within-least arcs k a b [] h (omega arith))
  far_within-least arcs (suc k) a b (e ∷ walk) h short =
      AtMost-lesser_right (far_within same arcs k a b) (least_first same arcs a (λ c. far_within same arcs k c b)) (e.weight +ℤ total walk)
      (least_first-le arcs a (λ c. far_within same arcs k c b) e (total walk) h.0 h.1 (far_within-least arcs k e.to b walk h.2 (omega arith)))

  pub IsFarWithin-far_within : (arcs : List (Arc P)) (k : ℕ) (a b : P) → IsFarWithin arcs k a b (far_within same arcs k a b)
  IsFarWithin-far_within arcs k a b = record { reached = far_within-reached arcs k a b; least = far_within-least arcs k a b }
