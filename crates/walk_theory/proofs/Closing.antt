-- Distances over all walks, and what one more constraint makes of them.
use Rattle.std.proofs.Common.{inl, inr, ◌++◌, List, [], ◌∷◌, ℤ, pos, ◌+ℤ◌, sym, subst, arith, refl}
use Rattle.std.specs.List.{Contains}
use Rattle.std.proofs.lemmas.Int.{ints}
use Rattle.tmm_model.specs.declared.bound.Bound.{Bound}
use Rattle.tmm_model.specs.declared.bound.Bound.TheVariants.{Finite, Free}
use Rattle.tmm_model.specs.Bounds.{IfFinite}
use Rattle.walk_theory.specs.LeastWalks.{AtMost, ClosesNoNegativeCycle, IsWalk, HasWalk, IsFar, Adds, closed}
use Rattle.tmm_model.specs.Types.{through}
use Rattle.tmm_model.specs.Walks.{Arc, total}
use Rattle.walk_theory.proofs.Bounds.{AtMost-weaker, AtMost-lesser_left, AtMost-lesser_right, AtMost-lesser_cases, AtMost-through, AtMost-through_step, AtMost-past_cycle, IfFinite-lesser}
use Rattle.walk_theory.proofs.Walks.{IsWalk-append, IsWalk-kept, total-append}

module _ {P : Type 0} where
  pub IfFinite-kept : (old new : List (Arc P)) → ((x : Arc P) → Contains old x → Contains new x) → (a b : P) (x : Bound) → IfFinite x (HasWalk old a b) → IfFinite x (HasWalk new a b)
  IfFinite-kept old new sub a b (Finite x) h = (h.0, IsWalk-kept old new sub a b h.0 h.1, h.2)
  IfFinite-kept old new sub a b Free h = tt

  -- a constraint before the walk, and after it
  pub IsFar-first : (arcs : List (Arc P)) (b : P) (e : Arc P) (near far : Bound) (s : ℤ) → Contains arcs e → IsFar arcs e.to b near → IsFar arcs e.from b far → AtMost near s → AtMost far (e.weight +ℤ s)
  IsFar-first arcs b e (Finite x) far s m near_far far_far h =
      let r : HasWalk arcs e.to b x = near_far.reached in
      AtMost-weaker far _ _ (far_far.least (e ∷ r.0) (m, refl, r.1)) (omega (arith, ints, r.2))
  IsFar-first arcs b e Free far s m near_far far_far h = absurd h

  pub IsFar-last : (arcs : List (Arc P)) (a : P) (e : Arc P) (near far : Bound) (s : ℤ) → Contains arcs e → IsFar arcs a e.from near → IsFar arcs a e.to far → AtMost near s → AtMost far (s +ℤ e.weight)
  IsFar-last arcs a e (Finite x) far s m near_far far_far h =
      let r : HasWalk arcs a e.from x = near_far.reached in
      AtMost-weaker far _ _
      (far_far.least (r.0 ++ e ∷ []) (IsWalk-append arcs a e.from e.to r.0 (e ∷ []) r.1 (m, refl, refl)))
      (omega (arith, ints, r.2, total-append r.0 (e ∷ [])))
  IsFar-last arcs a e Free far s m near_far far_far h = absurd h

  -- the triangle law: a way over c is a way
  pub IsFar-triangle : (arcs : List (Arc P)) (a c b : P) (x y z : Bound) (s t : ℤ) → IsFar arcs a c x → IsFar arcs c b y → IsFar arcs a b z → AtMost x s → AtMost y t → AtMost z (s +ℤ t)
  IsFar-triangle arcs a c b (Finite x) (Finite y) z s t far_x far_y far_z h k =
      let r : HasWalk arcs a c x = far_x.reached in
      let q : HasWalk arcs c b y = far_y.reached in
      AtMost-weaker z _ _ (far_z.least (r.0 ++ q.0) (IsWalk-append arcs a c b r.0 q.0 r.1 q.1)) (omega (arith, ints, r.2, q.2, total-append r.0 q.0))
  IsFar-triangle arcs a c b (Finite x) Free z s t far_x far_y far_z h k = absurd k
  IsFar-triangle arcs a c b Free y z s t far_x far_y far_z h k = absurd h

  pub IfFinite-through : (arcs : List (Arc P)) (a b : P) (e : Arc P) (x y : Bound) → Contains arcs e → IfFinite x (HasWalk arcs a e.from) → IfFinite y (HasWalk arcs e.to b) → IfFinite (through x e.weight y) (HasWalk arcs a b)
  IfFinite-through arcs a b e (Finite x) (Finite y) m h k =
      (h.0 ++ e ∷ k.0, IsWalk-append arcs a e.from b h.0 (e ∷ k.0) h.1 (m, refl, k.1), omega (arith, ints, h.2, k.2, total-append h.0 (e ∷ k.0)))
  IfFinite-through arcs a b e (Finite x) Free m h k = tt
  IfFinite-through arcs a b e Free y m h k = tt

module _ {P : Type 0} (old new : List (Arc P)) (e : Arc P) (adds : Adds old e new) (In : P → Type 0)
    (ends : (x : Arc P) → Contains new x → In x.from × In x.to)
    (table : P → P → Bound) (is_far : (a b : P) → In a → In b → IsFar old a b (table a b))
    (fits : ClosesNoNegativeCycle e.weight (table e.to e.from)) where
  closed-first_old : (x : Arc P) (b : P) (s : ℤ) → Contains old x → In b → AtMost (closed table e x.to b) s → AtMost (closed table e x.from b) (x.weight +ℤ s)
  closed-first_old x b s m in_b h =
      let here : In x.from × In x.to = ends x (adds.kept x m) in
      let e_here : In e.from × In e.to = ends e adds.added in
      elim (AtMost-lesser_cases (table x.to b) (through (table x.to e.from) e.weight (table e.to b)) s h) [
        | inl k ↦ AtMost-lesser_left (table x.from b) (through (table x.from e.from) e.weight (table e.to b)) (x.weight +ℤ s)
            (IsFar-first old b x (table x.to b) (table x.from b) s m (is_far x.to b here.1 in_b) (is_far x.from b here.0 in_b) k)
        | inr k ↦ AtMost-lesser_right (table x.from b) (through (table x.from e.from) e.weight (table e.to b)) (x.weight +ℤ s)
            (AtMost-through_step (table x.to e.from) (table x.from e.from) x.weight e.weight (table e.to b) s
            (λ t. IsFar-first old e.from x (table x.to e.from) (table x.from e.from) t m (is_far x.to e.from here.1 e_here.0) (is_far x.from e.from here.0 e_here.0))
            k)
      ]

  closed-first_new : (b : P) (s : ℤ) → In b → AtMost (closed table e e.to b) s → AtMost (closed table e e.from b) (e.weight +ℤ s)
  closed-first_new b s in_b h =
      let e_here : In e.from × In e.to = ends e adds.added in
      let near : AtMost (table e.to b) s =
      elim (AtMost-lesser_cases (table e.to b) (through (table e.to e.from) e.weight (table e.to b)) s h)
      [ inl k ↦ k | inr k ↦ AtMost-past_cycle (table e.to e.from) e.weight (table e.to b) s fits k ] in
      let zero_walk : AtMost (table e.from e.from) (pos 0) = (is_far e.from e.from e_here.0 e_here.0).least [] refl in
      AtMost-lesser_right (table e.from b) (through (table e.from e.from) e.weight (table e.to b)) (e.weight +ℤ s)
      (AtMost-weaker (through (table e.from e.from) e.weight (table e.to b)) (pos 0 +ℤ e.weight +ℤ s) (e.weight +ℤ s)
      (AtMost-through (table e.from e.from) e.weight (table e.to b) (pos 0) s zero_walk near)
      (omega (arith, ints)))

  closed-first : (x : Arc P) (b : P) (s : ℤ) → Contains new x → In b → AtMost (closed table e x.to b) s → AtMost (closed table e x.from b) (x.weight +ℤ s)
  closed-first x b s m in_b h =
      elim (adds.only x m) [
        | inl k ↦ closed-first_old x b s k in_b h
        | inr k ↦ (let F : Arc P → Type 0 = λ y. AtMost (closed table e y.to b) s → AtMost (closed table e y.from b) (y.weight +ℤ s) in
            subst F (sym k) (closed-first_new b s in_b) h)
      ]

  closed-least : (a b : P) → In a → In b → (walk : List (Arc P)) → IsWalk new a b walk → AtMost (closed table e a b) (total walk)
  closed-least a b in_a in_b [] h =
      AtMost-lesser_left (table a b) (through (table a e.from) e.weight (table e.to b)) (pos 0) ((is_far a b in_a in_b).least [] h)
  closed-least a b in_a in_b (x ∷ walk) h =
      let F : P → Type 0 = λ c. AtMost (closed table e c b) (x.weight +ℤ total walk) in
      subst F h.1 (closed-first x b (total walk) h.0 in_b (closed-least x.to b (ends x h.0).1 in_b walk h.2))

  -- **One more constraint.** Where it closes no negative cycle, the least sums are the old ones or
  -- go through it once.
  pub IsFar-closed : (a b : P) → In a → In b → IsFar new a b (closed table e a b)
  IsFar-closed a b in_a in_b =
      let e_here : In e.from × In e.to = ends e adds.added in
      record {
        reached =
            IfFinite-lesser (table a b) (through (table a e.from) e.weight (table e.to b)) (HasWalk new a b)
            (IfFinite-kept old new adds.kept a b (table a b) (is_far a b in_a in_b).reached)
            (IfFinite-through new a b e (table a e.from) (table e.to b) adds.added
            (IfFinite-kept old new adds.kept a e.from (table a e.from) (is_far a e.from in_a e_here.0).reached)
            (IfFinite-kept old new adds.kept e.to b (table e.to b) (is_far e.to b e_here.1 in_b).reached));
        least = closed-least a b in_a in_b;
      }
