-- Distances after a constraint is taken out.
use Rattle.std.proofs.Common.{◌≡◌, ◌⊎◌, inl, inr, ◌∙◌, List, [], ◌∷◌, ℤ, ◌+ℤ◌, ◌-ℤ◌, ◌≤ℤ◌, ap, sym, subst, arith, refl}
use Rattle.std.specs.List.{Contains}
use Rattle.std.proofs.lemmas.Int.{ints}
use Rattle.tmm_model.specs.declared.bound.Bound.{Bound}
use Rattle.tmm_model.specs.declared.bound.Bound.TheVariants.{Finite, Free}
use Rattle.tmm_model.specs.Bounds.{IfFinite}
use Rattle.walk_theory.specs.LeastWalks.{AtMost, IsWalk, HasWalk, IsFar, Adds}
use Rattle.tmm_model.specs.Types.{through}
use Rattle.tmm_model.specs.Walks.{Arc, total, HasDates, IsDates}
use Rattle.walk_theory.proofs.Bounds.{AtMost-weaker, AtMost-through}
use Rattle.walk_theory.proofs.Closing.{IfFinite-through}
use Rattle.walk_theory.proofs.Dates.{met_at}
use Rattle.walk_theory.proofs.Members.{All-from_contains}
use Rattle.walk_theory.proofs.Walks.{IsWalk-kept}

module _ {P : Type 0} (start : P) where
  -- fewer constraints keep dates
  pub IsDates-fewer : (old new : List (Arc P)) → ((x : Arc P) → Contains new x → Contains old x) → (date : P → ℤ) → IsDates start old date → IsDates start new date
  IsDates-fewer old new sub date dates =
      record { at_start = dates.at_start; met = All-from_contains (λ e. (date e.to -ℤ date e.from) ≤ℤ e.weight) new (λ e m. met_at start old date e dates (sub e m)) }

  pub HasDates-fewer : (old new : List (Arc P)) → ((x : Arc P) → Contains new x → Contains old x) → HasDates start old → HasDates start new
  HasDates-fewer old new sub (date, dates) = (date, IsDates-fewer old new sub date dates)

-- a bound that is at most s, and whose number is at least s, is s
exactly : (x : Bound) (s : ℤ) → AtMost x s → IfFinite x (λ t. s ≤ℤ t) → x ≡ Finite s
exactly (Finite x) s h k = ap (λ (z : ℤ). Finite z) (omega (arith, ints))
exactly Free s h k = absurd h

module _ {P : Type 0} where
  -- two lists with the same walks from a to b have the same distance
  pub IsFar-by : (arcs others : List (Arc P)) (a b : P) (x : Bound) → ((walk : List (Arc P)) → IsWalk arcs a b walk → IsWalk others a b walk) → ((walk : List (Arc P)) → IsWalk others a b walk → IsWalk arcs a b walk) → IsFar arcs a b x → IsFar others a b x
  IsFar-by arcs others a b (Finite x) to from far =
      let r : HasWalk arcs a b x = far.reached in
      record { reached = (r.0, to r.0 r.1, r.2); least = λ walk h. far.least walk (from walk h) }
  IsFar-by arcs others a b Free to from far = record { reached = tt; least = λ walk h. far.least walk (from walk h) }

  -- where the constraints are between points of In, none leads from a point outside, and none to it
  pub walk_from_outside : (In : P → Type 0) (arcs others : List (Arc P)) → ((e : Arc P) → Contains arcs e → In e.from × In e.to) → (a b : P) → (In a → ⊥) → (walk : List (Arc P)) → IsWalk arcs a b walk → IsWalk others a b walk
  walk_from_outside In arcs others ends a b out [] h = h
  walk_from_outside In arcs others ends a b out (e ∷ walk) h = absurd (out (subst In h.1 (ends e h.0).0))

  pub leads_inside : (In : P → Type 0) (arcs : List (Arc P)) → ((e : Arc P) → Contains arcs e → In e.from × In e.to) → (a b : P) → (In b → ⊥) → (e : Arc P) (walk : List (Arc P)) → IsWalk arcs a b (e ∷ walk) → ⊥
  leads_inside In arcs ends a b out e [] h = out (subst In h.2 (ends e h.0).1)
  leads_inside In arcs ends a b out e (f ∷ walk) h = leads_inside In arcs ends e.to b out f walk h.2

  pub walk_to_outside : (In : P → Type 0) (arcs others : List (Arc P)) → ((e : Arc P) → Contains arcs e → In e.from × In e.to) → (a b : P) → (In b → ⊥) → (walk : List (Arc P)) → IsWalk arcs a b walk → IsWalk others a b walk
  walk_to_outside In arcs others ends a b out [] h = h
  walk_to_outside In arcs others ends a b out (e ∷ walk) h = absurd (leads_inside In arcs ends a b out e walk h)

  no_walk_from_outside : (In : P → Type 0) (arcs : List (Arc P)) → ((e : Arc P) → Contains arcs e → In e.from × In e.to) → (a b : P) → (In a → ⊥) → (a ≡ b → ⊥) → (walk : List (Arc P)) → IsWalk arcs a b walk → ⊥
  no_walk_from_outside In arcs ends a b out ne [] h = ne h
  no_walk_from_outside In arcs ends a b out ne (e ∷ walk) h = out (subst In h.1 (ends e h.0).0)

  no_walk_to_outside : (In : P → Type 0) (arcs : List (Arc P)) → ((e : Arc P) → Contains arcs e → In e.from × In e.to) → (a b : P) → (In b → ⊥) → (a ≡ b → ⊥) → (walk : List (Arc P)) → IsWalk arcs a b walk → ⊥
  no_walk_to_outside In arcs ends a b out ne [] h = ne h
  no_walk_to_outside In arcs ends a b out ne (e ∷ walk) h = leads_inside In arcs ends a b out e walk h

  -- a distance from a point outside to another is none, and so is one to it
  pub Free-from_outside : (In : P → Type 0) (arcs : List (Arc P)) → ((e : Arc P) → Contains arcs e → In e.from × In e.to) → (a b : P) → (In a → ⊥) → (a ≡ b → ⊥) → (x : Bound) → IsFar arcs a b x → x ≡ Free
  Free-from_outside In arcs ends a b out ne (Finite x) far = let r : HasWalk arcs a b x = far.reached in absurd (no_walk_from_outside In arcs ends a b out ne r.0 r.1)
  Free-from_outside In arcs ends a b out ne Free far = refl

  pub Free-to_outside : (In : P → Type 0) (arcs : List (Arc P)) → ((e : Arc P) → Contains arcs e → In e.from × In e.to) → (a b : P) → (In b → ⊥) → (a ≡ b → ⊥) → (x : Bound) → IsFar arcs a b x → x ≡ Free
  Free-to_outside In arcs ends a b out ne (Finite x) far = let r : HasWalk arcs a b x = far.reached in absurd (no_walk_to_outside In arcs ends a b out ne r.0 r.1)
  Free-to_outside In arcs ends a b out ne Free far = refl

  -- ---- pairs that the constraint taken out does not serve

  -- a walk through the constraint
  record Through (arcs : List (Arc P)) (e : Arc P) (a b : P) (s : ℤ) : Type 0 where
    front : List (Arc P)
    rest : List (Arc P)
    leads : IsWalk arcs a e.from front
    goes_on : IsWalk arcs e.to b rest
    sums : s ≡ total front +ℤ e.weight +ℤ total rest

  without_or_through : (old new : List (Arc P)) (e : Arc P) → Adds new e old → (a b : P) (walk : List (Arc P)) → IsWalk old a b walk → IsWalk new a b walk ⊎ Through old e a b (total walk)
  without_or_through old new e adds a b [] h = inl h
  without_or_through old new e adds a b (x ∷ walk) h =
      elim (adds.only x h.0) [
        | inr same ↦ inr (record {
          front = [];
          rest = walk;
          leads = sym h.1 ∙ ap (λ (y : Arc P). y.from) same;
          goes_on = subst (λ (y : Arc P). IsWalk old y.to b walk) same h.2;
          sums = ap (λ (y : Arc P). y.weight +ℤ total walk) same ∙ omega (arith, ints);
        })
        | inl m ↦ elim (without_or_through old new e adds x.to b walk h.2) [
          | inl rest ↦ inl (m, h.1, rest)
          | inr t ↦ inr (record { front = x ∷ t.front; rest = t.rest; leads = (h.0, h.1, t.leads); goes_on = t.goes_on; sums = omega (arith, ints, t.sums) })
        ]
      ]

  at_least : (arcs : List (Arc P)) (a b : P) (s : ℤ) (x : Bound) → IsFar arcs a b (Finite s) → IfFinite x (HasWalk arcs a b) → IfFinite x (λ t. s ≤ℤ t)
  at_least arcs a b s (Finite x) far h = let le : s ≤ℤ total h.0 = far.least h.0 h.1 in omega (arith, ints, h.2)
  at_least arcs a b s Free far h = tt

  -- **The distance of a pair stays where no least walk of it goes through the constraint.**
  pub IsFar-not_suspect : (old new : List (Arc P)) (e : Arc P) → Adds new e old → (a b : P) (x y z : Bound) → IsFar old a b x → IsFar old a e.from y → IsFar old e.to b z →
      ((s : ℤ) → x ≡ Finite s → through y e.weight z ≡ Finite s → ⊥) → IsFar new a b x
  IsFar-not_suspect old new e adds a b (Finite s) y z far far_y far_z differs =
      let r : HasWalk old a b s = far.reached in
      record {
        reached =
            elim (without_or_through old new e adds a b r.0 r.1) [
              | inl walk ↦ (r.0, walk, r.2)
              | inr t ↦ absurd (differs s refl
                  (exactly (through y e.weight z) s
                  (AtMost-weaker (through y e.weight z) (total t.front +ℤ e.weight +ℤ total t.rest) s
                  (AtMost-through y e.weight z (total t.front) (total t.rest) (far_y.least t.front t.leads) (far_z.least t.rest t.goes_on))
                  (omega (arith, ints, t.sums, r.2)))
                  (at_least old a b s (through y e.weight z) far (IfFinite-through old a b e y z adds.added far_y.reached far_z.reached))))
            ];
        least = λ walk h. far.least walk (IsWalk-kept new old adds.kept a b walk h);
      }
  IsFar-not_suspect old new e adds a b Free y z far far_y far_z differs =
      record { reached = tt; least = λ walk h. far.least walk (IsWalk-kept new old adds.kept a b walk h) }
