-- Walks, distances and dates where each point has another name, as a number.
use Rattle.std.proofs.Common.{◌≡◌, ◌∙◌, List, [], ◌∷◌, map, ℤ, ◌+ℤ◌, ◌-ℤ◌, ◌≤ℤ◌, ap, sym, subst, refl}
use Rattle.std.specs.List.{Contains}
use Rattle.tmm_model.specs.declared.bound.Bound.{Bound}
use Rattle.tmm_model.specs.declared.bound.Bound.TheVariants.{Finite, Free}
use Rattle.tmm_model.specs.Bounds.{IfFinite}
use Rattle.walk_theory.specs.LeastWalks.{AtMost, renamed, IsWalk, HasWalk, IsFar}
use Rattle.tmm_model.specs.Walks.{Arc, total, HasDates}
use Rattle.walk_theory.proofs.Dates.{met_at}
use Rattle.walk_theory.proofs.Members.{All-from_contains, Contains-map, Contains-map_from}

total-renamed : {P Q : Type 0} (f : P → Q) (walk : List (Arc P)) → total (map (renamed f) walk) ≡ total walk
total-renamed f [] = refl
total-renamed f (e ∷ walk) = ap (λ (s : ℤ). e.weight +ℤ s) (total-renamed f walk)

-- the points that the constraints use are in In
module _ {P Q : Type 0} (f : P → Q) (arcs : List (Arc P)) where
  IsWalk-renamed : (a b : P) (walk : List (Arc P)) → IsWalk arcs a b walk → IsWalk (map (renamed f) arcs) (f a) (f b) (map (renamed f) walk)
  IsWalk-renamed a b [] h = ap f h
  IsWalk-renamed a b (e ∷ walk) h = (Contains-map (renamed f) arcs e h.0, ap f h.1, IsWalk-renamed e.to b walk h.2)

  HasWalk-renamed : (a b : P) (x : Bound) → IfFinite x (HasWalk arcs a b) → IfFinite x (HasWalk (map (renamed f) arcs) (f a) (f b))
  HasWalk-renamed a b (Finite x) h = (map (renamed f) h.0, IsWalk-renamed a b h.0 h.1, total-renamed f h.0 ∙ h.2)
  HasWalk-renamed a b Free h = tt

  -- **Dates under the new names are dates under the old ones.**
  pub HasDates-from_renamed : (start : P) → HasDates (f start) (map (renamed f) arcs) → HasDates start arcs
  HasDates-from_renamed start (date, dates) = (
    λ p. date (f p),
    record {
      at_start = dates.at_start;
      met = All-from_contains (λ e. (date (f e.to) -ℤ date (f e.from)) ≤ℤ e.weight) arcs
          (λ e m. met_at (f start) (map (renamed f) arcs) date (renamed f e) dates (Contains-map (renamed f) arcs e m));
    },
  )

module _ {P Q : Type 0} (f : P → Q) (g : Q → P) (arcs : List (Arc P)) (In : P → Type 0)
    (ends : (e : Arc P) → Contains arcs e → In e.from × In e.to) (back : (p : P) → In p → g (f p) ≡ p) where
  -- a walk under the new names is one under the old
  IsWalk-from_renamed : (a b : P) → In a → In b → (q : Q) → q ≡ f a → (walk : List (Arc Q)) → IsWalk (map (renamed f) arcs) q (f b) walk → HasWalk arcs a b (total walk)
  IsWalk-from_renamed a b in_a in_b q at [] h = ([], sym (back a in_a) ∙ ap g (sym at ∙ h) ∙ back b in_b, refl)
  IsWalk-from_renamed a b in_a in_b q at (e ∷ walk) h =
      let m : (x : Arc P) × Contains arcs x × (renamed f x ≡ e) = Contains-map_from (renamed f) arcs e h.0 in
      let used : In m.0.from × In m.0.to = ends m.0 m.1 in
      let r : HasWalk arcs m.0.to b (total walk) = IsWalk-from_renamed m.0.to b used.1 in_b e.to (ap (λ (x : Arc Q). x.to) (sym m.2)) walk h.2 in
      let from : m.0.from ≡ a = sym (back m.0.from used.0) ∙ ap g (ap (λ (x : Arc Q). x.from) m.2 ∙ h.1 ∙ at) ∙ back a in_a in
      let weight : m.0.weight ≡ e.weight = ap (λ (x : Arc Q). x.weight) m.2 in
      (m.0 ∷ r.0, (m.1, from, r.1), ap (λ (s : ℤ). m.0.weight +ℤ s) r.2 ∙ ap (λ (w : ℤ). w +ℤ total walk) weight)

  -- **The distance of two points is that under their new names.**
  pub IsFar-renamed : (a b : P) → In a → In b → (x : Bound) → IsFar arcs a b x → IsFar (map (renamed f) arcs) (f a) (f b) x
  IsFar-renamed a b in_a in_b x far = record {
    reached = HasWalk-renamed f arcs a b x far.reached;
    least = λ walk h.
        (let r : HasWalk arcs a b (total walk) = IsWalk-from_renamed a b in_a in_b (f a) refl walk h in
        subst (λ (s : ℤ). AtMost x s) r.2 (far.least r.0 r.1));
  }

  -- **Dates under the old names are dates under the new ones.**
  pub HasDates-renamed : (start : P) → In start → HasDates start arcs → HasDates (f start) (map (renamed f) arcs)
  HasDates-renamed start in_start (date, dates) = (
    λ q. date (g q),
    record {
      at_start = ap date (back start in_start) ∙ dates.at_start;
      met = All-from_contains (λ e. (date (g e.to) -ℤ date (g e.from)) ≤ℤ e.weight) (map (renamed f) arcs)
          (λ e m.
          (let k : (x : Arc P) × Contains arcs x × (renamed f x ≡ e) = Contains-map_from (renamed f) arcs e m in
          let used : In k.0.from × In k.0.to = ends k.0 k.1 in
          let F : Arc Q → Type 0 = λ x. (date (g x.to) -ℤ date (g x.from)) ≤ℤ x.weight in
          subst F k.2
          (subst (λ (p : P). (date p -ℤ date (g (f k.0.from))) ≤ℤ k.0.weight) (sym (back k.0.to used.1))
          (subst (λ (p : P). (date k.0.to -ℤ date p) ≤ℤ k.0.weight) (sym (back k.0.from used.0))
          (met_at start arcs date k.0 dates k.1)))));
    },
  )
