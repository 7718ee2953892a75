-- Where no closed walk has a negative sum, a walk without a repeated point is as good as any. So
-- `far`, the least over walks of at most so many constraints as there are points, is the least over
-- all.
use Rattle.std.proofs.Common.{◌≡◌, ◌∙◌, ◌⊎◌, inl, inr, ℕ, suc, ◌<◌, ◌≤◌, ◌-◌, Bool, List, [], ◌∷◌, length, ℤ, pos, ◌+ℤ◌, ◌≤ℤ◌, ap, sym, subst, arith, refl, true, false}
use Rattle.std.specs.Bool.{Decides}
use Rattle.std.specs.List.{IsDistinct, AllByRecursion, list_any, Contains}
use Rattle.std.proofs.lemmas.Bool.{or_cases}
use Rattle.std.proofs.lemmas.List.Elements.{All-contains}
use Rattle.std.proofs.lemmas.Map.Keys.{IsDistinct-cons, IsDistinct-tail}
use Rattle.std.proofs.lemmas.Map.Made.{length-le_from_is_member, is_member-Decides}
use Rattle.std.proofs.lemmas.Int.{ints}
use Rattle.tmm_model.specs.declared.bound.Bound.{Bound}
use Rattle.tmm_model.specs.declared.bound.Bound.TheVariants.{Finite, Free}
use Rattle.tmm_model.specs.Bounds.{IfFinite}
use Rattle.tmm_model.specs.Walks.{Arc, total, HasDates, far, far_within}
use Rattle.walk_theory.specs.LeastWalks.{IsWalk, points, HasWalk, IsFar, IsFarWithin, AreAmong}
use Rattle.walk_theory.proofs.Bounds.{AtMost-weaker}
use Rattle.walk_theory.proofs.Dates.{difference-le_total}
use Rattle.walk_theory.proofs.Points.{tells, IsEquivalence-from_decides}
use Rattle.walk_theory.proofs.Within.{IsFarWithin-far_within}

-- ---- one answer

module _ {P : Type 0} where
  -- the distance of two points is one
  pub IsFar-same : (arcs : List (Arc P)) (a b : P) (x y : Bound) → IsFar arcs a b x → IsFar arcs a b y → x ≡ y
  IsFar-same arcs a b (Finite x) (Finite y) f g =
      let r : HasWalk arcs a b x = f.reached in
      let s : HasWalk arcs a b y = g.reached in
      let le : x ≤ℤ total s.0 = f.least s.0 s.1 in
      let ge : y ≤ℤ total r.0 = g.least r.0 r.1 in
      let same : x ≡ y = omega (arith, ints, r.2, s.2) in
      ap (λ (z : ℤ). Finite z) same
  IsFar-same arcs a b (Finite x) Free f g = let r : HasWalk arcs a b x = f.reached in absurd (g.least r.0 r.1)
  IsFar-same arcs a b Free (Finite y) f g = let s : HasWalk arcs a b y = g.reached in absurd (f.least s.0 s.1)
  IsFar-same arcs a b Free Free f g = refl

  length-points : (walk : List (Arc P)) (b : P) → length (points walk b) ≡ suc (length walk)
  length-points [] b = refl
  length-points (e ∷ walk) b = omega (arith, length-points walk b)

  -- where there are dates, no closed walk has a negative sum
  pub closed_walks : (start : P) (arcs : List (Arc P)) → HasDates start arcs → (c : P) (walk : List (Arc P)) → IsWalk arcs c c walk → pos 0 ≤ℤ total walk
  closed_walks start arcs dates c walk h = omega (arith, ints, difference-le_total start arcs dates.0 dates.1 c c walk h)

-- ---- walks without a repeated point

module _ {P : Type 0} (same : P → P → Bool) where
  -- a walk cut where it visits a
  record Cut (arcs : List (Arc P)) (c a b : P) (walk : List (Arc P)) : Type 0 where
    front : List (Arc P)
    rest : List (Arc P)
    leads : IsWalk arcs c a front
    goes_on : IsWalk arcs a b rest
    distinct : IsDistinct same (points rest b)
    sums : total walk ≡ total front +ℤ total rest

  IsDistinct-none : IsDistinct same []
  unfolding IsDistinct
  IsDistinct-none = tt

  -- a walk without a repeated point that is at most as long as s
  pub record Path (arcs : List (Arc P)) (a b : P) (s : ℤ) : Type 0 where
    pub walk : List (Arc P)
    pub leads : IsWalk arcs a b walk
    pub distinct : IsDistinct same (points walk b)
    pub no_longer : total walk ≤ℤ s

module _ {P : Type 0} (same : P → P → Bool) (decides : (x y : P) → Decides (same x y) (x ≡ y)) where
  -- the walk does not visit a, or is cut there
  cut : (arcs : List (Arc P)) (c a b : P) (walk : List (Arc P)) → IsWalk arcs c b walk → IsDistinct same (points walk b) → AllByRecursion (λ y. same a y ≡ false) (points walk b) ⊎ Cut same arcs c a b walk
  cut arcs c a b [] h d =
      elim (tells same decides a b) [
        | inl is ↦ inr (record { front = []; rest = []; leads = h ∙ sym is.1; goes_on = is.1; distinct = d; sums = omega (arith, ints) })
        | inr other ↦ inl (other.0, tt)
      ]
  cut arcs c a b (e ∷ walk) h d =
      elim (tells same decides a e.from) [
        | inl is ↦ inr (record { front = []; rest = e ∷ walk; leads = sym h.1 ∙ sym is.1; goes_on = (h.0, sym is.1, h.2); distinct = d; sums = omega (arith, ints) })
        | inr other ↦ elim (cut arcs e.to a b walk h.2 (IsDistinct-tail same e.from (points walk b) d)) [
          | inl none ↦ inl (other.0, none)
          | inr k ↦ inr (record { front = e ∷ k.front; rest = k.rest; leads = (h.0, h.1, k.leads); goes_on = k.goes_on; distinct = k.distinct; sums = omega (arith, ints, k.sums) })
        ]
      ]

  -- **Every walk has a walk without a repeated point that is at most as long.**
  pub shorten : (arcs : List (Arc P)) → ((c : P) (walk : List (Arc P)) → IsWalk arcs c c walk → pos 0 ≤ℤ total walk) → (a b : P) (walk : List (Arc P)) → IsWalk arcs a b walk → Path same arcs a b (total walk)
  shorten arcs closed_sums a b [] h = record { walk = []; leads = h; distinct = IsDistinct-cons same b [] tt (IsDistinct-none same); no_longer = omega (arith, ints) }
  shorten arcs closed_sums a b (e ∷ walk) h =
      let s : Path same arcs e.to b (total walk) = shorten arcs closed_sums e.to b walk h.2 in
      elim (cut arcs e.to e.from b s.walk s.leads s.distinct) [
        | inl none ↦ record { walk = e ∷ s.walk; leads = (h.0, h.1, s.leads); distinct = IsDistinct-cons same e.from (points s.walk b) none s.distinct; no_longer = omega (arith, ints, s.no_longer) }
        | inr k ↦ record {
          walk = k.rest;
          leads = subst (λ (c : P). IsWalk arcs c b k.rest) h.1 k.goes_on;
          distinct = k.distinct;
          no_longer = omega (arith, ints, s.no_longer, k.sums, closed_sums e.from (e ∷ k.front) (h.0, refl, k.leads));
        }
      ]

  -- a walk visits known points alone
  points_among : (known : List P) (arcs : List (Arc P)) → AreAmong known arcs → (a b : P) → Contains known b → (walk : List (Arc P)) → IsWalk arcs a b walk → (q : P) → list_any (same q) (points walk b) ≡ true → Contains known q
  points_among known arcs among a b in_b [] h q t =
      elim (or_cases (same q b) false t) [ inl is ↦ subst (Contains known) (sym ((decides q b).0 is)) in_b | inr k ↦ absurd (cc k) ]
  points_among known arcs among a b in_b (e ∷ walk) h q t =
      elim (or_cases (same q e.from) (list_any (same q) (points walk b)) t) [
        | inl is ↦ subst (Contains known) (sym ((decides q e.from).0 is)) (All-contains (λ x. Contains known x.from × Contains known x.to) arcs e among h.0).0
        | inr k ↦ points_among known arcs among e.to b in_b walk h.2 q k
      ]

  -- a walk without a repeated point has fewer constraints than there are points
  pub length_lt_from_distinct : (known : List P) (arcs : List (Arc P)) → AreAmong known arcs → (a b : P) → Contains known b → (walk : List (Arc P)) → IsWalk arcs a b walk → IsDistinct same (points walk b) → length walk < length known
  length_lt_from_distinct known arcs among a b in_b walk h d =
      omega (
        arith,
        length-points walk b,
        length-le_from_is_member (IsEquivalence-from_decides same decides) (points walk b) known d
            (λ q t. (is_member-Decides decides known q).1 (points_among known arcs among a b in_b walk h q t)),
      )

  -- **With dates, `far` is the least sum over all walks.** The points are among at most n.
  pub IsFar-far : (start : P) (known : List P) (n : ℕ) → length known ≤ n → (arcs : List (Arc P)) → AreAmong known arcs → HasDates start arcs → (a b : P) → Contains known b → IsFar arcs a b (far same arcs n a b)
  unfolding far
  IsFar-far start known n few arcs among dates a b in_b =
      let w : IsFarWithin arcs (n - 1) a b (far_within same arcs (n - 1) a b) = IsFarWithin-far_within same decides arcs (n - 1) a b in
      record {
        reached = forget (far_within same arcs (n - 1) a b) w.reached;
        least = λ walk h.
            (let s : Path same arcs a b (total walk) = shorten arcs (closed_walks start arcs dates) a b walk h in
            AtMost-weaker (far_within same arcs (n - 1) a b) (total s.walk) (total walk)
            (w.least s.walk s.leads (omega (arith, few, length_lt_from_distinct known arcs among a b in_b s.walk s.leads s.distinct))) s.no_longer);
      }
    where
      forget : (x : Bound) → IfFinite x (λ t. (walk : List (Arc P)) × IsWalk arcs a b walk × (length walk ≤ n - 1) × (total walk ≡ t)) → IfFinite x (HasWalk arcs a b)
      forget (Finite x) h = (h.0, h.1, h.3)
      forget Free h = tt
