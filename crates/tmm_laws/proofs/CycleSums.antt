-- A premise that a sound list refuses for a negative cycle has one sum of such a cycle.
use Rattle.std.proofs.Common.{◌≡◌, ◌≢◌, ◌∙◌, ap, sym, subst, inl, inr, arith, List, [], None, ℕ, ℤ, pos, ◌<ℤ◌, ◌≤ℤ◌, ◌+ℤ◌, neg_ℤ, ◌⊎◌}
use Rattle.std.specs.List.{Contains}
use Rattle.std.proofs.lemmas.Int.{ints}
use Rattle.std.proofs.lemmas.List.Elements.{All-contains}
use Rattle.tmm_model.specs.declared.bound.Bound.{Bound}
use Rattle.tmm_model.specs.declared.bound.Bound.TheVariants.{Finite, Free}
use Rattle.tmm_model.specs.declared.point.PointName.{PointName}
use Rattle.tmm_model.specs.declared.premise.Edit.TheVariants.{Add}
use Rattle.tmm_model.specs.declared.premise.Premise.{Premise}
use Rattle.tmm_model.specs.declared.premise.Premise.TheVariants.{Class, Kind, Point, Event, Token, Span, Dist, Rule, Protect, Against}
use Rattle.tmm_model.specs.declared.walk.WalkStep.{WalkStep}
use Rattle.tmm_model.specs.Types.{IsTighter}
use Rattle.tmm_model.specs.Bounds.{after, bound_plus}
use Rattle.tmm_model.specs.Lines.{IsWellFormedPremise, IsRange}
use Rattle.list_theory.specs.WellNamed.{IsSound}
use Rattle.tmm_model.specs.Standing.{Standing, points_of, points_in, steps_of, arc_of, arcs_of, arcs_in, far_in}
use Rattle.tmm_model.specs.Verdicts.{list_cause}
use Rattle.list_theory.specs.NegativeCycles.{IsCycleSum}
use Rattle.tmm_model.specs.Walks.{Arc}
use Rattle.list_theory.proofs.Adding.{MayBeAdded, may_be_added, StartAtOwn, own_or_none}
use Rattle.list_theory.proofs.Elements.{In, In-from_Contains}
use Rattle.list_theory.proofs.KnownNames.{arcs_among}
use Rattle.walk_theory.proofs.Members.{Contains-map_from}
use Rattle.list_theory.proofs.Places.{points_new}
use Rattle.walk_theory.proofs.Removal.{Free-to_outside}
use Rattle.belief_theory.proofs.Sound.{far_in-IsFar, shortest}

-- of the upper and the lower bound of a distance at most one closes a negative cycle, where the
-- ways forth and back together have no negative sum
not_both : (lo hi x y : ℤ) (forth back : Bound) → lo ≤ℤ hi → IsTighter (Finite (pos 0)) (bound_plus forth back)
    → after hi back ≡ Finite x → x <ℤ pos 0 → after (neg_ℤ lo) forth ≡ Finite y → y <ℤ pos 0 → ⊥
not_both lo hi x y (Finite f) (Finite b) range round e x_neg g y_neg =
    let one : (hi +ℤ b) ≡ x = cc in
    let two : (neg_ℤ lo +ℤ f) ≡ y = cc in
    omega (arith, ints, one, two)
not_both lo hi x y Free back range round e x_neg g y_neg = cc
not_both lo hi x y (Finite f) Free range round e x_neg g y_neg = cc

module _ (s : Standing) (sound : IsSound s) where
  abbrev way : PointName → PointName → Bound
  way = far_in s.premises

  -- the constraint e closes a walk of this sum
  abbrev Closes : Arc PointName → ℤ → Type 0
  Closes e sum = after e.weight (way e.to e.from) ≡ Finite sum

  -- the sums of one constraint are one
  same_sum : (p : Premise) (x y : ℤ) (a : IsCycleSum s.premises p x) (b : IsCycleSum s.premises p y) → a.first ≡ b.first → x ≡ y
  same_sum p x y a b is = let same : Finite x ≡ Finite y = sym a.sums ∙ ap (λ (e : Arc PointName). after e.weight (way e.to e.from)) is ∙ b.sums in cc

  -- a way there and back is no shorter than none
  round : (p q : PointName) → IsTighter (Finite (pos 0)) (bound_plus (way p q) (way q p))
  round p q = let is = shortest s sound in subst (λ f. IsTighter f (bound_plus (way p q) (way q p))) (is.itself p) (is.triangle p q p)

  module _ (name : List ℕ) (from to : PointName) where
    abbrev between : Bound → Bound → Premise
    between lo hi = Dist name from to lo hi

    -- of a `dist` at most one of the bounds makes a cycle
    one_bound : (lo hi x y : ℤ) → lo ≤ℤ hi → (a : IsCycleSum s.premises (between (Finite lo) (Finite hi)) x) (b : IsCycleSum s.premises (between (Finite lo) (Finite hi)) y)
        → record { from = from; to = to; weight = hi } ≡ a.first → record { from = to; to = from; weight = neg_ℤ lo } ≡ b.first → ⊥
    one_bound lo hi x y range a b is at =
        not_both lo hi x y (way from to) (way to from) range (round from to)
        (subst (λ e. Closes e x) (sym is) a.sums) a.negative (subst (λ e. Closes e y) (sym at) b.sums) b.negative

    dist_sums : (lo hi : Bound) → IsRange lo hi → (x y : ℤ) (a : IsCycleSum s.premises (between lo hi) x) (b : IsCycleSum s.premises (between lo hi) y)
        → In a.first (arcs_of (between lo hi)) → In b.first (arcs_of (between lo hi)) → x ≡ y
    dist_sums (Finite lo) (Finite hi) range x y a b (inl is) (inl at) = same_sum (between (Finite lo) (Finite hi)) x y a b (sym is ∙ at)
    dist_sums (Finite lo) (Finite hi) range x y a b (inl is) (inr (inl at)) = absurd (one_bound lo hi x y range a b is at)
    dist_sums (Finite lo) (Finite hi) range x y a b (inr (inl is)) (inl at) = absurd (one_bound lo hi y x range b a at is)
    dist_sums (Finite lo) (Finite hi) range x y a b (inr (inl is)) (inr (inl at)) = same_sum (between (Finite lo) (Finite hi)) x y a b (sym is ∙ at)
    dist_sums (Finite lo) (Finite hi) range x y a b (inr (inr none)) at = absurd none
    dist_sums (Finite lo) (Finite hi) range x y a b (inl is) (inr (inr none)) = absurd none
    dist_sums (Finite lo) (Finite hi) range x y a b (inr (inl is)) (inr (inr none)) = absurd none
    dist_sums (Finite lo) Free range x y a b (inl is) (inl at) = same_sum (between (Finite lo) Free) x y a b (sym is ∙ at)
    dist_sums (Finite lo) Free range x y a b (inr none) at = absurd none
    dist_sums (Finite lo) Free range x y a b (inl is) (inr none) = absurd none
    dist_sums Free (Finite hi) range x y a b (inl is) (inl at) = same_sum (between Free (Finite hi)) x y a b (sym is ∙ at)
    dist_sums Free (Finite hi) range x y a b (inr none) at = absurd none
    dist_sums Free (Finite hi) range x y a b (inl is) (inr none) = absurd none
    dist_sums Free Free range x y a b is at = absurd range

  -- a premise with points of its own closes no cycle: no way leads to a new point
  none_by_own : (p : Premise) → MayBeAdded s.premises p → StartAtOwn p → (x : ℤ) → IsCycleSum s.premises p x → ⊥
  none_by_own p may own x is =
      let (step, at, of) = Contains-map_from arc_of (steps_of p) is.first is.own in
      let (mine, other) = All-contains (λ (t : WalkStep). Contains (points_of p) t.from × (t.to ≢ t.from)) (steps_of p) step own at in
      let free : way step.to step.from ≡ Free =
      Free-to_outside (Contains (points_in s.premises)) (arcs_in s.premises)
      (λ e m. All-contains (λ a. Contains (points_in s.premises) a.from × Contains (points_in s.premises) a.to) (arcs_in s.premises) e (arcs_among s.premises sound.well_named) m)
      step.to step.from (points_new s.premises p may.names step.from mine) other (way step.to step.from) (far_in-IsFar s sound step.to step.from) in
      let none : Free ≡ Finite x = sym (ap (after step.weight) free) ∙ subst (λ e. Closes e x) (sym of) is.sums in
      cc

  -- a premise has points of its own, or it is a `dist` or has no constraint
  by_kind : (p : Premise) → IsWellFormedPremise p → StartAtOwn p ⊎ (points_of p ≡ []) → MayBeAdded s.premises p → (x y : ℤ) → IsCycleSum s.premises p x → IsCycleSum s.premises p y → x ≡ y
  by_kind p wf (inl own) may x y a b = absurd (none_by_own p may own x a)
  by_kind (Dist name from to lo hi) wf (inr none) may x y a b =
      dist_sums name from to lo hi wf.5 x y a b
      (In-from_Contains (arcs_of (Dist name from to lo hi)) a.first a.own) (In-from_Contains (arcs_of (Dist name from to lo hi)) b.first b.own)
  by_kind (Class name facts) wf (inr none) may x y a b = absurd (In-from_Contains [] a.first a.own)
  by_kind (Kind name) wf (inr none) may x y a b = absurd (In-from_Contains [] a.first a.own)
  by_kind (Rule name trigger lo hi effect given unless_facts) wf (inr none) may x y a b = absurd (In-from_Contains [] a.first a.own)
  by_kind (Protect name fact from to) wf (inr none) may x y a b = absurd (In-from_Contains [] a.first a.own)
  by_kind (Against name one other) wf (inr none) may x y a b = absurd (In-from_Contains [] a.first a.own)
  by_kind (Point name) wf (inr none) may x y a b = cc
  by_kind (Event name kind) wf (inr none) may x y a b = cc
  by_kind (Token name fact) wf (inr none) may x y a b = cc
  by_kind (Span name fact) wf (inr none) may x y a b = cc

-- **The list and the premise fix the sum of a refusal for a negative cycle.**
pub one_sum : (s : Standing) (refused : Premise) → IsSound s → IsWellFormedPremise refused → list_cause s (Add refused) ≡ None → (x y : ℤ) → IsCycleSum s.premises refused x → IsCycleSum s.premises refused y → x ≡ y
one_sum s refused sound wf none x y a b = by_kind s sound refused wf (own_or_none refused) (may_be_added s.premises refused none) x y a b
