-- Steps of walks, closed walks of negative sum, and what they show.
use Rattle.std.proofs.Common.{◌≡◌, ◌∙◌, ℕ, inl, inr, List, [], ◌∷◌, ◌++◌, map, ap, sym, subst, refl, ℤ, pos, ◌<ℤ◌, append-nil}
use Rattle.std.specs.List.{All, Contains, flat_map}
use Rattle.std.proofs.lemmas.Bool.Decides.{same_from_decides, Decides-like}
use Rattle.std.proofs.lemmas.Grind.{flat_map-append}
use Rattle.std.proofs.lemmas.List.{map-append}
use Rattle.std.proofs.lemmas.List.Elements.{All-contains, All-tail, Contains-append_left, Contains-append_right}
use Rattle.std.proofs.lemmas.List.Sorted.{IsPermutation-to_front}
use Rattle.std.proofs.lemmas.Map.Keys.{IsDistinct-IsPermutation}
use Rattle.tmm_model.specs.declared.bound.Bound.{Bound}
use Rattle.tmm_model.specs.declared.bound.Bound.TheVariants.{Finite, Free}
use Rattle.tmm_model.specs.declared.point.PointName.{PointName}
use Rattle.tmm_model.specs.declared.point.PointName.TheVariants.{Start}
use Rattle.tmm_model.specs.declared.premise.Premise.{Premise}
use Rattle.tmm_model.specs.declared.premise.Premise.TheVariants.{Class, Kind, Point, Event, Token, Span, Dist, Rule, Protect, Against}
use Rattle.tmm_model.specs.declared.walk.WalkStep.{WalkStep}
use Rattle.tmm_model.specs.Cycles.{steps_in, Leads, sum_of, begins, IsCycleOf}
use Rattle.list_theory.specs.NegativeCycles.{IsNegativeCycle, IsCycleSum}
use Rattle.tmm_model.specs.Points.{same_point}
use Rattle.tmm_model.specs.Standing.{arc_of, arcs_of, arcs_in, name_of, steps_of, hi_steps, lo_steps, IsConsistent}
use Rattle.tmm_model.specs.Walks.{Arc}
use Rattle.walk_theory.specs.LeastWalks.{IsWalk}
use Rattle.walk_theory.proofs.Dates.{no_cycle_from_dates}
use Rattle.list_theory.proofs.Elements.{In, In-cases, In-flat_map, flat_map-In, Contains-from_In, In-from_Contains}
use Rattle.walk_theory.proofs.Members.{All-from_contains, Contains-cons_cases, Contains-cons_first, Contains-map}
use Rattle.walk_theory.proofs.Points.{Decides-same_point}

-- ---- members of joined lists

module _ {X Y : Type 0} (f : X → List Y) where
  pub Contains-flat_map : (xs : List X) (x : X) (y : Y) → Contains xs x → Contains (f x) y → Contains (flat_map f xs) y
  Contains-flat_map xs x y m h = Contains-from_In (flat_map f xs) y (flat_map-In f xs x y (In-from_Contains xs x m) (In-from_Contains (f x) y h))

  -- which list it stands in
  pub Contains-flat_map_from : (xs : List X) (y : Y) → Contains (flat_map f xs) y → (x : X) × Contains xs x × Contains (f x) y
  Contains-flat_map_from xs y m =
      let r : (x : X) × In x xs × In y (f x) = In-flat_map f xs y (In-from_Contains (flat_map f xs) y m) in
      (r.0, Contains-from_In xs r.0 r.1, Contains-from_In (f r.0) y r.2)

-- ---- the constraints of premises

names_hi : (name : List ℕ) (from to : PointName) (hi : Bound) (s : WalkStep) → In s (hi_steps name from to hi) → s.premise ≡ name
names_hi name from to (Finite hi) s (inl is) = sym (ap (λ (x : WalkStep). x.premise) is)
names_hi name from to (Finite hi) s (inr none) = absurd none
names_hi name from to Free s m = absurd m

names_lo : (name : List ℕ) (from to : PointName) (lo : Bound) (s : WalkStep) → In s (lo_steps name from to lo) → s.premise ≡ name
names_lo name from to (Finite lo) s (inl is) = sym (ap (λ (x : WalkStep). x.premise) is)
names_lo name from to (Finite lo) s (inr none) = absurd none
names_lo name from to Free s m = absurd m

names_its : (p : Premise) (s : WalkStep) → In s (steps_of p) → s.premise ≡ name_of p
names_its (Class name facts) s m = absurd m
names_its (Kind name) s m = absurd m
names_its (Point name) s (inl is) = sym (ap (λ (x : WalkStep). x.premise) is)
names_its (Point name) s (inr none) = absurd none
names_its (Event name kind) s (inl is) = sym (ap (λ (x : WalkStep). x.premise) is)
names_its (Event name kind) s (inr none) = absurd none
names_its (Token name fact) s (inl is) = sym (ap (λ (x : WalkStep). x.premise) is)
names_its (Token name fact) s (inr none) = absurd none
names_its (Span name fact) s (inl is) = sym (ap (λ (x : WalkStep). x.premise) is)
names_its (Span name fact) s (inr (inl is)) = sym (ap (λ (x : WalkStep). x.premise) is)
names_its (Span name fact) s (inr (inr none)) = absurd none
names_its (Dist name from to lo hi) s m = elim (In-cases (hi_steps name from to hi) (lo_steps name from to lo) s m) [ inl h ↦ names_hi name from to hi s h | inr l ↦ names_lo name from to lo s l ]
names_its (Rule name trigger lo hi effect given unless_facts) s m = absurd m
names_its (Protect name fact from to) s m = absurd m
names_its (Against name one other) s m = absurd m

-- **A constraint names its premise.**
pub names_own : (p : Premise) (s : WalkStep) → Contains (steps_of p) s → s.premise ≡ name_of p
names_own p s m = names_its p s (In-from_Contains (steps_of p) s m)

pub steps_in-push : (premises : List Premise) (refused : Premise) → steps_in (premises ++ refused ∷ []) ≡ steps_in premises ++ steps_of refused
steps_in-push premises refused = flat_map-append steps_of premises (refused ∷ []) ∙ ap (λ (t : List WalkStep). steps_in premises ++ t) (append-nil (steps_of refused))

pub arcs_of_steps : (premises : List Premise) → map arc_of (steps_in premises) ≡ arcs_in premises
arcs_of_steps [] = refl
arcs_of_steps (premise ∷ premises) = map-append arc_of (steps_of premise) (steps_in premises) ∙ ap (λ (t : List (Arc PointName)). arcs_of premise ++ t) (arcs_of_steps premises)

-- ---- walks

-- known steps that lead from p to q are a walk
pub IsWalk-from_steps : (known : List WalkStep) (p q : PointName) (steps : List WalkStep) → All (Contains known) steps → Leads p q steps → IsWalk (map arc_of known) p q (map arc_of steps)
IsWalk-from_steps known p q [] own leads = leads
IsWalk-from_steps known p q (s ∷ steps) own leads =
    (Contains-map arc_of known s (All-contains (Contains known) (s ∷ steps) s own (Contains-cons_first s steps)), leads.0, IsWalk-from_steps known s.to q steps (All-tail (Contains known) s steps own) leads.1)

-- ---- cycles

flips : (p q : PointName) → same_point p q ≡ same_point q p
flips p q = same_from_decides (same_point p q) (same_point q p) (Decides-same_point p q) (Decides-like (same_point q p) sym sym (Decides-same_point q p))

-- **The cycle of a refused premise is a negative cycle.**
pub IsNegativeCycle-from_cycle : (premises : List Premise) (refused : Premise) (sum : ℤ) (steps : List WalkStep) → IsCycleOf premises refused sum steps → IsNegativeCycle premises refused steps
IsNegativeCycle-from_cycle premises refused sum steps is =
    let first : WalkStep = is.first in
    let rest : List WalkStep = is.cycle.rest in
    subst (IsNegativeCycle premises refused) (sym is.cycle.are)
    (record {
      own = All-from_contains (Contains (steps_in (premises ++ refused ∷ []))) (first ∷ rest)
          (λ s m. subst (λ (known : List WalkStep). Contains known s) (sym (steps_in-push premises refused))
          (elim (Contains-cons_cases first rest s m) [
            | inl k ↦ Contains-append_left (steps_in premises) (steps_of refused) s (All-contains (Contains (steps_in premises)) rest s is.cycle.back.own k)
            | inr same ↦ Contains-append_right (steps_in premises) (steps_of refused) s (subst (Contains (steps_of refused)) (sym same) is.own)
          ]));
      closed = (first.from, (refl, is.cycle.back.leads));
      distinct = IsDistinct-IsPermutation same_point flips (begins rest ++ first.from ∷ []) (first.from ∷ begins rest) (IsPermutation-to_front (begins rest) first.from) is.cycle.back.distinct;
      negative = subst (λ (z : ℤ). z <ℤ pos 0) (sym is.cycle.sums ∙ ap sum_of is.cycle.are) is.negative;
    })

-- **Its sum is that of the refusal.**
pub IsCycleSum-from_cycle : (premises : List Premise) (refused : Premise) (sum : ℤ) (steps : List WalkStep) → IsCycleOf premises refused sum steps → IsCycleSum premises refused sum
IsCycleSum-from_cycle premises refused sum steps is =
    record { first = arc_of is.first; own = Contains-map arc_of (steps_of refused) is.first is.own; sums = is.tightest; negative = is.negative }

-- **A negative cycle shows that no dates satisfy the premises and the refused one.**
pub no_dates_from_cycle : (premises : List Premise) (refused : Premise) (steps : List WalkStep) → IsNegativeCycle premises refused steps → IsConsistent (premises ++ refused ∷ []) → ⊥
no_dates_from_cycle premises refused steps is dates =
    let all : List Premise = premises ++ refused ∷ [] in
    no_cycle_from_dates Start (arcs_in all) dates (
      is.closed.0,
      map arc_of steps,
      subst (λ (arcs : List (Arc PointName)). IsWalk arcs is.closed.0 is.closed.0 (map arc_of steps)) (arcs_of_steps all) (IsWalk-from_steps (steps_in all) is.closed.0 is.closed.0 steps is.own is.closed.1),
      is.negative,
    )
