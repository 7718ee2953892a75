-- A premise that may be added: its points are new, and its constraints are between points that are
-- there.
use Rattle.std.proofs.Common.{◌≡◌, ◌≢◌, ◌⊎◌, inl, inr, ℕ, ◌≤◌, ◌<◌, Bool, true, false, leb, List, [], ◌∷◌, ◌++◌, length, Option, Some, None, sym, subst, arith, refl, ℤ, neg_ℤ}
use Rattle.std.specs.List.{All, Contains, flat_map}
use Rattle.std.specs.Option.{option_or}
use Rattle.std.proofs.lemmas.List.Elements.{All-contains, Contains-append_left, Contains-append_right}
use Rattle.tmm_model.specs.declared.bound.Bound.{Bound}
use Rattle.tmm_model.specs.declared.bound.Bound.TheVariants.{Finite, Free}
use Rattle.tmm_model.specs.declared.point.PointName.{PointName}
use Rattle.tmm_model.specs.declared.point.PointName.TheVariants.{Start, Begin, End}
use Rattle.tmm_model.specs.declared.premise.Premise.{Premise}
use Rattle.tmm_model.specs.declared.premise.Premise.TheVariants.{Class, Kind, Point, Event, Token, Span, Dist, Rule, Protect, Against}
use Rattle.tmm_model.specs.declared.walk.Side.TheVariants.{Hi, Lo}
use Rattle.tmm_model.specs.declared.walk.WalkStep.{WalkStep}
use Rattle.tmm_model.specs.Standing.{points_of, points_in, steps_of, base_step, length_step, hi_steps, lo_steps}
use Rattle.tmm_model.specs.Sorts.{Use, a_place, uses_of, declared_by}
use Rattle.tmm_model.specs.Verdicts.{Cause, too_many_premises, too_many_points, most_premises, most_points, use_cause, uses_cause, first_taken, words_known, premises_cause, points_cause, add_cause}
use Rattle.walk_theory.proofs.Members.{All-from_contains, Contains-cons, Contains-cons_first, Contains-cons_cases}
use Rattle.list_theory.proofs.Elements.{In}
use Rattle.list_theory.proofs.Places.{place_known}

-- ---- what no cause means

option_or-none : {A : Type 0} (x y : Option A) → option_or x y ≡ None → (x ≡ None) × (y ≡ None)
option_or-none (Some a) y none = absurd (cc (none))
option_or-none None y none = (refl, none)

-- no cause among names and counts stands against the premise
pub record MayBeAdded (ps : List Premise) (p : Premise) : Type 0 where
  pub names : first_taken (words_known ps) (declared_by p) ≡ None
  pub uses : uses_cause ps (uses_of p) ≡ None
  pub few : length ps < most_premises
  pub room : length (points_in (ps ++ p ∷ [])) ≤ most_points

few_premises : (ps : List Premise) → premises_cause ps ≡ None → length ps < most_premises
few_premises ps none = by (leb most_premises (length ps)) refl none
  where
    by : (b : Bool) → leb most_premises (length ps) ≡ b → elim b as (λ _. Option Cause) [ true ↦ Some too_many_premises | false ↦ None ] ≡ None → length ps < most_premises
    by true e h = absurd (cc (h))
    by false e h = grind arith

few_points : (ps : List Premise) → points_cause ps ≡ None → length (points_in ps) ≤ most_points
few_points ps none = by (leb (length (points_in ps)) most_points) refl none
  where
    by : (b : Bool) → leb (length (points_in ps)) most_points ≡ b → elim b as (λ _. Option Cause) [ true ↦ None | false ↦ Some too_many_points ] ≡ None → length (points_in ps) ≤ most_points
    by true e h = grind arith
    by false e h = absurd (cc (h))

pub may_be_added : (ps : List Premise) (p : Premise) → add_cause ps p ≡ None → MayBeAdded ps p
may_be_added ps p none =
    let a = option_or-none (first_taken (words_known ps) (declared_by p)) (option_or (uses_cause ps (uses_of p)) (option_or (premises_cause ps) (points_cause (ps ++ p ∷ [])))) none in
    let b = option_or-none (uses_cause ps (uses_of p)) (option_or (premises_cause ps) (points_cause (ps ++ p ∷ []))) a.1 in
    let c = option_or-none (premises_cause ps) (points_cause (ps ++ p ∷ [])) b.1 in
    record { names = a.0; uses = b.0; few = few_premises ps c.0; room = few_points (ps ++ p ∷ []) c.1 }

-- the first use has no cause, nor have the others
pub uses_none : (ps : List Premise) (use_ : Use) (uses : List Use) → uses_cause ps (use_ ∷ uses) ≡ None → (use_cause ps use_ ≡ None) × (uses_cause ps uses ≡ None)
uses_none ps use_ uses none = by (use_cause ps use_) refl none
  where
    by : (o : Option Cause) → use_cause ps use_ ≡ o → elim o as (λ _. Option Cause) [ Some cause ↦ Some cause | None ↦ uses_cause ps uses ] ≡ None → (use_cause ps use_ ≡ None) × (uses_cause ps uses ≡ None)
    by (Some cause) e h = absurd (cc (h))
    by None e h = (e, h)

pub each_use : (ps : List Premise) (uses : List Use) → uses_cause ps uses ≡ None → (use_ : Use) → In use_ uses → use_cause ps use_ ≡ None
each_use ps [] none use_ at = absurd at
each_use ps (first ∷ uses) none use_ (inl is) = subst (λ u. use_cause ps u ≡ None) is (uses_none ps first uses none).0
each_use ps (first ∷ uses) none use_ (inr at) = each_use ps uses (uses_none ps first uses none).1 use_ at

-- ---- constraints of a premise

-- both points of each constraint are among these
abbrev pub AreAt : List PointName → List WalkStep → Type 0
AreAt points steps = All (λ s. Contains points s.from × Contains points s.to) steps

none_at : (points : List PointName) → AreAt points []
none_at points k d lt = absurd (omega arith)

AreAt-cons : (points : List PointName) (s : WalkStep) (steps : List WalkStep) → Contains points s.from → Contains points s.to → AreAt points steps → AreAt points (s ∷ steps)
AreAt-cons points s steps from to rest =
    All-from_contains (λ t. Contains points t.from × Contains points t.to) (s ∷ steps)
    (λ t m. elim (Contains-cons_cases s steps t m) [
      | inl later ↦ All-contains (λ u. Contains points u.from × Contains points u.to) steps t rest later
      | inr is ↦ subst (λ (u : WalkStep). Contains points u.from × Contains points u.to) (sym is) (from, to)
    ])

base_at : (points : List PointName) (name : List ℕ) → Contains points (Begin name) → Contains points Start → AreAt points (base_step name ∷ [])
base_at points name begin start = AreAt-cons points (base_step name) [] begin start (none_at points)

abbrev hi_step : List ℕ → PointName → PointName → ℤ → WalkStep
hi_step name from to hi = record { premise = name; side = Hi; from = from; to = to; weight = hi }

abbrev lo_step : List ℕ → PointName → PointName → ℤ → WalkStep
lo_step name from to lo = record { premise = name; side = Lo; from = to; to = from; weight = neg_ℤ lo }

dist_at : (points : List PointName) (name : List ℕ) (from to : PointName) (lo hi : Bound) → Contains points from → Contains points to → AreAt points (hi_steps name from to hi ++ lo_steps name from to lo)
dist_at points name from to (Finite lo) (Finite hi) at_from at_to =
    AreAt-cons points (hi_step name from to hi) (lo_step name from to lo ∷ []) at_from at_to (AreAt-cons points (lo_step name from to lo) [] at_to at_from (none_at points))
dist_at points name from to Free (Finite hi) at_from at_to = AreAt-cons points (hi_step name from to hi) [] at_from at_to (none_at points)
dist_at points name from to (Finite lo) Free at_from at_to = AreAt-cons points (lo_step name from to lo) [] at_to at_from (none_at points)
dist_at points name from to Free Free at_from at_to = none_at points

module _ (ps : List Premise) where
  start_in : (more : List PointName) → Contains (points_in ps ++ more) Start
  start_in more = Contains-append_left (points_in ps) more Start (Contains-cons_first Start (flat_map points_of ps))

  first_in : (q : PointName) (more : List PointName) → Contains (points_in ps ++ q ∷ more) q
  first_in q more = Contains-append_right (points_in ps) (q ∷ more) q (Contains-cons_first q more)

  -- **The constraints of a premise that may be added are between points that are there or its
  -- own.**
  pub steps_at : (p : Premise) → MayBeAdded ps p → AreAt (points_in ps ++ points_of p) (steps_of p)
  steps_at (Class name facts) may = none_at (points_in ps ++ [])
  steps_at (Kind name) may = none_at (points_in ps ++ [])
  steps_at (Point name) may = base_at (points_in ps ++ Begin name ∷ []) name (first_in (Begin name) []) (start_in (Begin name ∷ []))
  steps_at (Event name kind) may = base_at (points_in ps ++ Begin name ∷ []) name (first_in (Begin name) []) (start_in (Begin name ∷ []))
  steps_at (Token name fact) may = base_at (points_in ps ++ Begin name ∷ []) name (first_in (Begin name) []) (start_in (Begin name ∷ []))
  steps_at (Span name fact) may =
      let own : List PointName = Begin name ∷ End name ∷ [] in
      let end : Contains (points_in ps ++ own) (End name) = Contains-append_right (points_in ps) own (End name) (Contains-cons (Begin name) (End name ∷ []) (End name) (Contains-cons_first (End name) [])) in
      AreAt-cons (points_in ps ++ own) (base_step name) (length_step name ∷ []) (first_in (Begin name) (End name ∷ [])) (start_in own)
      (AreAt-cons (points_in ps ++ own) (length_step name) [] end (first_in (Begin name) (End name ∷ [])) (none_at (points_in ps ++ own)))
  steps_at (Dist name from to lo hi) may =
      let first = uses_none ps (a_place from) (a_place to ∷ []) may.uses in
      let second = uses_none ps (a_place to) [] first.1 in
      dist_at (points_in ps ++ []) name from to lo hi
      (Contains-append_left (points_in ps) [] from (place_known ps from first.0)) (Contains-append_left (points_in ps) [] to (place_known ps to second.0))
  steps_at (Rule name trigger lo hi effect given unless_facts) may = none_at (points_in ps ++ [])
  steps_at (Protect name fact from to) may = none_at (points_in ps ++ [])
  steps_at (Against name one other) may = none_at (points_in ps ++ [])

-- a premise that declares points has constraints from these alone, to others
abbrev pub StartAtOwn : Premise → Type 0
StartAtOwn p = All (λ s. Contains (points_of p) s.from × (s.to ≢ s.from)) (steps_of p)

base_own : (name : List ℕ) (points : List PointName) → Contains points (Begin name) → All (λ (s : WalkStep). Contains points s.from × (s.to ≢ s.from)) (base_step name ∷ [])
base_own name points own = All-from_contains (λ (s : WalkStep). Contains points s.from × (s.to ≢ s.from)) (base_step name ∷ [])
    (λ s m. elim (Contains-cons_cases (base_step name) [] s m) [
      | inl none ↦ absurd (omega (arith, none.1))
      | inr is ↦ subst (λ (t : WalkStep). Contains points t.from × (t.to ≢ t.from)) (sym is) (own, λ same. cc same)
    ])

span_own : (name : List ℕ) → All (λ (s : WalkStep). Contains (Begin name ∷ End name ∷ []) s.from × (s.to ≢ s.from)) (base_step name ∷ length_step name ∷ [])
span_own name = All-from_contains (λ (s : WalkStep). Contains (Begin name ∷ End name ∷ []) s.from × (s.to ≢ s.from)) (base_step name ∷ length_step name ∷ [])
    (λ s m. elim (Contains-cons_cases (base_step name) (length_step name ∷ []) s m) [
      | inl later ↦ elim (Contains-cons_cases (length_step name) [] s later) [
        | inl none ↦ absurd (omega (arith, none.1))
        | inr is ↦ subst (λ (t : WalkStep). Contains (Begin name ∷ End name ∷ []) t.from × (t.to ≢ t.from)) (sym is)
            (Contains-cons (Begin name) (End name ∷ []) (End name) (Contains-cons_first (End name) []), λ same. cc same)
      ]
      | inr is ↦ subst (λ (t : WalkStep). Contains (Begin name ∷ End name ∷ []) t.from × (t.to ≢ t.from)) (sym is) (Contains-cons_first (Begin name) (End name ∷ []), λ same. cc same)
    ])

-- **The constraints of a premise are from its own points, or it declares no point.**
pub own_or_none : (p : Premise) → StartAtOwn p ⊎ (points_of p ≡ [])
own_or_none (Class name facts) = inr refl
own_or_none (Kind name) = inr refl
own_or_none (Point name) = inl (base_own name (Begin name ∷ []) (Contains-cons_first (Begin name) []))
own_or_none (Event name kind) = inl (base_own name (Begin name ∷ []) (Contains-cons_first (Begin name) []))
own_or_none (Token name fact) = inl (base_own name (Begin name ∷ []) (Contains-cons_first (Begin name) []))
own_or_none (Span name fact) = inl (span_own name)
own_or_none (Dist name from to lo hi) = inr refl
own_or_none (Rule name trigger lo hi effect given unless_facts) = inr refl
own_or_none (Protect name fact from to) = inr refl
own_or_none (Against name one other) = inr refl
