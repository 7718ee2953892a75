-- An edit against which no cause stands among names and counts leaves dates, or its premise closes
-- a cycle that a refusal can show.
use Rattle.std.proofs.Common.{◌≡◌, ◌≢◌, ◌∙◌, ◌⊎◌, inl, inr, List, [], ◌∷◌, ◌++◌, ℕ, map, ℤ, pos, negsuc, neg_ℤ, ◌+ℤ◌, ◌≤ℤ◌, None, refl, sym, ap, subst, arith, append_assoc}
use Rattle.std.specs.List.{Contains}
use Rattle.std.proofs.lemmas.Int.{ints}
use Rattle.std.proofs.lemmas.List.{append-nil}
use Rattle.std.proofs.lemmas.List.Elements.{All-contains}
use Rattle.tmm_model.specs.declared.bound.Bound.{Bound}
use Rattle.tmm_model.specs.declared.bound.Bound.TheVariants.{Finite, Free}
use Rattle.tmm_model.specs.declared.point.PointName.{PointName}
use Rattle.tmm_model.specs.declared.point.PointName.TheVariants.{Start, Begin, End}
use Rattle.tmm_model.specs.declared.premise.Edit.{Edit}
use Rattle.tmm_model.specs.declared.premise.Edit.TheVariants.{Add, Erase, Horizon, Upgrade}
use Rattle.tmm_model.specs.declared.premise.Premise.{Premise}
use Rattle.tmm_model.specs.declared.premise.Premise.TheVariants.{Class, Kind, Point, Event, Token, Span, Dist, Rule, Protect, Against}
use Rattle.tmm_model.specs.declared.walk.Side.TheVariants.{Hi, Lo}
use Rattle.tmm_model.specs.declared.walk.WalkStep.{WalkStep}
use Rattle.tmm_model.specs.Bounds.{after, lesser}
use Rattle.tmm_model.specs.Cycles.{IsCycleOf}
use Rattle.tmm_model.specs.Edits.{next_list}
use Rattle.tmm_model.specs.Erasure.{kept_without}
use Rattle.tmm_model.specs.Lines.{IsWellFormedEdit, IsWellFormedPremise, IsRange}
use Rattle.tmm_model.specs.Standing.{Standing, IsConsistent, base_step, length_step, points_of, points_in, steps_of, arc_of, arcs_of, arcs_in, far_in}
use Rattle.tmm_model.specs.Transcript.{IsCyclic}
use Rattle.tmm_model.specs.Types.{through}
use Rattle.tmm_model.specs.Verdicts.{list_cause}
use Rattle.tmm_model.specs.Walks.{Arc, HasDates}
use Rattle.walk_theory.specs.LeastWalks.{AtMost, ClosesNoNegativeCycle, IsFar, closed}
use Rattle.walk_theory.proofs.Bounds.{Fits-or_not, Fits-lesser, Fits-back}
use Rattle.walk_theory.proofs.Closing.{IsFar-closed}
use Rattle.walk_theory.proofs.Dates.{HasDates-closed}
use Rattle.walk_theory.proofs.Members.{Contains-cons, Contains-cons_first, Adds-push}
use Rattle.walk_theory.proofs.Removal.{HasDates-fewer, Free-to_outside}
use Rattle.walk_theory.proofs.Sizes.{Fits-round}
use Rattle.list_theory.specs.WellNamed.{IsSound}
use Rattle.list_theory.proofs.Adding.{MayBeAdded, may_be_added}
use Rattle.list_theory.proofs.Cycles.{Contains-flat_map, Contains-flat_map_from, IsNegativeCycle-from_cycle, no_dates_from_cycle}
use Rattle.list_theory.proofs.Elements.{In-from_Contains, Contains-from_In}
use Rattle.list_theory.proofs.Erasure.{kept_before}
use Rattle.list_theory.proofs.KnownNames.{arcs_among}
use Rattle.list_theory.proofs.Places.{arcs_in-push, points_new}
use Rattle.belief_theory.proofs.Sound.{far_in-IsFar}
use Rattle.tmm_laws.proofs.ShownWalks.{HasPath, has_path}

-- a cycle that refuses the premise
abbrev pub HasCycle : List Premise → Premise → Type 0
HasCycle premises p = (sum : ℤ) × (steps : List WalkStep) × IsCycleOf premises p sum steps

through_free : (x : Bound) (w : ℤ) → through x w Free ≡ Free
through_free (Finite x) w = refl
through_free Free w = refl

module _ (s : Standing) (sound : IsSound s) where
  abbrev way : PointName → PointName → Bound
  way = far_in s.premises

  far_is : (a b : PointName) → IsFar (arcs_in s.premises) a b (way a b)
  far_is = far_in-IsFar s sound

  -- a step of the premise closes no cycle, or one that refuses the premise
  fits_or_cycle : (p : Premise) (e : WalkStep) → Contains (steps_of p) e → ClosesNoNegativeCycle e.weight (way e.to e.from) ⊎ HasCycle s.premises p
  fits_or_cycle p e own = elim (Fits-or_not e.weight (way e.to e.from)) [ inl fits ↦ inl fits | inr low ↦ inr (by (way e.to e.from) refl low) ]
    where
      by : (x : Bound) → way e.to e.from ≡ x → AtMost (after e.weight x) (negsuc 0) → HasCycle s.premises p
      by (Finite x) is low =
          let back : HasPath s.premises e.to e.from x = has_path s sound e.to e.from x is in (
            e.weight +ℤ x,
            e ∷ back.steps,
            record {
              first = e;
              own = own;
              cycle = record { rest = back.steps; are = refl; back = back.path; sums = ap (λ (z : ℤ). e.weight +ℤ z) back.sums };
              tightest = ap (after e.weight) is;
              negative = omega (arith, ints, low);
            },
          )
      by Free is low = absurd low

  -- one step more, where it fits
  dates_with : (e : WalkStep) → ClosesNoNegativeCycle e.weight (way e.to e.from) → HasDates Start (arcs_in s.premises ++ arc_of e ∷ [])
  dates_with e fits =
      let old = arcs_in s.premises in
      let new = old ++ arc_of e ∷ [] in
      HasDates-closed Start old new (arc_of e) (Adds-push old (arc_of e)) (λ _. Unit {0}) (λ _ _. (tt, tt)) way (λ a b _ _. far_is a b) fits sound.dates.0 sound.dates.1

  -- and another one, where it fits the distances that the first closes
  dates_with_two : (e f : WalkStep) → ClosesNoNegativeCycle e.weight (way e.to e.from) → ClosesNoNegativeCycle f.weight (closed way (arc_of e) f.to f.from)
      → HasDates Start (arcs_in s.premises ++ arc_of e ∷ arc_of f ∷ [])
  dates_with_two e f fits fits_then =
      let old = arcs_in s.premises in
      let mid = old ++ arc_of e ∷ [] in
      let dates = dates_with e fits in
      let far : (a b : PointName) → IsFar mid a b (closed way (arc_of e) a b) =
      λ a b. IsFar-closed old mid (arc_of e) (Adds-push old (arc_of e)) (λ _. Unit {0}) (λ _ _. (tt, tt)) way (λ a b _ _. far_is a b) fits a b tt tt in
      subst (HasDates Start) (append_assoc old (arc_of e ∷ []) (arc_of f ∷ []))
      (HasDates-closed Start mid (mid ++ arc_of f ∷ []) (arc_of f) (Adds-push mid (arc_of f)) (λ _. Unit {0}) (λ _ _. (tt, tt)) (closed way (arc_of e)) (λ a b _ _. far a b) fits_then dates.0 dates.1)

  abbrev Settled : Premise → Type 0
  Settled p = IsConsistent (s.premises ++ p ∷ []) ⊎ HasCycle s.premises p

  with_arcs : (p : Premise) → HasDates Start (arcs_in s.premises ++ arcs_of p) → IsConsistent (s.premises ++ p ∷ [])
  with_arcs p dates = subst (HasDates Start) (sym (arcs_in-push s.premises p)) dates

  -- a premise without a constraint
  none : (p : Premise) → arcs_of p ≡ [] → Settled p
  none p is = inl (with_arcs p (subst (λ (l : List (Arc PointName)). HasDates Start (arcs_in s.premises ++ l)) (sym is) (subst (HasDates Start) (sym (append-nil (arcs_in s.premises))) sound.dates)))

  -- with one
  one : (p : Premise) (e : WalkStep) → steps_of p ≡ e ∷ [] → Settled p
  one p e is =
      let own : Contains (steps_of p) e = subst (λ (l : List WalkStep). Contains l e) (sym is) (Contains-cons_first e []) in
      elim (fits_or_cycle p e own) [
        | inl fits ↦ inl (with_arcs p (subst (λ (l : List WalkStep). HasDates Start (arcs_in s.premises ++ map arc_of l)) (sym is) (dates_with e fits)))
        | inr cycle ↦ inr cycle
      ]

  -- a new point is nobody's
  to_new : (p : Premise) → MayBeAdded s.premises p → (a b : PointName) → Contains (points_of p) b → a ≢ b → way a b ≡ Free
  to_new p may a b mine other =
      Free-to_outside (Contains (points_in s.premises)) (arcs_in s.premises)
      (λ e m. All-contains (λ x. Contains (points_in s.premises) x.from × Contains (points_in s.premises) x.to) (arcs_in s.premises) e (arcs_among s.premises sound.well_named) m)
      a b (points_new s.premises p may.names b mine) other (way a b) (far_is a b)

  span : (name fact : List ℕ) → MayBeAdded s.premises (Span name fact) → Settled (Span name fact)
  span name fact may =
      let p = Span name fact in
      let e = base_step name in
      let f = length_step name in
      let mine : Contains (points_of p) (End name) = Contains-cons (Begin name) (End name ∷ []) (End name) (Contains-cons_first (End name) []) in
      let at_begin : way (Begin name) (End name) ≡ Free = to_new p may (Begin name) (End name) mine (λ same. cc) in
      let at_start : way Start (End name) ≡ Free = to_new p may Start (End name) mine (λ same. cc) in
      let far : closed way (arc_of e) (Begin name) (End name) ≡ Free =
      (λ i. lesser (at_begin i) (through (way (Begin name) (Begin name)) (pos 0) (at_start i)))
      ∙ through_free (way (Begin name) (Begin name)) (pos 0) in
      elim (fits_or_cycle p e (Contains-cons_first e (f ∷ []))) [
        | inl fits ↦ inl (with_arcs p (dates_with_two e f fits (subst (ClosesNoNegativeCycle (negsuc 0)) (sym far) tt)))
        | inr cycle ↦ inr cycle
      ]

  -- both bounds of a distance
  module _ (name : List ℕ) (from to : PointName) (lo hi : ℤ) (range : lo ≤ℤ hi) where
    abbrev upper : WalkStep
    upper = record { premise = name; side = Hi; from = from; to = to; weight = hi }

    abbrev lower : WalkStep
    lower = record { premise = name; side = Lo; from = to; to = from; weight = neg_ℤ lo }

    abbrev both_bounds : Premise
    both_bounds = Dist name from to (Finite lo) (Finite hi)

    at_rest : (a : PointName) → ClosesNoNegativeCycle (pos 0) (way a a)
    at_rest a = Fits-round Start (arcs_in s.premises) sound.dates a (way a a) (far_is a a)

    two_bounds : Settled both_bounds
    two_bounds =
        elim (fits_or_cycle both_bounds upper (Contains-cons_first upper (lower ∷ []))) [
          | inr cycle ↦ inr cycle
          | inl fits ↦ elim (fits_or_cycle both_bounds lower (Contains-cons upper (lower ∷ []) lower (Contains-cons_first lower []))) [
            | inr cycle ↦ inr cycle
            | inl fits_then ↦ inl (with_arcs both_bounds (dates_with_two upper lower fits
                (Fits-lesser (neg_ℤ lo) (way from to) (through (way from from) hi (way to to)) fits_then
                (Fits-back (neg_ℤ lo) hi (way from from) (way to to) (omega (arith, ints)) (at_rest from) (at_rest to)))))
          ]
        ]

  dist : (name : List ℕ) (from to : PointName) (lo hi : Bound) → IsRange lo hi → Settled (Dist name from to lo hi)
  dist name from to (Finite lo) (Finite hi) range = two_bounds name from to lo hi range
  dist name from to (Finite lo) Free range = one (Dist name from to (Finite lo) Free) (record { premise = name; side = Lo; from = to; to = from; weight = neg_ℤ lo }) refl
  dist name from to Free (Finite hi) range = one (Dist name from to Free (Finite hi)) (record { premise = name; side = Hi; from = from; to = to; weight = hi }) refl
  dist name from to Free Free range = absurd range

  -- **A premise leaves dates or closes a cycle.**
  pub settled : (p : Premise) → IsWellFormedPremise p → MayBeAdded s.premises p → Settled p
  settled (Class name facts) formed may = none (Class name facts) refl
  settled (Kind name) formed may = none (Kind name) refl
  settled (Point name) formed may = one (Point name) (base_step name) refl
  settled (Event name kind) formed may = one (Event name kind) (base_step name) refl
  settled (Token name fact) formed may = one (Token name fact) (base_step name) refl
  settled (Span name fact) formed may = span name fact may
  settled (Dist name from to lo hi) formed may = dist name from to lo hi formed.5
  settled (Rule name trigger lo hi effect given unless_facts) formed may = none (Rule name trigger lo hi effect given unless_facts) refl
  settled (Protect name fact from to) formed may = none (Protect name fact from to) refl
  settled (Against name one other) formed may = none (Against name one other) refl

-- what an erasure keeps has dates
kept_dates : (s : Standing) → IsSound s → (name : List ℕ) → IsConsistent (kept_without name s.premises)
kept_dates s sound name =
    HasDates-fewer Start (arcs_in s.premises) (arcs_in (kept_without name s.premises))
    (λ x m. (let (p, there, here) = Contains-flat_map_from arcs_of (kept_without name s.premises) x m in
    Contains-flat_map arcs_of s.premises p x (Contains-from_In s.premises p (kept_before name [] s.premises p (In-from_Contains (kept_without name s.premises) p there))) here))
    sound.dates

-- **An edit leaves dates, or is refused for a cycle.**
pub dates_or_cycle : (s : Standing) → IsSound s → (edit : Edit) → IsWellFormedEdit edit → list_cause s edit ≡ None
    → IsConsistent (next_list s edit).premises ⊎ ((sum : ℤ) × (steps : List WalkStep) × IsCyclic s edit sum steps)
dates_or_cycle s sound (Add p) formed no_cause =
    elim (settled s sound p formed (may_be_added s.premises p no_cause)) [
      | inl dates ↦ inl dates
      | inr cycle ↦ inr (
        cycle.0,
        cycle.1,
        record {
          no_cause = no_cause;
          no_dates = no_dates_from_cycle s.premises p cycle.1 (IsNegativeCycle-from_cycle s.premises p cycle.0 cycle.1 cycle.2);
          cycle = cycle.2;
        },
      )
    ]
dates_or_cycle s sound (Erase name) formed no_cause = inl (kept_dates s sound name)
dates_or_cycle s sound (Horizon n) formed no_cause = inl sound.dates
dates_or_cycle s sound Upgrade formed no_cause = inl sound.dates
