-- A sound list: its distances are shortest, and its rules are sound.
use Rattle.std.proofs.Common.{◌≡◌, ℕ, ◌-◌, ◌≤◌, Bool, true, false, List, [], ◌∷◌, length, refl, sym, ap, subst, inl, arith}
use Rattle.std.proofs.lemmas.Int.{ints}
use Rattle.std.specs.Prelude.{Option, Some, None, ℤ, pos, ◌+ℤ◌, ◌≤ℤ◌}
use Rattle.std.specs.List.{Contains, filter_map, list_any}
use Rattle.std.proofs.lemmas.List.Elements.{All-contains}
use Rattle.tmm_model.specs.declared.bound.Bound.{Bound}
use Rattle.tmm_model.specs.declared.bound.Bound.TheVariants.{Finite, Free}
use Rattle.tmm_model.specs.declared.point.PointName.{PointName}
use Rattle.tmm_model.specs.declared.point.PointName.TheVariants.{Start, Begin}
use Rattle.tmm_model.specs.declared.premise.Premise.{Premise}
use Rattle.tmm_model.specs.declared.premise.Premise.TheVariants.{Class, Kind, Point, Event, Token, Span, Dist, Rule, Protect, Against}
use Rattle.tmm_model.specs.declared.token.Shape.{Shape}
use Rattle.tmm_model.specs.declared.token.Shape.TheVariants.{Event as AnEvent, Persistence as APersistence, Span as ASpan}
use Rattle.tmm_model.specs.Beliefs.{root_of, roots, is_of, on_kind, rules_on, rules_for, rules_at}
use Rattle.tmm_model.specs.Bounds.{IfFinite, bound_plus}
use Rattle.walk_theory.specs.LeastWalks.{AtMost, IsWalk, HasWalk, IsFar, IsFarWithin, AreAmong}
use Rattle.tmm_model.specs.Types.{IsTighter}
use Rattle.tmm_model.specs.Lines.{IsWellFormedPremise, IsRange}
use Rattle.tmm_model.specs.Moments.{Moment, At, as_rule, rule_of}
use Rattle.tmm_model.specs.Points.{same_name, same_point}
use Rattle.list_theory.specs.WellNamed.{IsSound}
use Rattle.belief_theory.specs.Right.{IsQuasiMetric, HasSoundRules}
use Rattle.tmm_model.specs.Standing.{Standing, name_of, points_in, base_step, arc_of, arcs_of, arcs_in, far_in, premise_in}
use Rattle.tmm_model.specs.Walks.{Arc, total, HasDates, far, far_within}
use Rattle.list_theory.proofs.Elements.{In, In-from_Contains, Contains-from_In, In-list_any, list_any-In, In-filter_map, flat_map-In}
use Rattle.list_theory.proofs.KnownNames.{found, finds, arcs_among}
use Rattle.walk_theory.proofs.Paths.{IsFar-far, closed_walks}
use Rattle.walk_theory.proofs.Points.{Decides-same_point}
use Rattle.walk_theory.proofs.Closing.{IsFar-triangle}
use Rattle.walk_theory.proofs.Removal.{leads_inside}
use Rattle.walk_theory.proofs.Within.{IsFarWithin-far_within}

-- ---- distances

-- the distance to a point that is not known is that over no constraint
IsFar-outside : {P : Type 0} (known : List P) (arcs : List (Arc P)) → AreAmong known arcs → (k : ℕ) (a b : P) → (Contains known b → ⊥) → (x : Bound) → IsFarWithin arcs k a b x → IsFar arcs a b x
IsFar-outside {P} known arcs among k a b out x w = record { reached = forget x w.reached; least = least }
  where
    forget : (x : Bound) → IfFinite x (λ s. (walk : List (Arc P)) × IsWalk arcs a b walk × (length walk ≤ k) × (total walk ≡ s)) → IfFinite x (HasWalk arcs a b)
    forget (Finite x) h = (h.0, h.1, h.3)
    forget Free h = tt

    least : (walk : List (Arc P)) → IsWalk arcs a b walk → AtMost x (total walk)
    least [] h = w.least [] h (omega arith)
    least (e ∷ walk) h = absurd (leads_inside (Contains known) arcs (λ x m. All-contains (λ y. Contains known y.from × Contains known y.to) arcs x among m) a b out e walk h)

-- the distances of a sound list are least over all walks, also to points that it does not declare
pub far_in-IsFar : (s : Standing) → IsSound s → (a b : PointName) → IsFar (arcs_in s.premises) a b (far_in s.premises a b)
unfolding far
far_in-IsFar s sound a b = by (list_any (same_point b) known) refl
  where
    known : List PointName
    known = points_in s.premises

    among : AreAmong (points_in s.premises) (arcs_in s.premises)
    among = arcs_among s.premises sound.well_named

    by : (t : Bool) → list_any (same_point b) (points_in s.premises) ≡ t → IsFar (arcs_in s.premises) a b (far same_point (arcs_in s.premises) (length (points_in s.premises)) a b)
    by true e =
        let (p, at, is) = list_any-In (same_point b) (points_in s.premises) e in
        let here = subst (Contains (points_in s.premises)) (sym ((Decides-same_point b p).0 is)) (Contains-from_In (points_in s.premises) p at) in
        IsFar-far same_point Decides-same_point Start (points_in s.premises) (length (points_in s.premises)) (omega arith) (arcs_in s.premises) among sound.dates a b here
    by false e =
        IsFar-outside (points_in s.premises) (arcs_in s.premises) among (length (points_in s.premises) - 1) a b
        (λ at. let t : list_any (same_point b) (points_in s.premises) ≡ true = In-list_any (same_point b) (points_in s.premises) b (In-from_Contains (points_in s.premises) b at) ((Decides-same_point b b).1 refl) in cc)
        (far_within same_point (arcs_in s.premises) (length (points_in s.premises) - 1) a b)
        (IsFarWithin-far_within same_point Decides-same_point (arcs_in s.premises) (length (points_in s.premises) - 1) a b)

module _ {P : Type 0} (start : P) (arcs : List (Arc P)) (dates : HasDates start arcs) where
  itself_zero : (a : P) (x : Bound) → IsFar arcs a a x → x ≡ Finite (pos 0)
  itself_zero a (Finite x) f =
      let r : HasWalk arcs a a x = f.reached in
      let low : pos 0 ≤ℤ total r.0 = closed_walks start arcs dates a r.0 r.1 in
      let most : x ≤ℤ pos 0 = f.least [] refl in
      ap Finite (omega (arith, ints, r.2))
  itself_zero a Free f = absurd (f.least [] refl)

triangle : {P : Type 0} (arcs : List (Arc P)) (a b c : P) (x y z : Bound) → IsFar arcs a b x → IsFar arcs b c y → IsFar arcs a c z → IsTighter z (bound_plus x y)
triangle arcs a b c Free y z f g h = tt
triangle arcs a b c (Finite x) Free z f g h = tt
triangle arcs a b c (Finite x) (Finite y) z f g h = tighter z (IsFar-triangle arcs a b c (Finite x) (Finite y) z x y f g h (omega (arith, ints)) (omega (arith, ints)))
  where
    tighter : (z : Bound) → AtMost z (x +ℤ y) → IsTighter z (Finite (x +ℤ y))
    tighter (Finite z) h = h
    tighter Free h = absurd h

-- a root's point is at 0 at the earliest
base_arc : (premises : List Premise) (p : PointName) → In (At p) (filter_map root_of premises) → Contains (arcs_in premises) (record { from = p; to = Start; weight = pos 0 })
base_arc premises p at =
    let (q, there, is) = In-filter_map root_of premises (At p) at in
    Contains-from_In (arcs_in premises) (record { from = p; to = Start; weight = pos 0 }) (flat_map-In arcs_of premises q (record { from = p; to = Start; weight = pos 0 }) there (first q is))
  where
    named : (name : List ℕ) → At (Begin name) ≡ At p → arc_of (base_step name) ≡ record { from = p; to = Start; weight = pos 0 }
    named name e = let same : Begin name ≡ p = cc in λ i. record { from = same i; to = Start; weight = pos 0 }

    first : (q : Premise) → root_of q ≡ Some (At p) → In (record { from = p; to = Start; weight = pos 0 }) (arcs_of q)
    first (Event name kind) e = inl (named name cc)
    first (Token name fact) e = inl (named name cc)
    first (Span name fact) e = inl (named name cc)
    first (Class name facts) e = cc
    first (Kind name) e = cc
    first (Point name) e = cc
    first (Dist name from to lo hi) e = cc
    first (Rule name trigger lo hi effect given unless_facts) e = cc
    first (Protect name fact from to) e = cc
    first (Against name one other) e = cc

at_most_zero : {P : Type 0} (arcs : List (Arc P)) (a b : P) (x : Bound) → IsFar arcs a b x → AtMost x (pos 0) → (d : ℤ) × (x ≡ Finite d) × (d ≤ℤ pos 0)
at_most_zero arcs a b (Finite x) f h = (x, refl, h)
at_most_zero arcs a b Free f h = absurd h

pub shortest : (s : Standing) → IsSound s → IsQuasiMetric s (far_in s.premises)
shortest s sound = record {
  itself = λ p. itself_zero Start (arcs_in s.premises) sound.dates p (far_in s.premises p p) (far_in-IsFar s sound p p);
  triangle = λ p q r. triangle (arcs_in s.premises) p q r (far_in s.premises p q) (far_in s.premises q r) (far_in s.premises p r) (far_in-IsFar s sound p q) (far_in-IsFar s sound q r) (far_in-IsFar s sound p r);
  from_root = λ p at.
      (let f = far_in-IsFar s sound p Start in
      at_most_zero (arcs_in s.premises) p Start (far_in s.premises p Start) f
      (f.least (record { from = p; to = Start; weight = pos 0 } ∷ []) (base_arc s.premises p (In-from_Contains (roots s) (At p) at), refl, refl)));
}

-- ---- rules

ranged : (lo : ℤ) (hi : Bound) → IsRange (Finite lo) hi → IsTighter (Finite lo) hi
ranged lo (Finite hi) h = h
ranged lo Free h = tt

sound_rule : (p : Premise) → IsWellFormedPremise p → IsTighter (Finite (as_rule (Some p)).lo) (as_rule (Some p)).hi
sound_rule (Rule name trigger lo hi effect given unless_facts) h = ranged lo hi h.5
sound_rule (Class name facts) h = omega (arith, ints)
sound_rule (Kind name) h = omega (arith, ints)
sound_rule (Point name) h = omega (arith, ints)
sound_rule (Event name kind) h = omega (arith, ints)
sound_rule (Token name fact) h = omega (arith, ints)
sound_rule (Span name fact) h = omega (arith, ints)
sound_rule (Dist name from to lo hi) h = omega (arith, ints)
sound_rule (Protect name fact from to) h = omega (arith, ints)
sound_rule (Against name one other) h = omega (arith, ints)

-- the rule on a kind is known by its name
pub named_rule : (kind : List ℕ) (p : Premise) (r : List ℕ) → on_kind kind p ≡ Some r → name_of p ≡ r
named_rule kind (Rule name trigger lo hi effect given unless_facts) r e = which (same_name trigger kind) e
  where
    which : (b : Bool) → elim b as (λ _. Option (List ℕ)) [ true ↦ Some name | false ↦ None ] ≡ Some r → name ≡ r
    which true e = cc
    which false e = cc
named_rule kind (Class name facts) r e = cc
named_rule kind (Kind name) r e = cc
named_rule kind (Point name) r e = cc
named_rule kind (Event name other) r e = cc
named_rule kind (Token name fact) r e = cc
named_rule kind (Span name fact) r e = cc
named_rule kind (Dist name from to lo hi) r e = cc
named_rule kind (Protect name fact from to) r e = cc
named_rule kind (Against name one other) r e = cc

-- a rule that stands at a moment is the one found under its name
pub rule_stands : (s : Standing) (t : Moment) (r : List ℕ) → Contains (rules_at s t) r → (p : Premise) × In p s.premises × (name_of p ≡ r) × (kind : List ℕ) × (on_kind kind p ≡ Some r)
rule_stands s t r at = by (is_of s t) at
  where
    on : (kind : List ℕ) → Contains (rules_on s kind) r → (p : Premise) × In p s.premises × (name_of p ≡ r) × (kind : List ℕ) × (on_kind kind p ≡ Some r)
    on kind at =
        let (p, there, is) = In-filter_map (on_kind kind) s.premises r (In-from_Contains (rules_on s kind) r at) in
        (p, there, named_rule kind p r is, kind, is)

    by : (o : Option (Shape × List ℕ)) → Contains (rules_for s o) r → (p : Premise) × In p s.premises × (name_of p ≡ r) × (kind : List ℕ) × (on_kind kind p ≡ Some r)
    by (Some (AnEvent, kind)) at = on kind at
    by (Some (APersistence, f)) at = absurd (In-from_Contains [] r at)
    by (Some (ASpan, f)) at = absurd (In-from_Contains [] r at)
    by None at = absurd (In-from_Contains [] r at)

delays : (p : Premise) → IsWellFormedPremise p → (kind r : List ℕ) → on_kind kind p ≡ Some r → pos 1 ≤ℤ (as_rule (Some p)).lo
delays (Rule name trigger lo hi effect given unless_facts) h kind r e = h.4
delays (Class name facts) h kind r e = cc
delays (Kind name) h kind r e = cc
delays (Point name) h kind r e = cc
delays (Event name kind_) h kind r e = cc
delays (Token name fact) h kind r e = cc
delays (Span name fact) h kind r e = cc
delays (Dist name from to lo hi) h kind r e = cc
delays (Protect name fact from to) h kind r e = cc
delays (Against name one other) h kind r e = cc

pub sound_rules : (s : Standing) → IsSound s → HasSoundRules s
sound_rules s sound = record { sound = each; delayed = delayed }
  where
    each : (r : List ℕ) → IsTighter (Finite (rule_of s r).lo) (rule_of s r).hi
    each r = by (premise_in s.premises r) refl
      where
        by : (o : Option Premise) → premise_in s.premises r ≡ o → IsTighter (Finite (as_rule o).lo) (as_rule o).hi
        by None e = omega (arith, ints)
        by (Some p) e = sound_rule p (All-contains IsWellFormedPremise s.premises p sound.well_formed (Contains-from_In s.premises p (finds s.premises r p e).0))

    delayed : (t : Moment) (r : List ℕ) → Contains (rules_at s t) r → pos 1 ≤ℤ (rule_of s r).lo
    delayed t r at =
        let (p, there, named, kind, is) = rule_stands s t r at in
        let here : premise_in s.premises r ≡ Some p = subst (λ n. premise_in s.premises n ≡ Some p) named (found s.premises sound.well_named p there) in
        subst (λ o. pos 1 ≤ℤ (as_rule o).lo) (sym here) (delays p (All-contains IsWellFormedPremise s.premises p sound.well_formed (Contains-from_In s.premises p there)) kind r is)
