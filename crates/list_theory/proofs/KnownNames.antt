-- What a well-named list finds under a name, and which points its constraints are between.
use Rattle.std.proofs.Common.{◌≡◌, ℕ, Bool, true, false, List, [], ◌∷◌, ◌++◌, refl, sym, ◌∙◌, ap, subst, inl, inr, append_assoc, cond}
use Rattle.std.specs.Prelude.{Some, None}
use Rattle.std.specs.List.{flat_map, list_any, Contains}
use Rattle.std.specs.Cmp.Lexicographic.{bytes_decides}
use Rattle.tmm_model.specs.declared.bound.Bound.{Bound}
use Rattle.tmm_model.specs.declared.bound.Bound.TheVariants.{Finite, Free}
use Rattle.tmm_model.specs.declared.point.PointName.{PointName}
use Rattle.tmm_model.specs.declared.point.PointName.TheVariants.{Begin, End}
use Rattle.tmm_model.specs.declared.premise.Premise.{Premise}
use Rattle.tmm_model.specs.declared.premise.Premise.TheVariants.{Class, Kind, Point, Event, Token, Span, Dist, Rule, Protect, Against}
use Rattle.tmm_model.specs.declared.walk.WalkStep.{WalkStep}
use Rattle.tmm_model.specs.Points.{same_name}
use Rattle.tmm_model.specs.Sorts.{declarations_of, declarations_in, declared_by, a_place}
use Rattle.tmm_model.specs.Standing.{name_of, points_of, points_in, base_step, length_step, steps_of, hi_steps, lo_steps, arc_of, arcs_of, arcs_in, premise_in}
use Rattle.tmm_model.specs.Verdicts.{first_taken, place_cause, words_known}
use Rattle.tmm_model.specs.Walks.{Arc}
use Rattle.walk_theory.specs.LeastWalks.{AreAmong}
use Rattle.list_theory.specs.WellNamed.{Follows, AllFollow, IsWellNamed}
use Rattle.list_theory.proofs.Adding.{uses_none}
use Rattle.list_theory.proofs.Elements.{In, In-list_any, In-left, In-right, In-cases, In-flat_map, flat_map-In, In-map, map-In, Contains-from_In, In-from_Contains}
use Rattle.walk_theory.proofs.Members.{All-from_contains}
use Rattle.list_theory.proofs.Places.{place_known, first_declared}
use Rattle.walk_theory.proofs.Points.{same_name-self}
use Rattle.list_theory.proofs.WellNamed.{first_taken-none}

-- ---- names

-- a premise declares its own name
own_name : (p : Premise) → In (name_of p) (declared_by p)
own_name (Class name facts) = inl refl
own_name (Kind name) = inl refl
own_name (Point name) = inl refl
own_name (Event name kind) = inl refl
own_name (Token name fact) = inl refl
own_name (Span name fact) = inl refl
own_name (Dist name from to lo hi) = inl refl
own_name (Rule name trigger lo hi effect given unless_facts) = inl refl
own_name (Protect name fact from to) = inl refl
own_name (Against name one other) = inl refl

-- the own name of a premise that follows was not known
pub own_new : (earlier : List Premise) (p : Premise) → Follows earlier p → list_any (same_name (name_of p)) (words_known earlier) ≡ false
own_new earlier p f =
    let (ws, e) = first_declared p in
    (first_taken-none (words_known earlier) (name_of p) ws (subst (λ l. first_taken (words_known earlier) l ≡ None) e f.new)).new

-- so no premise before has it
pub fresh : (earlier premises : List Premise) → AllFollow earlier premises → (p : Premise) → In p premises → (q : Premise) → In q earlier → same_name (name_of p) (name_of q) ≡ true → ⊥
fresh earlier [] h p at q before e = absurd at
fresh earlier (o ∷ premises) h p (inl is) q before e =
    let unknown : list_any (same_name (name_of p)) (words_known earlier) ≡ false = subst (λ z. list_any (same_name (name_of z)) (words_known earlier) ≡ false) is (own_new earlier o h.0) in
    let known : In (name_of q) (words_known earlier) = known_name earlier q before in
    let t : list_any (same_name (name_of p)) (words_known earlier) ≡ true = In-list_any (same_name (name_of p)) (words_known earlier) (name_of q) known e in
    cc
  where
    known_name : (earlier : List Premise) (q : Premise) → In q earlier → In (name_of q) (words_known earlier)
    known_name earlier q at =
        let (d, there, is) = In-map (λ d. d.0) (declarations_of q) (name_of q) (own_name q) in
        subst (λ n. In n (words_known earlier)) is (map-In (λ d. d.0) (declarations_in earlier) d (flat_map-In declarations_of earlier q d at there))
fresh earlier (o ∷ premises) h p (inr at) q before e = fresh (earlier ++ o ∷ []) premises h.1 p at q (In-left earlier (o ∷ []) q before) e

-- **A premise of a well-named list is the one found under its name.**
found_after : (earlier premises : List Premise) → AllFollow earlier premises → (p : Premise) → In p premises → premise_in premises (name_of p) ≡ Some p
found_after earlier [] h p at = absurd at
found_after earlier (o ∷ premises) h p (inl is) = by (same_name (name_of p) (name_of o)) (ap (same_name (name_of p)) (ap name_of is) ∙ same_name-self (name_of p))
  where
    by : (b : Bool) → b ≡ true → cond b (Some o) (premise_in premises (name_of p)) ≡ Some p
    by true e = ap Some is
    by false e = cc
found_after earlier (o ∷ premises) h p (inr at) = by (found_after (earlier ++ o ∷ []) premises h.1 p at) (same_name (name_of p) (name_of o)) refl
  where
    by : premise_in premises (name_of p) ≡ Some p → (b : Bool) → same_name (name_of p) (name_of o) ≡ b → cond b (Some o) (premise_in premises (name_of p)) ≡ Some p
    by rest true e = absurd (fresh (earlier ++ o ∷ []) premises h.1 p at o (In-right earlier (o ∷ []) o (inl refl)) e)
    by rest false e = rest

pub found : (premises : List Premise) → IsWellNamed premises → (p : Premise) → In p premises → premise_in premises (name_of p) ≡ Some p
found premises h = found_after [] premises h

-- what is found is a member of that name
pub finds : (premises : List Premise) (name : List ℕ) (p : Premise) → premise_in premises name ≡ Some p → In p premises × (name_of p ≡ name)
finds [] name p e = cc
finds (o ∷ premises) name p e = by (finds premises name p) (same_name name (name_of o)) refl e
  where
    by : (premise_in premises name ≡ Some p → In p premises × (name_of p ≡ name)) → (b : Bool) → same_name name (name_of o) ≡ b → cond b (Some o) (premise_in premises name) ≡ Some p → In p (o ∷ premises) × (name_of p ≡ name)
    by rest true is e = let same : o ≡ p = cc in (inl same, ap name_of (sym same) ∙ sym ((bytes_decides name (name_of o)).0 is))
    by rest false is e = let (at, named) = rest e in (inr at, named)

-- ---- constraints

-- both points of a constraint of a premise that follows are declared by it or before it
sides_known : (known : List PointName) (name : List ℕ) (from to : PointName) (lo hi : Bound) → In from known → In to known → (e : WalkStep) → In e (hi_steps name from to hi ++ lo_steps name from to lo) → In e.from known × In e.to known
sides_known known name from to lo hi f t e at = elim (In-cases (hi_steps name from to hi) (lo_steps name from to lo) e at) [ inl h ↦ upper hi h | inr l ↦ lower lo l ]
  where
    upper : (hi : Bound) → In e (hi_steps name from to hi) → In e.from known × In e.to known
    upper Free h = absurd h
    upper (Finite x) (inl is) = (subst (λ z. In z known) (ap (λ s. s.from) is) f, subst (λ z. In z known) (ap (λ s. s.to) is) t)
    upper (Finite x) (inr h) = absurd h

    lower : (lo : Bound) → In e (lo_steps name from to lo) → In e.from known × In e.to known
    lower Free h = absurd h
    lower (Finite x) (inl is) = (subst (λ z. In z known) (ap (λ s. s.from) is) t, subst (λ z. In z known) (ap (λ s. s.to) is) f)
    lower (Finite x) (inr h) = absurd h

known_place : (premises : List Premise) (p : PointName) → place_cause premises p ≡ None → In p (points_in premises)
known_place premises p e = In-from_Contains (points_in premises) p (place_known premises p e)

points_more : (xs ys : List Premise) (q : PointName) → In q (points_in xs) → In q (points_in (xs ++ ys))
points_more xs ys q (inl is) = inl is
points_more xs ys q (inr at) = let (p, there, here) = In-flat_map points_of xs q at in inr (flat_map-In points_of (xs ++ ys) p q (In-left xs ys p there) here)

points_own : (xs : List Premise) (p : Premise) (q : PointName) → In q (points_of p) → In q (points_in (xs ++ p ∷ []))
points_own xs p q at = inr (flat_map-In points_of (xs ++ p ∷ []) p q (In-right xs (p ∷ []) p (inl refl)) at)

abbrev AreKnown : List Premise → WalkStep → Type 0
AreKnown premises e = In e.from (points_in premises) × In e.to (points_in premises)

base_known : (xs : List Premise) (p : Premise) (name : List ℕ) → In (Begin name) (points_of p) → (e : WalkStep) → In e (base_step name ∷ []) → AreKnown (xs ++ p ∷ []) e
base_known xs p name at e (inl is) =
    (subst (λ z. In z (points_in (xs ++ p ∷ []))) (ap (λ s. s.from) is) (points_own xs p (Begin name) at), subst (λ z. In z (points_in (xs ++ p ∷ []))) (ap (λ s. s.to) is) (inl refl))
base_known xs p name at e (inr n) = absurd n

length_known : (xs : List Premise) (name fact : List ℕ) (e : WalkStep) → In e (length_step name ∷ []) → AreKnown (xs ++ Span name fact ∷ []) e
length_known xs name fact e (inl is) = (
  subst (λ z. In z (points_in (xs ++ Span name fact ∷ []))) (ap (λ s. s.from) is) (points_own xs (Span name fact) (End name) (inr (inl refl))),
  subst (λ z. In z (points_in (xs ++ Span name fact ∷ []))) (ap (λ s. s.to) is) (points_own xs (Span name fact) (Begin name) (inl refl)),
)
length_known xs name fact e (inr n) = absurd n

steps_known : (earlier : List Premise) (p : Premise) → Follows earlier p → (e : WalkStep) → In e (steps_of p) → AreKnown (earlier ++ p ∷ []) e
steps_known earlier (Class name facts) f e at = absurd at
steps_known earlier (Kind name) f e at = absurd at
steps_known earlier (Point name) f e at = base_known earlier (Point name) name (inl refl) e at
steps_known earlier (Event name kind) f e at = base_known earlier (Event name kind) name (inl refl) e at
steps_known earlier (Token name fact) f e at = base_known earlier (Token name fact) name (inl refl) e at
steps_known earlier (Span name fact) f e (inl is) = base_known earlier (Span name fact) name (inl refl) e (inl is)
steps_known earlier (Span name fact) f e (inr at) = length_known earlier name fact e at
steps_known earlier (Dist name from to lo hi) f e at =
    let one = uses_none earlier (a_place from) (a_place to ∷ []) f.known in
    let two = uses_none earlier (a_place to) [] one.1 in
    sides_known (points_in (earlier ++ Dist name from to lo hi ∷ [])) name from to lo hi
    (points_more earlier (Dist name from to lo hi ∷ []) from (known_place earlier from one.0))
    (points_more earlier (Dist name from to lo hi ∷ []) to (known_place earlier to two.0))
    e at
steps_known earlier (Rule name trigger lo hi effect given unless_facts) f e at = absurd at
steps_known earlier (Protect name fact from to) f e at = absurd at
steps_known earlier (Against name one other) f e at = absurd at

arcs_after : (earlier premises : List Premise) → AllFollow earlier premises → (e : Arc PointName) → In e (flat_map arcs_of premises) → In e.from (points_in (earlier ++ premises)) × In e.to (points_in (earlier ++ premises))
arcs_after earlier [] h e at = absurd at
arcs_after earlier (p ∷ premises) h e at =
    let same : (earlier ++ p ∷ []) ++ premises ≡ earlier ++ p ∷ premises = append_assoc earlier (p ∷ []) premises in
    elim (In-cases (arcs_of p) (flat_map arcs_of premises) e at) [
      | inl own ↦
          let (step, there, is) = In-map arc_of (steps_of p) e own in
          let known = steps_known earlier p h.0 step there in
          subst (λ ps. In e.from (points_in ps) × In e.to (points_in ps)) same (
            subst (λ z. In z (points_in ((earlier ++ p ∷ []) ++ premises))) (ap (λ a. a.from) is) (points_more (earlier ++ p ∷ []) premises step.from known.0),
            subst (λ z. In z (points_in ((earlier ++ p ∷ []) ++ premises))) (ap (λ a. a.to) is) (points_more (earlier ++ p ∷ []) premises step.to known.1),
          )
      | inr rest ↦ subst (λ ps. In e.from (points_in ps) × In e.to (points_in ps)) same (arcs_after (earlier ++ p ∷ []) premises h.1 e rest)
    ]

-- **The constraints of a well-named list are between its points.**
pub arcs_among : (premises : List Premise) → IsWellNamed premises → AreAmong (points_in premises) (arcs_in premises)
arcs_among premises h =
    All-from_contains (λ e. Contains (points_in premises) e.from × Contains (points_in premises) e.to) (arcs_in premises)
    (λ e m. let known = arcs_after [] premises h e (In-from_Contains (arcs_in premises) e m) in (Contains-from_In (points_in premises) e.from known.0, Contains-from_In (points_in premises) e.to known.1))
