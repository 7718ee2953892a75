-- Points of the tokens that a rule watches, put in some after the others.
use Rattle.std.proofs.Common.{◌≡◌, ◌∙◌, ℕ, Bool, true, false, not, ◌&&◌, ◌||◌, ◌+◌, ◌<◌, List, [], ◌∷◌, ◌++◌, length, take, get_or, suc, Option, Some, None, refl, sym, ap, subst, inl, inr, ◌⊎◌, arith}
use Rattle.std.proofs.lemmas.Bool.{cases_order, or_cases, or_right, not-true}
use Rattle.std.proofs.lemmas.List.{get_or_default}
use Rattle.std.specs.Prelude.{IsSome, slice_get}
use Rattle.std.specs.Option.{option_map}
use Rattle.std.specs.List.{list_any}
use Rattle.std.specs.Cmp.Lexicographic.{bytes_decides}
use Rattle.tmm_model.specs.declared.premise.Premise.{Premise}
use Rattle.tmm_model.specs.declared.premise.Premise.TheVariants.{Class, Kind, Point, Event, Token, Span, Dist, Rule, Protect, Against}
use Rattle.tmm_model.specs.declared.token.Shape.{Shape}
use Rattle.tmm_model.specs.declared.token.Shape.TheVariants.{Event as AnEvent, Persistence, Span as ASpan}
use Rattle.tmm_model.specs.declared.token.TokenRow.{TokenRow}
use Rattle.tmm_model.specs.Beliefs.{class_of, says_against, are_rivals}
use Rattle.tmm_model.specs.Moments.{as_rule, read_by, rule_of}
use Rattle.tmm_model.specs.Points.{same_name}
use Rattle.tmm_model.specs.Sorts.{class_in, fact_use}
use Rattle.tmm_model.specs.Standing.{Standing, premise_in}
use Rattle.list_theory.specs.WellNamed.{IsSound}
use Rattle.list_theory.proofs.Elements.{In, In-cases, In-left, In-right, In-from_Contains, map-In, list_any-In, In-list_any, both}
use Rattle.list_theory.proofs.KnownNames.{finds}
use Rattle.walk_theory.proofs.Members.{All-from_contains}
use Rattle.dist_net.specs.Net.{Net}
use Rattle.spots.specs.declared.spot.Spot.{Spot}
use Rattle.spots.specs.declared.spot.Spot.TheVariants.{Declared}
use Rattle.spots.specs.Forest.{Forest}
use Rattle.spots.specs.OfLists.{IsForestOf, class_for}
use Rattle.spots.specs.Spots.{AreTokens}
use Rattle.spots.proofs.Rows.{member_of_token}
use Rattle.premise_list.proofs.Facts.{fact_known}
use Rattle.spots.proofs.Grown.{taken}
use Rattle.joined.specs.Gaps.{IsClassSpot, IsFactSpot, IsReadSpot, start, read, rival}
use Rattle.bearing.specs.declared.points_of_class.Reach.{Reach}
use Rattle.bearing.specs.Reach.{Notes}
use Rattle.bearing.specs.Watched.{AreClassed, AreDeclared, IsSpotRead, IsSaid, IsSpotSaid, IsSpotAgainst, IsTokenSpot}
use Rattle.bearing.proofs.Reached.{notes_none, notes_alike, notes_both, row_of, found}

-- ---- what is known of lists and nodes

-- the class of a token is that of its fact
pub classed : (s : Standing) (net : Net) (f : Forest) → IsForestOf s net f → AreClassed s f
classed s net f seen x m class at of = by m.shape (sym of ∙ (seen.members x m at).class)
  where
    by : (shape : Shape) → Some class ≡ class_for s shape m.what → class ≡ class_of s m.what
    by AnEvent is = cc
    by Persistence is = cc
    by ASpan is = cc

-- what a rule reads is declared
pub read_declared : (s : Standing) → IsSound s → (r : List ℕ) → AreDeclared s (read_by (rule_of s r))
read_declared s sound r =
    All-from_contains (λ fact. IsSome (class_in s.premises fact)) (read_by (rule_of s r)) (λ fact at. by (premise_in s.premises r) refl fact (In-from_Contains (read_by (rule_of s r)) fact at))
  where
    by : (o : Option Premise) → premise_in s.premises r ≡ o → (fact : List ℕ) → In fact (read_by (as_rule o)) → IsSome (class_in s.premises fact)
    by None is fact at = absurd at
    by (Some (Rule name trigger lo hi effect given unless_facts)) is fact at =
        fact_known s.premises sound.well_named (Rule name trigger lo hi effect given unless_facts) (finds s.premises r (Rule name trigger lo hi effect given unless_facts) is).0 fact
        (inr (inr (map-In fact_use (given.items ++ unless_facts.items) fact at)))
    by (Some (Class name facts)) is fact at = absurd at
    by (Some (Kind name)) is fact at = absurd at
    by (Some (Point name)) is fact at = absurd at
    by (Some (Event name kind)) is fact at = absurd at
    by (Some (Token name fact_)) is fact at = absurd at
    by (Some (Span name fact_)) is fact at = absurd at
    by (Some (Dist name from to lo hi)) is fact at = absurd at
    by (Some (Protect name fact_ from to)) is fact at = absurd at
    by (Some (Against name one other)) is fact at = absurd at

-- so are the facts of which a premise says that they contradict each other
pub one_declared : (s : Standing) → IsSound s → (name one other : List ℕ) → In (Against name one other) s.premises → IsSome (class_in s.premises one)
one_declared s sound name one other on = fact_known s.premises sound.well_named (Against name one other) on one (inl refl)

pub other_declared : (s : Standing) → IsSound s → (name one other : List ℕ) → In (Against name one other) s.premises → IsSome (class_in s.premises other)
other_declared s sound name one other on = fact_known s.premises sound.well_named (Against name one other) on other (inr (inl refl))

-- ---- classes of facts, one fact after the other

module _ (s : Standing) (f : Forest) where
  pub read_none : (r : Reach) → Notes f (IsSpotRead s f []) r r
  read_none r = notes_none f (IsSpotRead s f []) r (λ p spot. spot.1)

  pub read_next : (front : List (List ℕ)) (fact : List ℕ) (old mid new : Reach) → Notes f (IsSpotRead s f front) old mid → Notes f (IsClassSpot f (class_of s fact)) mid new
      → Notes f (IsSpotRead s f (front ++ fact ∷ [])) old new
  read_next front fact old mid new =
      notes_both f (IsSpotRead s f front) (IsClassSpot f (class_of s fact)) (IsSpotRead s f (front ++ fact ∷ [])) old mid new
      (λ p (g, at, is). elim (In-cases front (fact ∷ []) g at) [
        | inl there ↦ inl (g, there, is)
        | inr here ↦ elim here [ inl same ↦ inr (subst (λ z. IsClassSpot f (class_of s z) p) (sym same) is) | inr none ↦ absurd none ]
      ])
      (λ p (g, at, is). (g, In-left front (fact ∷ []) g at, is))
      (λ p is. (fact, In-right front (fact ∷ []) fact (inl refl), is))

-- ---- tokens of a fact

module _ (f : Forest) (fact : List ℕ) where
  -- the spots of those of the first n rows that are of the fact
  abbrev pub OfFirstRowsOf : List (TokenRow Spot) → ℕ → Spot → Type 0
  OfFirstRowsOf rows n p = (k : ℕ) × (row : TokenRow Spot) × (k < n) × (row ≡ get_or rows k row) × ((row.fact ≡ fact) × ((p ≡ row.spot) ⊎ (row.end ≡ Some p)))

  pub of_none : (rows : List (TokenRow Spot)) (r : Reach) → Notes f (OfFirstRowsOf rows 0) r r
  of_none rows r = notes_none f (OfFirstRowsOf rows 0) r (λ p (k, row, less, is, at). (let no = less in omega (arith, no)))

  pub of_next : (rows : List (TokenRow Spot)) (n : ℕ) (row : TokenRow Spot) (old mid new : Reach) → row ≡ get_or rows n row → n < length rows → Notes f (OfFirstRowsOf rows n) old mid
      → Notes f (λ p. (row.fact ≡ fact) × ((p ≡ row.spot) ⊎ (row.end ≡ Some p))) mid new → Notes f (OfFirstRowsOf rows (n + 1)) old new
  of_next rows n row old mid new is short =
      notes_both f (OfFirstRowsOf rows n) (λ p. (row.fact ≡ fact) × ((p ≡ row.spot) ⊎ (row.end ≡ Some p))) (OfFirstRowsOf rows (n + 1)) old mid new
      apart
      (λ p (k, other, less, at, spot). (k, other, omega (arith, less), at, spot))
      (λ p spot. (n, row, omega arith, is, spot))
    where
      apart : (p : Spot) → OfFirstRowsOf rows (n + 1) p → OfFirstRowsOf rows n p ⊎ ((row.fact ≡ fact) × ((p ≡ row.spot) ⊎ (row.end ≡ Some p)))
      apart p (k, other, less, at, spot) = elim (cases_order k n) [
        | inl same ↦ inr (
            let one : other ≡ row = at ∙ ap (λ j. get_or rows j other) same ∙ get_or_default rows n other row short ∙ sym is in
            subst (λ z. (z.fact ≡ fact) × ((p ≡ z.spot) ⊎ (z.end ≡ Some p))) one spot)
        | inr more ↦ elim more [ inl below ↦ inl (k, other, below, at, spot) | inr above ↦ absurd (omega (arith, less, above)) ]
      ]

  module _ (class : List ℕ) (rows : List (TokenRow Spot)) (are : AreTokens f class rows) where
    an_end_at : (o : Option ℕ) (p : Spot) → option_map Declared o ≡ Some p → (e : ℕ) × (o ≡ Some e) × (p ≡ Declared e)
    an_end_at None p is = cc
    an_end_at (Some e) p is = (e, refl, cc)

    of_token : (p : Spot) → OfFirstRowsOf rows (length rows) p → IsTokenSpot f class fact p
    of_token p (k, row, less, is, (what, at)) =
        let (x, m, of, one) = member_of_token f class rows are row (k, less, sym is) in
        (x, m, of.here, of.class ∙ ap Some one, sym of.fact ∙ what, elim at [ inl here ↦ inl (here ∙ of.spot) | inr ends ↦ inr (an_end_at m.end p (sym of.end ∙ ends)) ])

    in_rows : (p : Spot) → IsTokenSpot f class fact p → OfFirstRowsOf rows (length rows) p
    in_rows p (x, m, here, of, what, at) =
        let (k, less, same) = found f class rows are x m here of in
        (k, row_of f class rows are x m, less, sym same, (what, elim at [ inl is ↦ inl is | inr (e, ends, is) ↦ inr (ap (option_map Declared) ends ∙ ap Some (sym is)) ]))

    pub tokens_noted : (old new : Reach) → Notes f (OfFirstRowsOf rows (length rows)) old new → Notes f (IsTokenSpot f class fact) old new
    tokens_noted old new = notes_alike f (OfFirstRowsOf rows (length rows)) (IsTokenSpot f class fact) old new of_token in_rows

  -- the tokens of a fact are of its class
  pub fact_noted : (s : Standing) → AreClassed s f → (class : List ℕ) → class_of s fact ≡ class → (old new : Reach) → Notes f (IsTokenSpot f class fact) old new → Notes f (IsFactSpot f fact) old new
  fact_noted s are class is old new = notes_alike f (IsTokenSpot f class fact) (IsFactSpot f fact) old new
      (λ p (x, m, here, of, what, at). record { number = x; node = m; class = class; here = here; of = of; fact_is = what; is = at })
      (λ p spot. (spot.number, spot.node, spot.here, spot.of ∙ ap Some (are spot.number spot.node spot.class spot.here spot.of ∙ ap (class_of s) spot.fact_is ∙ is), spot.fact_is, spot.is))

-- ---- what premises say, one after the other

same_true : (a b : List ℕ) → a ≡ b → same_name a b ≡ true
same_true a b e = (bytes_decides a b).1 e

module _ (f : Forest) (facts : List (List ℕ)) where
  -- the tokens of a fact, if another one is among the facts
  abbrev pub IsIfRead : List ℕ → List ℕ → Spot → Type 0
  IsIfRead of fact p = ((not (same_name of fact) && list_any (same_name of) facts) ≡ true) × IsFactSpot f fact p

  pub said_both : (name one other : List ℕ) (old mid new : Reach) → Notes f (IsIfRead one other) old mid → Notes f (IsIfRead other one) mid new → Notes f (IsSpotSaid f facts (Against name one other)) old new
  said_both name one other old mid new =
      notes_both f (IsIfRead one other) (IsIfRead other one) (IsSpotSaid f facts (Against name one other)) old mid new apart
      (λ p (test, spot). (other, one_of one other test (λ g is. or_left (same_name one other && same_name other g) is (same_true other other refl)), spot))
      (λ p (test, spot). (one, one_of other one test (λ g is. or_right (same_name one g && same_name other one) (same_name one one && same_name other g) (with_ (same_true one one refl) is)), spot))
    where
      with_ : {v w : Bool} → v ≡ true → w ≡ true → (v && w) ≡ true
      with_ v w = (λ i. v i && w i)

      or_left : {v w : Bool} (x : Bool) → v ≡ true → w ≡ true → ((v && w) || x) ≡ true
      or_left x a b = ap (λ z. z || x) (with_ a b)

      -- the test, where a name is one of the facts and not this one
      test_of : (of fact g : List ℕ) → In g facts → same_name g fact ≡ false → of ≡ g → (not (same_name of fact) && list_any (same_name of) facts) ≡ true
      test_of of fact g at differ is = with_ (ap (λ z. not (same_name z fact)) is ∙ ap not differ) (In-list_any (same_name of) facts g at (same_true of g is))

      one_of : (of fact : List ℕ) → (not (same_name of fact) && list_any (same_name of) facts) ≡ true
          → ((g : List ℕ) → same_name of g ≡ true → says_against g fact (Against name one other) ≡ true) → IsSaid facts (Against name one other) fact
      one_of of fact test says =
          let (differ, among) = both (not (same_name of fact)) (list_any (same_name of) facts) test in
          let (g, at, same) = list_any-In (same_name of) facts among in
          (g, at, sym (ap (λ z. same_name z fact) ((bytes_decides of g).0 same)) ∙ not-true (same_name of fact) differ, says g same)

      apart : (p : Spot) → IsSpotSaid f facts (Against name one other) p → IsIfRead one other p ⊎ IsIfRead other one p
      apart p (fact, (g, at, differ, says), spot) = elim (or_cases (same_name one g && same_name other fact) (same_name one fact && same_name other g) says) [
        | inl first ↦ (
            let (as_one, as_other) = both (same_name one g) (same_name other fact) first in
            let is_fact : other ≡ fact = (bytes_decides other fact).0 as_other in
            inl (test_of one other g at (ap (same_name g) is_fact ∙ differ) ((bytes_decides one g).0 as_one), subst (λ z. IsFactSpot f z p) (sym is_fact) spot))
        | inr second ↦ (
            let (as_one, as_other) = both (same_name one fact) (same_name other g) second in
            let is_fact : one ≡ fact = (bytes_decides one fact).0 as_one in
            inr (test_of other one g at (ap (same_name g) is_fact ∙ differ) ((bytes_decides other g).0 as_other), subst (λ z. IsFactSpot f z p) (sym is_fact) spot))
      ]

  pub against_none : (r : Reach) → Notes f (IsSpotAgainst f facts []) r r
  against_none r = notes_none f (IsSpotAgainst f facts []) r (λ p spot. spot.1)

  pub against_next : (front : List Premise) (premise : Premise) (old mid new : Reach) → Notes f (IsSpotAgainst f facts front) old mid → Notes f (IsSpotSaid f facts premise) mid new
      → Notes f (IsSpotAgainst f facts (front ++ premise ∷ [])) old new
  against_next front premise old mid new =
      notes_both f (IsSpotAgainst f facts front) (IsSpotSaid f facts premise) (IsSpotAgainst f facts (front ++ premise ∷ [])) old mid new
      (λ p (o, at, is). elim (In-cases front (premise ∷ []) o at) [
        | inl there ↦ inl (o, there, is)
        | inr here ↦ elim here [ inl same ↦ inr (subst (λ z. IsSpotSaid f facts z p) (sym same) is) | inr none ↦ absurd none ]
      ])
      (λ p (o, at, is). (o, In-left front (premise ∷ []) o at, is))
      (λ p is. (premise, In-right front (premise ∷ []) premise (inl refl), is))

-- ---- a rule

-- the points of `start`, of the classes that a rule reads, and of what contradicts what it reads
pub rule_noted : (s : Standing) (f : Forest) (r : List ℕ) (facts : List (List ℕ)) (old first mid new : Reach) → facts ≡ read_by (rule_of s r) → Notes f (λ p. p ≡ Declared 0) old first
    → Notes f (IsSpotRead s f facts) first mid → Notes f (IsSpotAgainst f facts s.premises) mid new → Notes f (IsReadSpot s f r) old new
rule_noted s f r facts old first mid new are at_start by_class by_fact =
    notes_both f (λ p. (p ≡ Declared 0) ⊎ IsSpotRead s f facts p) (IsSpotAgainst f facts s.premises) (IsReadSpot s f r) old mid new
    apart
    (λ p is. elim is [ inl here ↦ start here | inr spot ↦ to_read p spot ])
    (λ p spot. to_rival p spot)
    (notes_both f (λ p. p ≡ Declared 0) (IsSpotRead s f facts) (λ p. (p ≡ Declared 0) ⊎ IsSpotRead s f facts p) old first mid (λ p is. is) (λ p is. inl is) (λ p is. inr is) at_start by_class)
    by_fact
  where
    to_read : (p : Spot) → IsSpotRead s f facts p → IsReadSpot s f r p
    to_read p (fact, at, spot) =
        read (class_of s fact)
        (In-list_any (λ z. same_name (class_of s z) (class_of s fact)) (read_by (rule_of s r)) fact (subst (In fact) are at) (same_true (class_of s fact) (class_of s fact) refl)) spot

    to_rival : (p : Spot) → IsSpotAgainst f facts s.premises p → IsReadSpot s f r p
    to_rival p (premise, on, (fact, (g, at, differ, says), spot)) =
        rival fact
        (In-list_any (λ z. are_rivals s z fact) (read_by (rule_of s r)) g (subst (In g) are at)
        (λ i. not (differ i) && In-list_any (says_against g fact) s.premises premise on says i))
        spot

    apart : (p : Spot) → IsReadSpot s f r p → ((p ≡ Declared 0) ⊎ IsSpotRead s f facts p) ⊎ IsSpotAgainst f facts s.premises p
    apart p (start is) = inl (inl is)
    apart p (read class reads spot) =
        let (fact, at, same) = list_any-In (λ z. same_name (class_of s z) class) (read_by (rule_of s r)) reads in
        inl (inr (fact, subst (In fact) (sym are) at, subst (λ z. IsClassSpot f z p) (sym ((bytes_decides (class_of s fact) class).0 same)) spot))
    apart p (rival fact reads spot) =
        let (g, at, rivals) = list_any-In (λ z. are_rivals s z fact) (read_by (rule_of s r)) reads in
        let (differ, said) = both (not (same_name g fact)) (list_any (says_against g fact) s.premises) rivals in
        let (premise, on, says) = list_any-In (says_against g fact) s.premises said in
        inr (premise, on, (fact, (g, subst (In g) (sym are) at, not-true (same_name g fact) differ, says), spot))

-- ---- as the code finds it

-- a class that is found is the fact's
pub class_found : (s : Standing) (fact class : List ℕ) → class_in s.premises fact ≡ Some class → class_of s fact ≡ class
class_found s fact class is = ap (λ (o : Option (List ℕ)). elim o as (λ _. List ℕ) [ Some c ↦ c | None ↦ [] ]) is

-- one premise more
pub take_next : (premises : List Premise) (n : ℕ) (premise : Premise) → slice_get premises n ≡ Some premise → take (n + 1) premises ≡ take n premises ++ premise ∷ []
take_next premises n premise at = let on : n + 1 ≡ suc n = omega arith in ap (λ k. take k premises) on ∙ taken premises n premise at
