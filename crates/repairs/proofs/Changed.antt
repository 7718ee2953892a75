-- What the changes of an edit tell of broken protections, and of protections that are erased.
use Rattle.std.proofs.Common.{◌≡◌, ◌∙◌, ℕ, Bool, true, false, List, [], ◌∷◌, map, refl, sym, ap, subst, inl, inr}
use Rattle.std.specs.Prelude.{Option, Some, None, not, ◌&&◌}
use Rattle.std.specs.List.{list_any, list_all, filter_map}
use Rattle.std.specs.Option.{is_none}
use Rattle.std.proofs.lemmas.Bool.{false≢true}
use Rattle.tmm_model.specs.declared.premise.Premise.{Premise}
use Rattle.tmm_model.specs.declared.premise.Premise.TheVariants.{Class, Kind, Point, Event, Token, Span, Dist, Rule, Protect, Against}
use Rattle.tmm_model.specs.Answers.{Finding, does_hold, ask, broken, reports}
use Rattle.tmm_model.specs.Changes.{changes, is_broken, protection_name}
use Rattle.tmm_model.specs.Erasure.{is_among, kept_without}
use Rattle.tmm_model.specs.Edits.{list_without}
use Rattle.tmm_model.specs.Maps.{TimeMap, built}
use Rattle.tmm_model.specs.Moments.{At}
use Rattle.tmm_model.specs.Points.{same_name}
use Rattle.tmm_model.specs.Standing.{Standing, name_of, premise_in}
use Rattle.walk_theory.proofs.Points.{same_name-is, same_name-self}
use Rattle.list_theory.specs.WellNamed.{IsWellNamed}
use Rattle.list_theory.proofs.Elements.{In, list_any-In, In-list_any, In-filter, filter-In, In-filter_map, filter_map-In, In-map, map-In, both}
use Rattle.list_theory.proofs.Erasure.{kept_before, kept_without-IsWellNamed}
use Rattle.list_theory.proofs.KnownNames.{found, finds}
use Rattle.repairs.specs.Repairs.{protects}
use Rattle.repairs.specs.Told.{found_protection, names_protection, spares_protections, names_in}

-- ---- tests

pub is_false : (b : Bool) → (b ≡ true → ⊥) → b ≡ false
is_false true never = absurd (never refl)
is_false false never = refl

pub not_both : {A : Type 0} (b : Bool) → b ≡ true → b ≡ false → A
not_both true is isnt = absurd (false≢true (sym isnt))
not_both false is isnt = absurd (false≢true is)

pub not-true : (b : Bool) → not b ≡ true → b ≡ false
not-true true h = absurd (false≢true h)
not-true false h = refl

pub not-false : (b : Bool) → b ≡ false → not b ≡ true
not-false b isnt = ap not isnt

pub both_true : (a b : Bool) → a ≡ true → b ≡ true → (a && b) ≡ true
both_true true true one other = refl
both_true true false one other = absurd (false≢true other)
both_true false b one other = absurd (false≢true one)

pub all_from_In : {X : Type 0} (p : X → Bool) (xs : List X) → ((x : X) → In x xs → p x ≡ true) → list_all p xs ≡ true
all_from_In p [] each = refl
all_from_In p (x ∷ xs) each = both_true (p x) (list_all p xs) (each x (inl refl)) (all_from_In p xs (λ y at. each y (inr at)))

-- ---- names

pub among_In : (names : List (List ℕ)) (name : List ℕ) → is_among names name ≡ true → In name names
among_In names name among =
    let (other, at, same) = list_any-In (same_name name) names among in
    subst (λ n. In n names) (sym (same_name-is name other same)) at

pub In_among : (names : List (List ℕ)) (name : List ℕ) → In name names → is_among names name ≡ true
In_among names name at = In-list_any (same_name name) names name at (same_name-self name)

pub named_In : (found : List (List ℕ × Finding)) (name : List ℕ) → In name (names_in found) → (r : List ℕ × Finding) × In r found × (r.0 ≡ name)
named_In found name at = In-map (λ (r : List ℕ × Finding). r.0) found name at

pub In_named : (found : List (List ℕ × Finding)) (r : List ℕ × Finding) → In r found → In r.0 (names_in found)
In_named found r at = map-In (λ (r : List ℕ × Finding). r.0) found r at

-- ---- broken protections

pub reported : (m : TimeMap) (name : List ℕ) → is_broken m name ≡ true → (r : List ℕ × Finding) × In r (reports m) × (r.0 ≡ name)
reported m name is =
    let (r, at, same) = list_any-In (λ r. same_name r.0 name) (reports m) is in
    (r, at, same_name-is r.0 name same)

pub report_broken : (m : TimeMap) (r : List ℕ × Finding) → In r (reports m) → is_broken m r.0 ≡ true
report_broken m r at = In-list_any (λ s. same_name s.0 r.0) (reports m) r at (same_name-self r.0)

-- a report has the name of a protection
pub of_protection : (m : TimeMap) (o : Premise) (r : List ℕ × Finding) → broken m o ≡ Some r → protection_name o ≡ Some r.0
of_protection m (Protect name fact from to) r e = by (ask m fact (At from) (At to)) (does_hold (ask m fact (At from) (At to))) e
  where
    by : (found : Finding) (b : Bool) → (elim b as (λ _. Option (List ℕ × Finding)) [ true ↦ None | false ↦ Some (name, found) ]) ≡ Some r → Some name ≡ Some r.0
    by found true e = cc
    by found false e = let one : (name, found) ≡ r = cc in ap (λ (z : List ℕ × Finding). Some z.0) one
of_protection m (Class name facts) r e = cc
of_protection m (Kind name) r e = cc
of_protection m (Point name) r e = cc
of_protection m (Event name kind) r e = cc
of_protection m (Token name fact) r e = cc
of_protection m (Span name fact) r e = cc
of_protection m (Dist name from to lo hi) r e = cc
of_protection m (Rule name trigger lo hi effect given unless_facts) r e = cc
of_protection m (Against name one other) r e = cc

-- the names of the protections of a list
abbrev pub protections_in : List Premise → List (List ℕ)
protections_in premises = filter_map protection_name premises

-- what is reported is a protection of the list
pub report_protects : (m : TimeMap) (r : List ℕ × Finding) → In r (reports m) → In r.0 (protections_in m.list.premises)
report_protects m r at =
    let (o, there, is) = In-filter_map (broken m) m.list.premises r at in
    filter_map-In protection_name m.list.premises o r.0 there (of_protection m o r is)

pub broken_protects : (m : TimeMap) (name : List ℕ) → is_broken m name ≡ true → In name (protections_in m.list.premises)
broken_protects m name is =
    let (r, at, named) = reported m name is in
    subst (λ n. In n (protections_in m.list.premises)) named (report_protects m r at)

-- a protection's name
pub protects_named : (p : Premise) → protects p ≡ true → protection_name p ≡ Some (name_of p)
protects_named (Protect name fact from to) is = refl
protects_named (Class name facts) is = absurd (false≢true is)
protects_named (Kind name) is = absurd (false≢true is)
protects_named (Point name) is = absurd (false≢true is)
protects_named (Event name kind) is = absurd (false≢true is)
protects_named (Token name fact) is = absurd (false≢true is)
protects_named (Span name fact) is = absurd (false≢true is)
protects_named (Dist name from to lo hi) is = absurd (false≢true is)
protects_named (Rule name trigger lo hi effect given unless_facts) is = absurd (false≢true is)
protects_named (Against name one other) is = absurd (false≢true is)

pub named_protects : (p : Premise) (name : List ℕ) → protection_name p ≡ Some name → (protects p ≡ true) × (name_of p ≡ name)
named_protects (Protect n fact from to) name e = (refl, cc)
named_protects (Class n facts) name e = cc
named_protects (Kind n) name e = cc
named_protects (Point n) name e = cc
named_protects (Event n kind) name e = cc
named_protects (Token n fact) name e = cc
named_protects (Span n fact) name e = cc
named_protects (Dist n from to lo hi) name e = cc
named_protects (Rule n trigger lo hi effect given unless_facts) name e = cc
named_protects (Against n one other) name e = cc

-- protections of one list that stand in another have their names there
pub same_protections : (ps qs : List Premise) → ((p : Premise) → protects p ≡ true → In p ps → In p qs) → (name : List ℕ) → In name (protections_in ps) → In name (protections_in qs)
same_protections ps qs stand name at =
    let (p, there, is) = In-filter_map protection_name ps name at in
    filter_map-In protection_name qs p name (stand p (named_protects p name is).0 there) is

-- ---- changes

module _ (old new : Standing) where
  -- a protection is newly broken
  abbrev pub IsHarmed : List ℕ → Type 0
  IsHarmed name = (is_broken (built old) name ≡ false) × (is_broken (built new) name ≡ true)

  -- it is mended
  abbrev pub IsMended : List ℕ → Type 0
  IsMended name = (is_broken (built old) name ≡ true) × (is_broken (built new) name ≡ false)

  pub harmed : (name : List ℕ) → In name (names_in (changes old new).broken) → IsHarmed name
  harmed name at =
      let (r, there, named) = named_In (changes old new).broken name at in
      let (now, before) = In-filter (λ r. not (is_broken (built old) r.0)) (reports (built new)) r there in
      subst IsHarmed named (not-true (is_broken (built old) r.0) before, report_broken (built new) r now)

  pub told_harmed : (name : List ℕ) → IsHarmed name → In name (names_in (changes old new).broken)
  told_harmed name (before, now) =
      let (r, at, named) = reported (built new) name now in
      let was : is_broken (built old) r.0 ≡ false = subst (λ n. is_broken (built old) n ≡ false) (sym named) before in
      let told = filter-In (λ r. not (is_broken (built old) r.0)) (reports (built new)) r at (not-false (is_broken (built old) r.0) was) in
      subst (λ n. In n (names_in (changes old new).broken)) named (In_named (changes old new).broken r told)

  pub mended : (name : List ℕ) → In name (changes old new).mended → IsMended name
  mended name at =
      let (there, tests) = In-filter (λ name. is_broken (built old) name && not (is_broken (built new) name)) (protections_in new.premises) name at in
      let (was, is) = both (is_broken (built old) name) (not (is_broken (built new) name)) tests in
      (was, not-true (is_broken (built new) name) is)

  pub told_mended : (name : List ℕ) → In name (protections_in new.premises) → IsMended name → In name (changes old new).mended
  told_mended name stands (was, is) =
      filter-In (λ name. is_broken (built old) name && not (is_broken (built new) name)) (protections_in new.premises) name stands
      (both_true (is_broken (built old) name) (not (is_broken (built new) name)) was (not-false (is_broken (built new) name) is))

-- ---- protections that stand after an erasure

pub is_protection : (s : Standing) (name : List ℕ) → names_protection s name ≡ true → (p : Premise) × (premise_in s.premises name ≡ Some p) × (protects p ≡ true)
unfolding names_protection
is_protection s name is = by (premise_in s.premises name) refl is
  where
    by : (o : Option Premise) → premise_in s.premises name ≡ o → found_protection o ≡ true → (p : Premise) × (premise_in s.premises name ≡ Some p) × (protects p ≡ true)
    by None e never = absurd (false≢true never)
    by (Some p) e protects = (p, e, protects)

module _ (old : Standing) (named : IsWellNamed old.premises) (n : List ℕ) where
  abbrev kept : List Premise
  kept = kept_without n old.premises

  abbrev gone : List (List ℕ)
  gone = (changes old (list_without old n)).erased

  -- what stands after the erasure stood before
  pub stood : (p : Premise) → In p kept → In p old.premises
  stood p at = kept_before n [] old.premises p at

  -- where the names that are gone are no protection's, each protection stands
  pub spared : spares_protections old gone ≡ true → (p : Premise) → protects p ≡ true → In p old.premises → In p kept
  unfolding names_protection
  spared spares p protects at = by (premise_in kept (name_of p)) refl
    where
      by : (o : Option Premise) → premise_in kept (name_of p) ≡ o → In p kept
      by (Some q) e =
          let (there, same) = finds kept (name_of p) q e in
          let first : premise_in old.premises (name_of p) ≡ Some q = subst (λ m. premise_in old.premises m ≡ Some q) same (found old.premises named q (stood q there)) in
          let both : Some q ≡ Some p = sym first ∙ found old.premises named p at in
          let one : q ≡ p = cc in
          subst (λ (r : Premise). In r kept) one there
      by None e =
          let told : In (name_of p) gone =
          filter-In (λ name. is_none (premise_in kept name)) (map name_of old.premises) (name_of p) (map-In name_of old.premises p at) (ap is_none e) in
          let is : names_protection old (name_of p) ≡ true = ap found_protection (found old.premises named p at) ∙ protects in
          not_both (list_any (names_protection old) gone) (In-list_any (names_protection old) gone (name_of p) told is) (not-true (list_any (names_protection old) gone) spares)

  -- and where each protection stands, none is gone
  pub none_erased : ((p : Premise) → protects p ≡ true → In p old.premises → In p kept) → spares_protections old gone ≡ true
  none_erased stand = not-false (list_any (names_protection old) gone) (is_false (list_any (names_protection old) gone) never)
    where
      never : list_any (names_protection old) gone ≡ true → ⊥
      never some =
          let (name, at, is) = list_any-In (names_protection old) gone some in
          let (p, first, protects) = is_protection old name is in
          let (there, same) = finds old.premises name p first in
          let still : premise_in kept name ≡ Some p = subst (λ m. premise_in kept m ≡ Some p) same (found kept (kept_without-IsWellNamed n old.premises named) p (stand p protects there)) in
          let none : is_none (premise_in kept name) ≡ true = (In-filter (λ name. is_none (premise_in kept name)) (map name_of old.premises) name at).1 in
          false≢true (sym (ap is_none still) ∙ none)
