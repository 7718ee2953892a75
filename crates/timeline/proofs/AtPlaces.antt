-- The rules of a list, told by their places.
use Rattle.std.proofs.Common.{◌≡◌, ◌∙◌, ℕ, zero, suc, ◌<◌, ◌≤◌, List, [], ◌∷◌, ◌++◌, map, take, drop, length, refl, sym, ap, subst, inl, append-nil, arith}
use Rattle.std.specs.Prelude.{Option, Some, None, slice_get}
use Rattle.std.specs.List.{All, filter_map, cons_option}
use Rattle.std.specs.Option.{option_map_or}
use Rattle.std.proofs.lemmas.List.{map-append, length-map}
use Rattle.std.proofs.lemmas.List.Elements.{All-push, filter_map-append}
use Rattle.tmm_model.specs.declared.premise.Premise.{Premise}
use Rattle.tmm_model.specs.declared.premise.Premise.TheVariants.{Class, Kind, Point, Event, Token, Span, Dist, Rule, Protect, Against}
use Rattle.tmm_model.specs.Beliefs.{on_kind}
use Rattle.tmm_model.specs.Standing.{Standing, name_of, premise_in}
use Rattle.list_theory.specs.WellNamed.{IsWellNamed}
use Rattle.list_theory.proofs.Elements.{In, In-right}
use Rattle.list_theory.proofs.KnownNames.{found}
use Rattle.belief_theory.proofs.Sound.{named_rule}
use Rattle.timeline.specs.Kinds.{name_at, IsRule, IsRuleAt}

-- ---- an element of a list, and what is before it

pub taken : {X : Type 0} (xs : List X) (i : ℕ) (x : X) → slice_get xs i ≡ Some x → take (suc i) xs ≡ take i xs ++ x ∷ []
taken [] i x e = absurd (cc (e))
taken (y ∷ xs) zero x e = (let same : y ≡ x = cc in λ j. same j ∷ [])
taken (y ∷ xs) (suc i) x e = ap (λ l. y ∷ l) (taken xs i x e)

pub parted : {X : Type 0} (xs : List X) (i : ℕ) (x : X) → slice_get xs i ≡ Some x → take i xs ++ x ∷ drop (suc i) xs ≡ xs
parted [] i x e = absurd (cc (e))
parted (y ∷ xs) zero x e = (let same : x ≡ y = cc in λ j. same j ∷ xs)
parted (y ∷ xs) (suc i) x e = ap (λ l. y ∷ l) (parted xs i x e)

pub not_none : {X : Type 0} (xs : List X) (i : ℕ) → slice_get xs i ≡ None → i < length xs → ⊥
not_none [] i e below = omega arith
not_none (x ∷ xs) zero e below = cc
not_none (x ∷ xs) (suc i) e below = not_none xs i e (omega arith)

pub stands : {X : Type 0} (xs : List X) (i : ℕ) (x : X) → slice_get xs i ≡ Some x → In x xs
stands xs i x e = subst (In x) (parted xs i x e) (In-right (take i xs) (x ∷ drop (suc i) xs) x (inl refl))

-- ---- rules

pub named_at : (s : Standing) (place : ℕ) (p : Premise) → slice_get s.premises place ≡ Some p → name_at s place ≡ name_of p
named_at s place p at = ap (λ o. option_map_or name_of o []) at

-- the premise of the name at a place is the one at the place
pub found_at : (s : Standing) → IsWellNamed s.premises → (place : ℕ) (p : Premise) → slice_get s.premises place ≡ Some p → premise_in s.premises (name_at s place) ≡ Some p
found_at s named place p at = ap (premise_in s.premises) (named_at s place p at) ∙ found s.premises named p (stands s.premises place p at)

-- there are as many places as names at them
pub placed : (s : Standing) (places : List ℕ) (names : List (List ℕ)) → map (name_at s) places ≡ names → length places ≡ length names
placed s places names is = sym (length-map places (name_at s)) ∙ ap length is

-- no more are told than there are
pub length-filter_map-le : {X Y : Type 0} (h : X → Option Y) (xs : List X) → length (filter_map h xs) ≤ length xs
length-filter_map-le h [] = omega arith
length-filter_map-le h (x ∷ xs) = by (h x) (length-filter_map-le h xs)
  where
    by : (o : Option _) → length (filter_map h xs) ≤ length xs → length (cons_option o (filter_map h xs)) ≤ length (x ∷ xs)
    by None le = omega arith
    by (Some y) le = omega arith

-- ---- one premise more

rule_on : (kind : List ℕ) (p : Premise) (r : List ℕ) → on_kind kind p ≡ Some r → (name_of p ≡ r) × IsRule p
rule_on kind p r e = (named_rule kind p r e, is_rule p e)
  where
    is_rule : (p : Premise) → on_kind kind p ≡ Some r → IsRule p
    is_rule (Rule name trigger lo hi effect given unless_facts) e = tt
    is_rule (Class name facts) e = cc
    is_rule (Kind name) e = cc
    is_rule (Point name) e = cc
    is_rule (Event name other) e = cc
    is_rule (Token name fact) e = cc
    is_rule (Span name fact) e = cc
    is_rule (Dist name from to lo hi) e = cc
    is_rule (Protect name fact from to) e = cc
    is_rule (Against name one other) e = cc

module _ (s : Standing) (kind : List ℕ) (i : ℕ) (p : Premise) (at : slice_get s.premises i ≡ Some p) where
  own_name : map (name_at s) (map (λ name. i) (filter_map (on_kind kind) (p ∷ []))) ≡ filter_map (on_kind kind) (p ∷ [])
  own_name = by (on_kind kind p) refl
    where
      by : (o : Option (List ℕ)) → on_kind kind p ≡ o → map (name_at s) (map (λ name. i) (cons_option o [])) ≡ cons_option o []
      by None e = refl
      by (Some r) e = ap (λ n. n ∷ []) (named_at s i p at ∙ (rule_on kind p r e).0)

  pub next_named : (places : List ℕ) (front : List Premise) → map (name_at s) places ≡ filter_map (on_kind kind) front
      → map (name_at s) (places ++ map (λ name. i) (filter_map (on_kind kind) (p ∷ []))) ≡ filter_map (on_kind kind) (front ++ p ∷ [])
  next_named places front before =
      map-append (name_at s) places (map (λ name. i) (filter_map (on_kind kind) (p ∷ [])))
      ∙ (λ j. before j ++ own_name j)
      ∙ sym (filter_map-append (on_kind kind) front (p ∷ []))

  pub next_places : (places : List ℕ) → All (IsRuleAt s) places → All (IsRuleAt s) (places ++ map (λ name. i) (filter_map (on_kind kind) (p ∷ [])))
  next_places places before = by (on_kind kind p) refl
    where
      by : (o : Option (List ℕ)) → on_kind kind p ≡ o → All (IsRuleAt s) (places ++ map (λ name. i) (cons_option o []))
      by None e = subst (All (IsRuleAt s)) (sym (append-nil places)) before
      by (Some r) e = All-push (IsRuleAt s) places i before (p, at, (rule_on kind p r e).1)
