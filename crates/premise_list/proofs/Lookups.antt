-- Look-ups among the declarations of a list.
use Rattle.std.proofs.Common.{◌≡◌, ℕ, suc, ◌+◌, Bool, true, false, ◌||◌, List, [], ◌∷◌, ◌++◌, map, refl, sym, ◌∙◌, ap, subst, arith, cond, Contains}
use Rattle.std.specs.Prelude.{Option, Some, None, slice_get, unwrap_or}
use Rattle.std.specs.List.{list_any, IsDistinct}
use Rattle.std.specs.Map.{lookup, keys_of}
use Rattle.std.specs.Option.{option_map, option_or}
use Rattle.std.specs.Cmp.Lexicographic.{nat_list_eq_equiv, bytes_decides}
use Rattle.std.proofs.lemmas.List.Elements.{Contains-append_left, Contains-append_right}
use Rattle.std.proofs.lemmas.Map.Views.{lookup-from_Contains, Contains-from_any}
use Rattle.walk_theory.proofs.Members.{Contains-map, Contains-cons, Contains-cons_first}
use Rattle.tmm_model.specs.declared.premise.Premise.{Premise}
use Rattle.tmm_model.specs.declared.premise.Premise.TheVariants.{Class, Kind, Point, Event, Token, Span, Dist, Rule, Protect, Against}
use Rattle.tmm_model.specs.Points.{same_name}
use Rattle.tmm_model.specs.Standing.{name_of, premise_in}
use Rattle.tmm_model.specs.Sorts.{Sort, a_fact, is_fact, fact_declaration, declarations_of, declarations_in, class_in}
use Rattle.list_theory.proofs.WellNamed.{lookup-append}
use Rattle.premise_list.specs.declared.premise.Sort.{Sort as Code}
use Rattle.premise_list.specs.declared.premise.Sort.TheVariants as code
use Rattle.premise_list.specs.Words.{facts_of, own_sort, sort_seen}
use Rattle.premise_list.specs.Table.{at_place, placed}

-- the declarations of a premise: its own name, and then its facts
pub declarations_parted : (p : Premise) → declarations_of p ≡ (name_of p, own_sort p) ∷ map fact_declaration (facts_of p)
declarations_parted (Class name facts) = refl
declarations_parted (Kind name) = refl
declarations_parted (Point name) = refl
declarations_parted (Event name kind) = refl
declarations_parted (Token name fact) = refl
declarations_parted (Span name fact) = refl
declarations_parted (Dist name from to lo hi) = refl
declarations_parted (Rule name trigger lo hi effect given unless_facts) = refl
declarations_parted (Protect name fact from to) = refl
declarations_parted (Against name one other) = refl

own_sort_no_fact : (p : Premise) → is_fact (own_sort p) ≡ false
own_sort_no_fact (Class name facts) = refl
own_sort_no_fact (Kind name) = refl
own_sort_no_fact (Point name) = refl
own_sort_no_fact (Event name kind) = refl
own_sort_no_fact (Token name fact) = refl
own_sort_no_fact (Span name fact) = refl
own_sort_no_fact (Dist name from to lo hi) = refl
own_sort_no_fact (Rule name trigger lo hi effect given unless_facts) = refl
own_sort_no_fact (Protect name fact from to) = refl
own_sort_no_fact (Against name one other) = refl

-- the sorts among placed declarations
lookup-at_place : (test : List ℕ → Bool) (i : ℕ) (ds : List (List ℕ × Sort)) → option_map (λ v. v.0) (lookup test (map (at_place i) ds)) ≡ lookup test ds
lookup-at_place test i [] = refl
lookup-at_place test i (d ∷ ds) = by (test d.0) (lookup-at_place test i ds)
  where
    by : (b : Bool) → option_map (λ v. v.0) (lookup test (map (at_place i) ds)) ≡ lookup test ds
        → option_map (λ v. v.0) (cond b (Some (d.1, i)) (lookup test (map (at_place i) ds))) ≡ cond b (Some d.1) (lookup test ds)
    by true e = refl
    by false e = e

option_map-or : {X Y : Type 0} (f : X → Y) (a b : Option X) → option_map f (option_or a b) ≡ option_or (option_map f a) (option_map f b)
option_map-or f None b = refl
option_map-or f (Some x) b = refl

pub lookup-placed : (test : List ℕ → Bool) (i : ℕ) (ps : List Premise) → option_map (λ v. v.0) (lookup test (placed i ps)) ≡ lookup test (declarations_in ps)
lookup-placed test i [] = refl
lookup-placed test i (p ∷ ps) =
    ap (option_map (λ v. v.0)) (lookup-append test (map (at_place i) (declarations_of p)) (placed (suc i) ps))
    ∙ option_map-or (λ v. v.0) (lookup test (map (at_place i) (declarations_of p))) (lookup test (placed (suc i) ps))
    ∙ (λ j. option_or (lookup-at_place test i (declarations_of p) j) (lookup-placed test (suc i) ps j))
    ∙ sym (lookup-append test (declarations_of p) (declarations_in ps))

-- a fact of the list, placed, is found as a fact, and exactly where the list has it
lookup-facts : (test : List ℕ → Bool) (i : ℕ) (fs : List (List ℕ)) → lookup test (map (at_place i) (map fact_declaration fs)) ≡ cond (list_any test fs) (Some (a_fact, i)) None
lookup-facts test i [] = refl
lookup-facts test i (f ∷ fs) = by (test f) (lookup-facts test i fs)
  where
    by : (b : Bool) → lookup test (map (at_place i) (map fact_declaration fs)) ≡ cond (list_any test fs) (Some (a_fact, i)) None
        → cond b (Some (a_fact, i)) (lookup test (map (at_place i) (map fact_declaration fs))) ≡ cond (b || list_any test fs) (Some (a_fact, i)) None
    by true e = refl
    by false e = e

-- the first of the placed declarations, parted by premises and by names
pub lookup-placed_cons : (test : List ℕ → Bool) (i : ℕ) (p : Premise) (ps : List Premise)
    → lookup test (placed i (p ∷ ps)) ≡ cond (test (name_of p)) (Some (own_sort p, i)) (cond (list_any test (facts_of p)) (Some (a_fact, i)) (lookup test (placed (suc i) ps)))
lookup-placed_cons test i p ps =
    ap (λ ds. lookup test (map (at_place i) ds ++ placed (suc i) ps)) (declarations_parted p) ∙ by (test (name_of p))
  where
    rest : lookup test (map (at_place i) (map fact_declaration (facts_of p)) ++ placed (suc i) ps) ≡ cond (list_any test (facts_of p)) (Some (a_fact, i)) (lookup test (placed (suc i) ps))
    rest = lookup-append test (map (at_place i) (map fact_declaration (facts_of p))) (placed (suc i) ps) ∙ ap (λ o. option_or o (lookup test (placed (suc i) ps))) (lookup-facts test i (facts_of p)) ∙ or (list_any test (facts_of p))
      where
        or : (b : Bool) → option_or (cond b (Some (a_fact, i)) None) (lookup test (placed (suc i) ps)) ≡ cond b (Some (a_fact, i)) (lookup test (placed (suc i) ps))
        or true = refl
        or false = refl

    by : (b : Bool) → cond b (Some (own_sort p, i)) (lookup test (map (at_place i) (map fact_declaration (facts_of p)) ++ placed (suc i) ps)) ≡ cond b (Some (own_sort p, i)) (cond (list_any test (facts_of p)) (Some (a_fact, i)) (lookup test (placed (suc i) ps)))
    by true = refl
    by false = rest

-- a class that has the fact, and a premise that doesn't declare it as one
class_in-has : (n : List ℕ) (p : Premise) (ps : List Premise) → list_any (same_name n) (facts_of p) ≡ true → class_in (p ∷ ps) n ≡ Some (name_of p)
class_in-has n (Class name facts) ps e = rw (e, class_in) refl
class_in-has n (Kind name) ps e = cc
class_in-has n (Point name) ps e = cc
class_in-has n (Event name kind) ps e = cc
class_in-has n (Token name fact) ps e = cc
class_in-has n (Span name fact) ps e = cc
class_in-has n (Dist name from to lo hi) ps e = cc
class_in-has n (Rule name trigger lo hi effect given unless_facts) ps e = cc
class_in-has n (Protect name fact from to) ps e = cc
class_in-has n (Against name one other) ps e = cc

class_in-has_not : (n : List ℕ) (p : Premise) (ps : List Premise) → list_any (same_name n) (facts_of p) ≡ false → class_in (p ∷ ps) n ≡ class_in ps n
class_in-has_not n (Class name facts) ps e = rw (e, class_in) refl
class_in-has_not n (Kind name) ps e = refl
class_in-has_not n (Point name) ps e = refl
class_in-has_not n (Event name kind) ps e = refl
class_in-has_not n (Token name fact) ps e = refl
class_in-has_not n (Span name fact) ps e = refl
class_in-has_not n (Dist name from to lo hi) ps e = refl
class_in-has_not n (Rule name trigger lo hi effect given unless_facts) ps e = refl
class_in-has_not n (Protect name fact from to) ps e = refl
class_in-has_not n (Against name one other) ps e = refl

-- where a name other than a fact is found, there stands the premise of this name
pub premise_found : (n : List ℕ) (i : ℕ) (ps : List Premise) (s : Sort) (k : ℕ) → lookup (same_name n) (placed i ps) ≡ Some (s, k) → is_fact s ≡ false
    → (j : ℕ) × (k ≡ i + j) × (premise_in ps n ≡ slice_get ps j)
premise_found n i [] s k h other = cc
premise_found n i (p ∷ ps) s k h other =
    by (same_name n (name_of p)) (list_any (same_name n) (facts_of p)) (premise_found n (suc i) ps s k) (sym (lookup-placed_cons (same_name n) i p ps) ∙ h)
  where
    by : (a b : Bool) → (lookup (same_name n) (placed (suc i) ps) ≡ Some (s, k) → is_fact s ≡ false → (j : ℕ) × (k ≡ suc i + j) × (premise_in ps n ≡ slice_get ps j))
        → cond a (Some (own_sort p, i)) (cond b (Some (a_fact, i)) (lookup (same_name n) (placed (suc i) ps))) ≡ Some (s, k)
        → (j : ℕ) × (k ≡ i + j) × (cond a (Some p) (premise_in ps n) ≡ slice_get (p ∷ ps) j)
    by true b again e = let at : i ≡ k = ap (λ o. (unwrap_or {T = Sort × ℕ} o (a_fact, 0)).1) e in (0, omega arith, refl)
    by false true again e = let s_is : a_fact ≡ s = ap (λ o. (unwrap_or {T = Sort × ℕ} o (a_fact, 0)).0) e in absurd (let no_fact : true ≡ false = ap is_fact s_is ∙ other in cc)
    by false false again e = let (j, at, is) = again e other in (suc j, omega arith, is)

-- and where a fact is found, there stands its class
pub class_found : (n : List ℕ) (i : ℕ) (ps : List Premise) (k : ℕ) → lookup (same_name n) (placed i ps) ≡ Some (a_fact, k)
    → (j : ℕ) × (k ≡ i + j) × (class_in ps n ≡ option_map name_of (slice_get ps j))
class_found n i [] k h = cc
class_found n i (p ∷ ps) k h =
    by (same_name n (name_of p)) (list_any (same_name n) (facts_of p)) refl (class_found n (suc i) ps k) (sym (lookup-placed_cons (same_name n) i p ps) ∙ h)
  where
    by : (a b : Bool) → list_any (same_name n) (facts_of p) ≡ b → (lookup (same_name n) (placed (suc i) ps) ≡ Some (a_fact, k) → (j : ℕ) × (k ≡ suc i + j) × (class_in ps n ≡ option_map name_of (slice_get ps j)))
        → cond a (Some (own_sort p, i)) (cond b (Some (a_fact, i)) (lookup (same_name n) (placed (suc i) ps))) ≡ Some (a_fact, k)
        → (j : ℕ) × (k ≡ i + j) × (class_in (p ∷ ps) n ≡ option_map name_of (slice_get (p ∷ ps) j))
    by true b f again e = let s_is : own_sort p ≡ a_fact = ap (λ o. (unwrap_or {T = Sort × ℕ} o (a_fact, 0)).0) e in absurd (let no_fact : true ≡ false = sym (ap is_fact s_is) ∙ own_sort_no_fact p in cc)
    by false true f again e = let at : i ≡ k = ap (λ o. (unwrap_or {T = Sort × ℕ} o (a_fact, 0)).1) e in (0, omega arith, class_in-has n p ps f)
    by false false f again e = let (j, at, is) = again e in (suc j, omega arith, class_in-has_not n p ps f ∙ is)

-- the premise of a name stands among the placed declarations
premise_placed : (n : List ℕ) (i : ℕ) (ps : List Premise) (p : Premise) → premise_in ps n ≡ Some p → (k : ℕ) × Contains (placed i ps) (n, (own_sort p, k))
premise_placed n i [] p h = cc
premise_placed n i (q ∷ ps) p h = by (same_name n (name_of q)) refl (premise_placed n (suc i) ps p) h
  where
    by : (b : Bool) → same_name n (name_of q) ≡ b → (premise_in ps n ≡ Some p → (k : ℕ) × Contains (placed (suc i) ps) (n, (own_sort p, k)))
        → cond b (Some q) (premise_in ps n) ≡ Some p → (k : ℕ) × Contains (placed i (q ∷ ps)) (n, (own_sort p, k))
    by true e again f =
        let one : q ≡ p = cc in
        let named : name_of q ≡ n = sym ((bytes_decides n (name_of q)).0 e) in
        let first : Contains (declarations_of q) (name_of q, own_sort q) = subst (λ ds. Contains ds (name_of q, own_sort q)) (sym (declarations_parted q)) (Contains-cons_first (name_of q, own_sort q) (map fact_declaration (facts_of q))) in (
          i,
          Contains-append_left (map (at_place i) (declarations_of q)) (placed (suc i) ps) (n, (own_sort p, i))
              (subst (Contains (map (at_place i) (declarations_of q))) (λ j. (named j, (own_sort (one j), i))) (Contains-map (at_place i) (declarations_of q) (name_of q, own_sort q) first)),
        )
    by false e again f = let (k, at) = again f in (k, Contains-append_right (map (at_place i) (declarations_of q)) (placed (suc i) ps) (n, (own_sort p, k)) at)

-- a fact of a class does
fact_placed : (n : List ℕ) (i : ℕ) (ps : List Premise) (c : List ℕ) → class_in ps n ≡ Some c → (k : ℕ) × Contains (placed i ps) (n, (a_fact, k))
fact_placed n i [] c h = cc
fact_placed n i (q ∷ ps) c h = by (fact_placed n (suc i) ps c) (list_any (same_name n) (facts_of q)) refl
  where
    by : (class_in ps n ≡ Some c → (k : ℕ) × Contains (placed (suc i) ps) (n, (a_fact, k))) → (b : Bool) → list_any (same_name n) (facts_of q) ≡ b → (k : ℕ) × Contains (placed i (q ∷ ps)) (n, (a_fact, k))
    by again true e =
        let among : Contains (facts_of q) n = Contains-from_any (λ x y. (bytes_decides x y).0) n (facts_of q) e in
        let declared : Contains ((name_of q, own_sort q) ∷ map fact_declaration (facts_of q)) (n, a_fact) = Contains-cons (name_of q, own_sort q) (map fact_declaration (facts_of q)) (n, a_fact) (Contains-map fact_declaration (facts_of q) n among) in
        let here : Contains (declarations_of q) (n, a_fact) = subst (λ ds. Contains ds (n, a_fact)) (sym (declarations_parted q)) declared in
        (i, Contains-append_left (map (at_place i) (declarations_of q)) (placed (suc i) ps) (n, (a_fact, i)) (Contains-map (at_place i) (declarations_of q) (n, a_fact) here))
    by again false e =
        let (k, at) = again (sym (class_in-has_not n q ps e) ∙ h) in
        (k, Contains-append_right (map (at_place i) (declarations_of q)) (placed (suc i) ps) (n, (a_fact, k)) at)

pub not_fact : (s : Code) → (s ≡ code.Fact → ⊥) → is_fact (sort_seen s) ≡ false
not_fact code.Class h = refl
not_fact code.Fact h = absurd (h refl)
not_fact code.Kind h = refl
not_fact code.Point h = refl
not_fact code.Event h = refl
not_fact code.Token h = refl
not_fact code.Span h = refl
not_fact code.Dist h = refl
not_fact code.Rule h = refl
not_fact code.Protection h = refl
not_fact code.Rivalry h = refl

module _ (n : List ℕ) (ps : List Premise) (distinct : IsDistinct same_name (keys_of (placed 0 ps))) where
  -- where no name of a premise is found, no premise has the name
  pub premise_absent : ((s : Sort) (k : ℕ) → lookup (same_name n) (placed 0 ps) ≡ Some (s, k) → is_fact s ≡ true) → premise_in ps n ≡ None
  premise_absent none = by (premise_in ps n) refl
    where
      by : (o : Option Premise) → premise_in ps n ≡ o → premise_in ps n ≡ None
      by None e = e
      by (Some p) e =
          let (k, at) = premise_placed n 0 ps p e in
          let fact : is_fact (own_sort p) ≡ true = none (own_sort p) k (lookup-from_Contains nat_list_eq_equiv n (own_sort p, k) (placed 0 ps) distinct at) in
          let no_fact : is_fact (own_sort p) ≡ false = own_sort_no_fact p in
          cc

  -- where no fact is found, no class has it
  pub class_absent : ((s : Sort) (k : ℕ) → lookup (same_name n) (placed 0 ps) ≡ Some (s, k) → is_fact s ≡ false) → class_in ps n ≡ None
  class_absent none = by (class_in ps n) refl
    where
      by : (o : Option (List ℕ)) → class_in ps n ≡ o → class_in ps n ≡ None
      by None e = e
      by (Some c) e =
          let (k, at) = fact_placed n 0 ps c e in
          let no_fact : true ≡ false = none a_fact k (lookup-from_Contains nat_list_eq_equiv n (a_fact, k) (placed 0 ps) distinct at) in
          cc
