-- What a well-named list declares under the name of a premise, and of a protection.
use Rattle.std.proofs.Common.{◌≡◌, ◌≢◌, ◌∙◌, ℕ, Bool, true, false, ◌||◌, cond, List, [], ◌∷◌, ◌++◌, refl, sym, ap, subst, inl, inr}
use Rattle.std.specs.Prelude.{Some}
use Rattle.std.specs.List.{list_any}
use Rattle.std.specs.Option.{option_map}
use Rattle.tmm_model.specs.declared.point.PointName.{PointName}
use Rattle.tmm_model.specs.declared.premise.Premise.{Premise}
use Rattle.tmm_model.specs.declared.premise.Premise.TheVariants.{Class, Kind, Point, Event, Token, Span, Dist, Rule, Protect, Against}
use Rattle.tmm_model.specs.Erasure.{is_among}
use Rattle.tmm_model.specs.Points.{same_name}
use Rattle.tmm_model.specs.Sorts.{a_fact, a_protection, sort_in}
use Rattle.tmm_model.specs.Standing.{name_of, premise_in}
use Rattle.tmm_model.specs.Verdicts.{words_known}
use Rattle.list_theory.specs.WellNamed.{AllFollow, IsWellNamed}
use Rattle.list_theory.proofs.Elements.{In}
use Rattle.list_theory.proofs.KnownNames.{own_new, finds}
use Rattle.list_theory.proofs.WellNamed.{words_known-append}
use Rattle.std.proofs.lemmas.List.Folds.{list_any-append}
use Rattle.premise_list.specs.Words.{facts_of, own_sort}
use Rattle.premise_list.proofs.Facts.{sort_in-cons}
use Rattle.repairs.specs.Repairs.{protects}
use Rattle.repairs.proofs.Changed.{not_both}
use Rattle.repairs.proofs.FreeNames.{known_cons, or_true}

-- no premise has a name that is known before it
fresh : (earlier ps : List Premise) → AllFollow earlier ps → (p : Premise) → In p ps → is_among (words_known earlier) (name_of p) ≡ true → ⊥
fresh earlier [] follow p at known = absurd at
fresh earlier (o ∷ ps) follow p (inl is) known =
    not_both (is_among (words_known earlier) (name_of p)) known (subst (λ q. is_among (words_known earlier) (name_of q) ≡ false) is (own_new earlier o follow.0))
fresh earlier (o ∷ ps) follow p (inr at) known =
    fresh (earlier ++ o ∷ []) ps follow.1 p at
    (ap (λ ws. is_among ws (name_of p)) (words_known-append earlier (o ∷ [])) ∙ list_any-append (same_name (name_of p)) (words_known earlier) (words_known (o ∷ [])) ∙ ap (λ b. b || is_among (words_known (o ∷ [])) (name_of p)) known)

sort_after : (earlier ps : List Premise) → AllFollow earlier ps → (n : List ℕ) (p : Premise) → premise_in ps n ≡ Some p → sort_in ps n ≡ Some (own_sort p)
sort_after earlier [] follow n p e = cc
sort_after earlier (o ∷ ps) follow n p e =
    sort_in-cons n o ps ∙ by (same_name n (name_of o)) (list_any (same_name n) (facts_of o)) refl refl (sort_after (earlier ++ o ∷ []) ps follow.1 n p) e
  where
    by : (a b : Bool) → same_name n (name_of o) ≡ a → list_any (same_name n) (facts_of o) ≡ b → (premise_in ps n ≡ Some p → sort_in ps n ≡ Some (own_sort p)) → cond a (Some o) (premise_in ps n) ≡ Some p
        → cond a (Some (own_sort o)) (cond b (Some a_fact) (sort_in ps n)) ≡ Some (own_sort p)
    by true b one fact rest e = ap (option_map own_sort) e
    by false false one fact rest e = rest e
    by false true one fact rest e =
        let (at, named) = finds ps n p e in
        let here : is_among (words_known (o ∷ [])) n ≡ true = known_cons n o [] ∙ (λ i. one i || (fact i || false)) in
        let known : is_among (words_known (earlier ++ o ∷ [])) n ≡ true =
        ap (λ ws. is_among ws n) (words_known-append earlier (o ∷ [])) ∙ list_any-append (same_name n) (words_known earlier) (words_known (o ∷ [])) ∙ ap (λ b. is_among (words_known earlier) n || b) here ∙ or_true (is_among (words_known earlier) n) in
        absurd (fresh (earlier ++ o ∷ []) ps follow.1 p at (subst (λ m. is_among (words_known (earlier ++ o ∷ [])) m ≡ true) (sym named) known))

-- **The name of a premise is declared as what the premise is.**
pub sort_found : (ps : List Premise) → IsWellNamed ps → (n : List ℕ) (p : Premise) → premise_in ps n ≡ Some p → sort_in ps n ≡ Some (own_sort p)
sort_found ps named n p e = sort_after [] ps named n p e

protects_by_sort : (p : Premise) → own_sort p ≡ a_protection → protects p ≡ true
protects_by_sort (Protect name fact from to) e = refl
protects_by_sort (Class name facts) e = cc
protects_by_sort (Kind name) e = cc
protects_by_sort (Point name) e = cc
protects_by_sort (Event name kind) e = cc
protects_by_sort (Token name fact) e = cc
protects_by_sort (Span name fact) e = cc
protects_by_sort (Dist name from to lo hi) e = cc
protects_by_sort (Rule name trigger lo hi effect given unless_facts) e = cc
protects_by_sort (Against name one other) e = cc

-- **What is declared as a protection is one.**
pub protection_found : (ps : List Premise) (n : List ℕ) → sort_in ps n ≡ Some a_protection → (p : Premise) × (premise_in ps n ≡ Some p) × (protects p ≡ true)
protection_found [] n e = cc
protection_found (o ∷ ps) n e = by (same_name n (name_of o)) (list_any (same_name n) (facts_of o)) (protection_found ps n) (sym (sort_in-cons n o ps) ∙ e)
  where
    by : (a b : Bool) → (sort_in ps n ≡ Some a_protection → (p : Premise) × (premise_in ps n ≡ Some p) × (protects p ≡ true))
        → cond a (Some (own_sort o)) (cond b (Some a_fact) (sort_in ps n)) ≡ Some a_protection → (p : Premise) × (cond a (Some o) (premise_in ps n) ≡ Some p) × (protects p ≡ true)
    by true b rest e = let one : own_sort o ≡ a_protection = cc in (o, refl, protects_by_sort o one)
    by false true rest e = cc
    by false false rest e = rest e

pub no_protection : (ps : List Premise) (n : List ℕ) → ((p : Premise) → premise_in ps n ≡ Some p → protects p ≡ true → ⊥) → sort_in ps n ≢ Some a_protection
no_protection ps n none e = let (p, is, protection) = protection_found ps n e in none p is protection

-- a protection has the name under which it is found
pub own_protection : (ps : List Premise) (n name fact : List ℕ) (from to : PointName) → premise_in ps n ≡ Some (Protect name fact from to) → premise_in ps n ≡ Some (Protect n fact from to)
own_protection ps n name fact from to e = e ∙ ap (λ m. Some (Protect m fact from to)) (finds ps n (Protect name fact from to) e).1

-- what is of no other form is no protection
pub protects_not : (p : Premise) → ((name fact : List ℕ) (from to : PointName) → p ≡ Protect name fact from to → ⊥) → protects p ≡ true → ⊥
protects_not (Protect name fact from to) never e = never name fact from to refl
protects_not (Class name facts) never e = cc
protects_not (Kind name) never e = cc
protects_not (Point name) never e = cc
protects_not (Event name kind) never e = cc
protects_not (Token name fact) never e = cc
protects_not (Span name fact) never e = cc
protects_not (Dist name from to lo hi) never e = cc
protects_not (Rule name trigger lo hi effect given unless_facts) never e = cc
protects_not (Against name one other) never e = cc
