-- The report of a standing protection is found by its name, and none under a name that no premise
-- has.
use Rattle.std.proofs.Common.{◌≡◌, ◌∙◌, ℕ, Bool, true, false, List, [], ◌∷◌, cond, refl, sym, ap, subst, inl, inr}
use Rattle.std.specs.Prelude.{Option, Some, None}
use Rattle.std.specs.List.{filter_map, cons_option}
use Rattle.std.specs.Cmp.Lexicographic.{bytes_decides}
use Rattle.tmm_model.specs.declared.premise.Premise.{Premise}
use Rattle.tmm_model.specs.declared.premise.Premise.TheVariants.{Class, Kind, Point, Event, Token, Span, Dist, Rule, Protect, Against}
use Rattle.tmm_model.specs.Answers.{Finding, does_hold, ask, broken, reports}
use Rattle.tmm_model.specs.Maps.{TimeMap}
use Rattle.tmm_model.specs.Moments.{At}
use Rattle.tmm_model.specs.Points.{same_name}
use Rattle.tmm_model.specs.Standing.{name_of, premise_in}
use Rattle.list_theory.specs.WellNamed.{IsWellNamed}
use Rattle.list_theory.proofs.Elements.{In}
use Rattle.list_theory.proofs.KnownNames.{found}
use Rattle.protections.specs.Reported.{report_in}

-- a report has the name of its protection
pub report_named : (m : TimeMap) (o : Premise) (r : List ℕ × Finding) → broken m o ≡ Some r → r.0 ≡ name_of o
report_named m (Protect name fact from to) r e = by (ask m fact (At from) (At to)) (does_hold (ask m fact (At from) (At to))) e
  where
    by : (found : Finding) (b : Bool) → (elim b as (λ _. Option (List ℕ × Finding)) [ true ↦ None | false ↦ Some (name, found) ]) ≡ Some r → r.0 ≡ name
    by found true e = cc
    by found false e = let one : (name, found) ≡ r = cc in ap (λ (z : List ℕ × Finding). z.0) (sym one)
report_named m (Class name facts) r e = cc
report_named m (Kind name) r e = cc
report_named m (Point name) r e = cc
report_named m (Event name kind) r e = cc
report_named m (Token name fact) r e = cc
report_named m (Span name fact) r e = cc
report_named m (Dist name from to lo hi) r e = cc
report_named m (Rule name trigger lo hi effect given unless_facts) r e = cc
report_named m (Against name one other) r e = cc

module _ (m : TimeMap) (p : Premise) where
  -- of these premises none but p has its name
  abbrev pub IsOnly : List Premise → Type 0
  IsOnly ps = (o : Premise) → In o ps → name_of o ≡ name_of p → o ≡ p

  abbrev found_in : List Premise → Option (List ℕ × Finding)
  found_in ps = report_in (filter_map (broken m) ps) (name_of p)

  -- a report under the name of p is that of p
  own_report : (o : Premise) (r : List ℕ × Finding) → broken m o ≡ Some r → (name_of o ≡ name_of p → o ≡ p) → same_name (name_of p) r.0 ≡ true → broken m p ≡ Some r
  own_report o r e only named = sym (ap (broken m) (only (sym (report_named m o r e) ∙ sym ((bytes_decides (name_of p) r.0).0 named)))) ∙ e

  none_found : broken m p ≡ None → (ps : List Premise) → IsOnly ps → found_in ps ≡ None
  none_found none [] only = refl
  none_found none (o ∷ ps) only = by (broken m o) refl (none_found none ps (λ q at. only q (inr at)))
    where
      by : (r : Option (List ℕ × Finding)) → broken m o ≡ r → found_in ps ≡ None → report_in (cons_option r (filter_map (broken m) ps)) (name_of p) ≡ None
      by None e again = again
      by (Some r) e again = tested (same_name (name_of p) r.0) refl
        where
          tested : (b : Bool) → same_name (name_of p) r.0 ≡ b → cond b (Some r) (found_in ps) ≡ None
          tested true named = let both : None ≡ Some r = sym none ∙ own_report o r e (only o (inl refl)) named in cc
          tested false other = again

  some_found : (r : List ℕ × Finding) → broken m p ≡ Some r → (ps : List Premise) → IsOnly ps → In p ps → found_in ps ≡ Some r
  some_found r some [] only at = absurd at
  some_found r some (o ∷ ps) only at = by (broken m o) refl (some_found r some ps (λ q there. only q (inr there))) at
    where
      by : (q : Option (List ℕ × Finding)) → broken m o ≡ q → (In p ps → found_in ps ≡ Some r) → In p (o ∷ ps) → report_in (cons_option q (filter_map (broken m) ps)) (name_of p) ≡ Some r
      by None e again (inl is) = let both : None ≡ Some r = sym e ∙ ap (broken m) is ∙ some in cc
      by None e again (inr there) = again there
      by (Some q) e again at = tested (same_name (name_of p) q.0) refl at
        where
          tested : (b : Bool) → same_name (name_of p) q.0 ≡ b → In p (o ∷ ps) → cond b (Some q) (found_in ps) ≡ Some r
          tested true named here = sym (own_report o q e (only o (inl refl)) named) ∙ some
          tested false other (inr there) = again there
          tested false other (inl is) =
              let named : same_name (name_of p) q.0 ≡ true = (bytes_decides (name_of p) q.0).1 (sym (report_named m o q e ∙ ap name_of is)) in
              cc

-- names tell premises apart
pub only_one : (ps : List Premise) → IsWellNamed ps → (p : Premise) → In p ps → (o : Premise) → In o ps → name_of o ≡ name_of p → o ≡ p
only_one ps named p at o there same =
    let first : premise_in ps (name_of p) ≡ Some o = subst (λ n. premise_in ps n ≡ Some o) same (found ps named o there) in
    let both : Some o ≡ Some p = sym first ∙ found ps named p at in
    cc

-- **What is reported under the name of a standing protection is its report**, none where it is not
-- broken.
pub report_found : (m : TimeMap) → IsWellNamed m.list.premises → (p : Premise) → In p m.list.premises → report_in (reports m) (name_of p) ≡ broken m p
report_found m named p at = by (broken m p) refl
  where
    only : IsOnly m p m.list.premises
    only = only_one m.list.premises named p at

    by : (r : Option (List ℕ × Finding)) → broken m p ≡ r → found_in m p m.list.premises ≡ r
    by None e = none_found m p e m.list.premises only
    by (Some r) e = some_found m p r e m.list.premises only at

-- nothing is reported under a name that no premise has
pub none_under : (m : TimeMap) (name : List ℕ) (ps : List Premise) → ((o : Premise) → In o ps → name_of o ≡ name → ⊥) → report_in (filter_map (broken m) ps) name ≡ None
none_under m name [] never = refl
none_under m name (o ∷ ps) never = by (broken m o) refl (none_under m name ps (λ q at. never q (inr at)))
  where
    by : (r : Option (List ℕ × Finding)) → broken m o ≡ r → report_in (filter_map (broken m) ps) name ≡ None → report_in (cons_option r (filter_map (broken m) ps)) name ≡ None
    by None e again = again
    by (Some r) e again = tested (same_name name r.0) refl
      where
        tested : (b : Bool) → same_name name r.0 ≡ b → cond b (Some r) (report_in (filter_map (broken m) ps) name) ≡ None
        tested true named = absurd (never o (inl refl) (sym (report_named m o r e) ∙ sym ((bytes_decides name r.0).0 named)))
        tested false other = again
