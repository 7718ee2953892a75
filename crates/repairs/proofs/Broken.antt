-- What the reports on broken protections tell of a protection that is found under its name.
use Rattle.std.proofs.Common.{◌≡◌, ◌≢◌, ◌∙◌, ℕ, Bool, true, false, List, [], map, refl, sym, ap, subst}
use Rattle.std.specs.Prelude.{Option, Some, None, unwrap_or}
use Rattle.std.specs.List.{All, Contains}
use Rattle.std.proofs.lemmas.List.Elements.{All-contains}
use Rattle.tmm_model.specs.declared.answer.Report.{Report}
use Rattle.tmm_model.specs.declared.point.PointName.{PointName}
use Rattle.tmm_model.specs.declared.premise.Premise.{Premise}
use Rattle.tmm_model.specs.declared.premise.Premise.TheVariants.{Protect}
use Rattle.tmm_model.specs.Answers.{Finding, holds, fails, unordered, does_hold, ask, broken, reports, finding_of, report_of}
use Rattle.tmm_model.specs.Changes.{is_broken}
use Rattle.tmm_model.specs.Maps.{built}
use Rattle.tmm_model.specs.Moments.{At}
use Rattle.tmm_model.specs.Standing.{Standing, name_of, premise_in}
use Rattle.list_theory.specs.WellNamed.{IsWellNamed}
use Rattle.list_theory.proofs.Elements.{In, In-from_Contains, Contains-from_In, In-filter_map, filter_map-In, In-map, map-In}
use Rattle.list_theory.proofs.KnownNames.{found, finds}
use Rattle.repairs.specs.Repairs.{candidates_for, candidates_of, candidates_about}
use Rattle.repairs.proofs.Changed.{of_protection, named_protects, report_broken}

-- a report on the protection of this name: the candidates are those for what it tells, which is not
-- that the fact holds
pub record IsToldOf (s : Standing) (name : List ℕ) (from to : PointName) (r : Report) : Type 0 where
  pub answers : candidates_of s name ≡ candidates_for s from to (finding_of r.answer)
  pub fails : does_hold (finding_of r.answer) ≡ false
  pub broken : is_broken (built s) name ≡ true

module _ (s : Standing) (named : IsWellNamed s.premises) (name fact : List ℕ) (from to : PointName) (is : premise_in s.premises name ≡ Some (Protect name fact from to))
    (told : List Report) (tell : map report_of told ≡ reports (built s)) where
  abbrev answer : Finding
  answer = ask (built s) fact (At from) (At to)

  -- the candidates are those for the answer to the protection
  candidates : candidates_of s name ≡ candidates_for s from to answer
  candidates = ap (candidates_about s) is

  value : (found : Finding) (b : Bool) → does_hold found ≡ b → (other : List ℕ × Finding) → (elim b as (λ _. Option (List ℕ × Finding)) [ true ↦ None | false ↦ Some (name, found) ]) ≡ Some other
      → (other.1 ≡ found) × (does_hold other.1 ≡ false)
  value found true e other never = cc
  value found false e other same =
      let one : (name, found) ≡ other = cc in
      let second : other.1 ≡ found = sym (ap (λ (z : List ℕ × Finding). z.1) one) in
      (second, ap does_hold second ∙ e)

  told_of : (r : Report) → Contains told r → r.name ≡ name → IsToldOf s name from to r
  told_of r at same =
      let here : In (report_of r) (reports (built s)) = subst (In (report_of r)) tell (map-In report_of told r (In-from_Contains told r at)) in
      let (o, there, reported) = In-filter_map (broken (built s)) s.premises (report_of r) here in
      let own : name_of o ≡ name = (named_protects o r.name (of_protection (built s) o (report_of r) reported)).1 ∙ same in
      let one : Some (Protect name fact from to) ≡ Some o = sym is ∙ sym (ap (premise_in s.premises) own) ∙ found s.premises named o there in
      let whole : Protect name fact from to ≡ o = ap (λ (p : Option Premise). unwrap_or p (Protect name fact from to)) one in
      let asked : broken (built s) (Protect name fact from to) ≡ Some (report_of r) = ap (broken (built s)) whole ∙ reported in
      let (second, fail) = value answer (does_hold answer) refl (report_of r) asked in
      record {
        answers = candidates ∙ sym (ap (candidates_for s from to) second);
        fails = fail;
        broken = subst (λ n. is_broken (built s) n ≡ true) same (report_broken (built s) (report_of r) here);
      }

  none_told : All (λ (r : Report). r.name ≢ name) told → candidates_of s name ≡ []
  none_told none = candidates ∙ by answer refl
    where
      never : does_hold answer ≡ false → ⊥
      never fail =
          let asked : broken (built s) (Protect name fact from to) ≡ Some (name, answer) = ap (λ b. elim b as (λ _. Option (List ℕ × Finding)) [ true ↦ None | false ↦ Some (name, answer) ]) fail in
          let here : In (name, answer) (reports (built s)) = filter_map-In (broken (built s)) s.premises (Protect name fact from to) (name, answer) (finds s.premises name (Protect name fact from to) is).0 asked in
          let (r, at, same) = In-map report_of told (name, answer) (subst (In (name, answer)) (sym tell) here) in
          let own : r.name ≡ name = ap (λ (z : List ℕ × Finding). z.0) same in
          All-contains (λ (r : Report). r.name ≢ name) told r none (Contains-from_In told r at) own

      by : (found : Finding) → answer ≡ found → candidates_for s from to found ≡ []
      by (holds k) e = refl
      by (fails blames more) e = absurd (never (ap does_hold e))
      by unordered e = absurd (never (ap does_hold e))

-- What is found of a protection, where all is told of one list: its premises are well named, the
-- protection is found in it, and these are its reports.
module _ (s one other : Standing) (same : one ≡ s) (named : IsWellNamed one.premises) (alike : other ≡ s) (name : List ℕ) (from to : PointName)
    (finds_it : (fact : List ℕ) × (premise_in other.premises name ≡ Some (Protect name fact from to))) (items told : List Report) (shown : items ≡ told) (tell : map report_of told ≡ reports (built s)) where
  well_named : IsWellNamed s.premises
  well_named = subst (λ l. IsWellNamed l.premises) same named

  is : premise_in s.premises name ≡ Some (Protect name finds_it.0 from to)
  is = sym (ap (λ l. premise_in l.premises name) alike) ∙ finds_it.1

  tells : map report_of items ≡ reports (built s)
  tells = ap (map report_of) shown ∙ tell

  pub told_in : (r : Report) → Contains items r × (r.name ≡ name) → IsToldOf s name from to r
  told_in r (at, own) = told_of s well_named name finds_it.0 from to is items tells r at own

  -- **Where there is none it has no candidates.**
  pub none_in : All (λ (r : Report). r.name ≢ name) items → candidates_of s name ≡ []
  none_in none = none_told s well_named name finds_it.0 from to is items tells none
