-- What an accepted edit leaves of a kept list is kept.
use Rattle.std.proofs.Common.{◌≡◌, ℕ, ◌≤◌, Bool, true, false, List, [], ◌∷◌, ◌++◌, length, sym, subst, arith}
use Rattle.std.specs.List.{All, flat_map}
use Rattle.std.proofs.lemmas.List.{length-append}
use Rattle.std.proofs.lemmas.List.Elements.{All-contains, All-nil, All-push}
use Rattle.tmm_model.specs.declared.point.PointName.TheVariants.{Start}
use Rattle.tmm_model.specs.declared.premise.Edit.{Edit}
use Rattle.tmm_model.specs.declared.premise.Edit.TheVariants.{Add, Erase, Horizon, Upgrade}
use Rattle.tmm_model.specs.declared.premise.Premise.{Premise}
use Rattle.tmm_model.specs.Answers.{size}
use Rattle.tmm_model.specs.Edits.{next_list, upgraded}
use Rattle.tmm_model.specs.Erasure.{falls, kept_after, kept_without}
use Rattle.belief_theory.specs.KeptLists.{IsKept}
use Rattle.tmm_model.specs.Kept.{IsAccepted}
use Rattle.tmm_model.specs.declared.version.Version.TheVariants.{One, Two}
use Rattle.tmm_model.specs.Lines.{IsWellFormedPremise, IsWellFormedEdit, IsOfVersion, IsEditOf}
use Rattle.tmm_model.specs.Maps.{built}
use Rattle.tmm_model.specs.Sorts.{declared_by}
use Rattle.tmm_model.specs.Standing.{Standing, empty_list, points_of}
use Rattle.list_theory.proofs.Adding.{may_be_added}
use Rattle.list_theory.proofs.Opening.{opened_at}
use Rattle.walk_theory.proofs.Dates.{HasDates-nil}
use Rattle.list_theory.proofs.Erasure.{kept_before, kept_without-IsWellNamed}
use Rattle.list_theory.proofs.Elements.{In-from_Contains, Contains-from_In}
use Rattle.walk_theory.proofs.Members.{All-from_contains}
use Rattle.list_theory.proofs.WellNamed.{IsWellNamed-push}
use Rattle.belief_theory.proofs.FarTables.{of_map}

-- ---- what an erasure leaves

-- what holds of all premises holds of those that stay
pub all_without : (P : Premise → Type 0) (name : List ℕ) (ps : List Premise) → All P ps → All P (kept_without name ps)
all_without P name ps all = All-from_contains P (kept_without name ps)
    (λ q m. All-contains P ps q all (Contains-from_In ps q (kept_before name [] ps q (In-from_Contains (kept_without name ps) q m))))

-- no more stay than there are
kept_after-fewer : (n : List ℕ) (gone : List (List ℕ)) (ps : List Premise) → length (kept_after n gone ps) ≤ length ps
kept_after-fewer n gone [] = omega arith
kept_after-fewer n gone (p ∷ ps) = by (kept_after-fewer n (declared_by p ++ gone) ps) (kept_after-fewer n gone ps) (falls n gone p)
  where
    by : length (kept_after n (declared_by p ++ gone) ps) ≤ length ps → length (kept_after n gone ps) ≤ length ps → (b : Bool)
        → length (elim b as (λ _. List Premise) [ true ↦ kept_after n (declared_by p ++ gone) ps | false ↦ p ∷ kept_after n gone ps ]) ≤ length (p ∷ ps)
    by one two true = omega arith
    by one two false = omega arith

-- nor have they more points
kept_points-fewer : (n : List ℕ) (gone : List (List ℕ)) (ps : List Premise) → length (flat_map points_of (kept_after n gone ps)) ≤ length (flat_map points_of ps)
kept_points-fewer n gone [] = omega arith
kept_points-fewer n gone (p ∷ ps) = by (kept_points-fewer n (declared_by p ++ gone) ps) (kept_points-fewer n gone ps) (falls n gone p)
  where
    by : length (flat_map points_of (kept_after n (declared_by p ++ gone) ps)) ≤ length (flat_map points_of ps)
        → length (flat_map points_of (kept_after n gone ps)) ≤ length (flat_map points_of ps) → (b : Bool)
        → length (flat_map points_of (elim b as (λ _. List Premise) [ true ↦ kept_after n (declared_by p ++ gone) ps | false ↦ p ∷ kept_after n gone ps ])) ≤ length (flat_map points_of (p ∷ ps))
    by one two true = omega (arith, length-append (points_of p) (flat_map points_of ps), one)
    by one two false = omega (arith, length-append (points_of p) (flat_map points_of ps), length-append (points_of p) (flat_map points_of (kept_after n gone ps)), two)

-- ---- what is kept

empty_is_small : size (built empty_list) ≡ 0
empty_is_small = of_map size empty_list

pub empty_is_kept : IsKept empty_list
empty_is_kept = record {
  sound = record { well_formed = All-nil IsWellFormedPremise; well_named = tt; dates = HasDates-nil Start };
  versioned = All-nil (IsOfVersion One);
  horizon = omega arith;
  premises = omega arith;
  points = omega arith;
  small = omega (arith, empty_is_small);
}

-- the list that version 2 opens with
pub upgraded_is_small : size (built (upgraded empty_list)) ≡ 0
upgraded_is_small = of_map size (upgraded empty_list)

upgraded_is_kept : IsKept (upgraded empty_list)
upgraded_is_kept = record {
  sound = record { well_formed = All-nil IsWellFormedPremise; well_named = tt; dates = HasDates-nil Start };
  versioned = All-nil (IsOfVersion Two);
  horizon = omega arith;
  premises = omega arith;
  points = omega arith;
  small = omega (arith, upgraded_is_small);
}

pub stays_kept : (s : Standing) (edit : Edit) → IsKept s → IsWellFormedEdit edit → IsEditOf s.version edit → IsAccepted s edit → IsKept (next_list s edit)
stays_kept s (Add p) kept formed versioned accepted =
    let may = may_be_added s.premises p accepted.no_cause in
    record {
      sound = record {
        well_formed = All-push IsWellFormedPremise s.premises p kept.sound.well_formed formed;
        well_named = IsWellNamed-push s.premises p kept.sound.well_named (record { new = may.names; known = may.uses });
        dates = accepted.dates;
      };
      versioned = All-push (IsOfVersion s.version) s.premises p kept.versioned versioned;
      horizon = kept.horizon;
      premises = omega (arith, length-append s.premises (p ∷ []), may.few);
      points = may.room;
      small = accepted.small;
    }
stays_kept s (Erase name) kept formed versioned accepted = record {
  sound = record {
    well_formed = all_without IsWellFormedPremise name s.premises kept.sound.well_formed;
    well_named = kept_without-IsWellNamed name s.premises kept.sound.well_named;
    dates = accepted.dates;
  };
  versioned = all_without (IsOfVersion s.version) name s.premises kept.versioned;
  horizon = kept.horizon;
  premises = omega (arith, kept_after-fewer name [] s.premises, kept.premises);
  points = omega (arith, kept_points-fewer name [] s.premises, kept.points);
  small = accepted.small;
}
stays_kept s (Horizon n) kept formed versioned accepted = record {
  sound = record { well_formed = kept.sound.well_formed; well_named = kept.sound.well_named; dates = accepted.dates };
  versioned = kept.versioned;
  horizon = formed;
  premises = kept.premises;
  points = kept.points;
  small = accepted.small;
}
stays_kept s Upgrade kept formed versioned accepted = subst (λ l. IsKept (upgraded l)) (sym (opened_at s accepted.no_cause)) upgraded_is_kept
