-- Dates of effects, as the code works them out.
use Rattle.std.proofs.Common.{◌≡◌, ◌∙◌, ℕ, true, false, sym, subst, arith, w64, to_z, of_z}
use Rattle.std.proofs.lemmas.Int.{ints, to_z-of_z}
use Rattle.std.specs.Prelude.{Option, Some, None, is_none, ℤ, pos, ◌+ℤ◌, ◌≤ℤ◌, ◌<ℤ◌, int_le, FitsSigned, List}
use Rattle.std.specs.List.{Contains}
use Rattle.tmm_model.specs.Beliefs.{due, rules_at}
use Rattle.tmm_model.specs.Moments.{early, rule_of}
use Rattle.tmm_model.specs.Standing.{Standing, far_in}
use Rattle.belief_theory.proofs.SoundBeliefs.{sound_timed}
use Rattle.dist_net.specs.Net.{Net}
use Rattle.spots.specs.Forest.{Forest, IsLive, moment_at}
use Rattle.spots.specs.OfLists.{IsForestOf}
use Rattle.spots.specs.Spots.{node_early}
use Rattle.spots.proofs.Seen.{early_is, occurs_at}
use Rattle.projection.specs.Decisions.{IsDueBy}

-- the sum of two numbers as the code has them
pub due_seen : (h g : ℕ) (a b x y : ℤ) (r : Option ℕ) → FitsSigned w64 a → FitsSigned w64 b → h ≡ g → a ≡ x → b ≡ y
    → IsDueBy h (to_z w64 (of_z w64 a) +ℤ to_z w64 (of_z w64 b)) r → IsDueBy g (x +ℤ y) r
due_seen h g a b x y r fits_a fits_b same_h same_a same_b is =
    let one : to_z w64 (of_z w64 a) ≡ x = to_z-of_z w64 a fits_a ∙ same_a in
    let two : to_z w64 (of_z w64 b) ≡ y = to_z-of_z w64 b fits_b ∙ same_b in
    subst (λ n. IsDueBy n (x +ℤ y) r) same_h (subst (λ z. IsDueBy h (x +ℤ z) r) two (subst (λ z. IsDueBy h (z +ℤ to_z w64 (of_z w64 b)) r) one is))

-- no node begins before date 0
pub early_at : (s : Standing) (net : Net) (f : Forest) → IsForestOf s net f → (x : ℕ) → IsLive f x → pos 0 ≤ℤ node_early net f x
early_at s net f seen x live =
    subst (λ z. pos 0 ≤ℤ z) (sym (early_is s net f seen x live)) ((sound_timed s seen.network.sound).not_before_start (moment_at f x) (occurs_at s net f seen x live))

-- a date that is told is by the horizon
pub told_in_time : (h : ℕ) (z : ℤ) (o : Option ℕ) → IsDueBy h z o → is_none o ≡ false → z ≤ℤ pos h
told_in_time h z None is e = cc
told_in_time h z (Some d) is e = subst (λ w. w ≤ℤ pos h) (sym is.0) (omega (arith, ints, is.1))

-- a date that isn't told is after the horizon
pub untold_late : (h : ℕ) (z : ℤ) (o : Option ℕ) → IsDueBy h z o → is_none o ≡ true → pos h <ℤ z
untold_late h z None is e = is
untold_late h z (Some d) is e = cc

pub past_horizon : (h : ℕ) (z : ℤ) → pos h <ℤ z → int_le z (pos h) ≡ false
past_horizon h z late = grind (arith, ints)

-- ---- as the code has them

-- the earliest date of an event
module _ (s : Standing) (net : Net) (f : Forest) (seen : IsForestOf s net f) (x : ℕ) (live : IsLive f x) (date : ℤ) (fits : FitsSigned w64 date) (is : date ≡ node_early net f x) where
  pub early_seen : pos 0 ≤ℤ to_z w64 (of_z w64 date)
  early_seen = subst (λ z. pos 0 ≤ℤ z) (sym (to_z-of_z w64 date fits ∙ is)) (early_at s net f seen x live)

  -- and the least delay of a rule on it
  module _ (r : List ℕ) (lo : ℤ) (fits_lo : FitsSigned w64 lo) (lo_is : lo ≡ (rule_of s r).lo) where
    pub delay_seen : Contains (rules_at s (moment_at f x)) r → pos 1 ≤ℤ to_z w64 (of_z w64 lo)
    delay_seen stands = subst (λ z. pos 1 ≤ℤ z) (sym (to_z-of_z w64 lo fits_lo ∙ lo_is)) ((sound_timed s seen.network.sound).delayed (moment_at f x) r stands)

    -- give the date of its effect
    pub due_is : (h : ℕ) → h ≡ s.horizon → (told : Option ℕ) → IsDueBy h (to_z w64 (of_z w64 date) +ℤ to_z w64 (of_z w64 lo)) told → IsDueBy s.horizon (due s (far_in s.premises) (moment_at f x) r) told
    due_is h same told = due_seen h s.horizon date lo (early s (far_in s.premises) (moment_at f x)) (rule_of s r).lo told fits fits_lo same (is ∙ early_is s net f seen x live) lo_is
