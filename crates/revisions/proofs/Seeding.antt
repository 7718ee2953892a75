-- The loop begins with what it keeps.
use Rattle.std.proofs.Common.{◌≡◌, ◌∙◌, ℕ, true, List, [], sym, ap, inl, inr, arith}
use Rattle.std.proofs.lemmas.Bool.{both_ways, cases_Bool}
use Rattle.std.proofs.lemmas.Int.{ints}
use Rattle.std.specs.Prelude.{◌↔◌, ◌⊎◌, ℤ, pos, negsuc, ◌≤ℤ◌}
use Rattle.std.specs.List.{Contains}
use Rattle.belief_theory.specs.Outcomes.{Outcome}
use Rattle.tmm_model.specs.Moments.{Moment, At, After}
use Rattle.revisions.specs.Revisions.{Revision, is_firing, IsOf, IsLawful}
use Rattle.revisions.specs.Keeping.{IsKeeping, IsUntaken, Waits}
use Rattle.revisions.specs.Seeds.{IsSeeded}

module _ (g : Revision) (laws : IsLawful g) (b : List Moment) (kept : Moment → List ℕ → Outcome) (queued : Moment → List ℕ → Type 0) (s : IsSeeded g b kept queued) where
  seed_of : (x : Moment) → Contains b x → IsOf g x
  seed_of (At p) at = (s.root p).0 at
  seed_of (After t r) at = ((s.derived t r).0 at).1

  -- an old occurrence that occurs still is there
  there : (x : Moment) → Contains g.before x → IsOf g x → Contains b x
  there (At p) at of = (s.root p).1 of
  there (After t r) at of = (s.derived t r).1 (at, of)

  child : (t : Moment) (r : List ℕ) → Contains b (After t r) → Contains b t × Contains (g.rules t) r
  child t r at =
      let h = (s.derived t r).0 at in
      let was = (laws.was_right t r).0 h.0 in
      (there t (laws.was_live t r was.0) h.1.0, h.1.1)

  known : (x : Moment) → Contains b x → Contains g.before x ⊎ Contains g.believed x
  known (At p) at = inr ((laws.right (At p)).1 ((s.root p).0 at))
  known (After t r) at = inl ((s.derived t r).0 at).0

  fires : (t : Moment) (r : List ℕ) → Contains b t → Contains (g.rules t) r → Contains b (After t r) ↔ (is_firing (kept t r) ≡ true)
  fires t r at stands =
      elim (cases_Bool (g.was t r)) [
        | inl was ↦
            let same : kept t r ≡ g.was_outcome t r = s.old_rows t r at stands was in (
              λ h. ap is_firing same ∙ ((laws.was_right t r).0 ((s.derived t r).0 h).0).1,
              λ h. (s.derived t r).1 ((laws.was_right t r).1 (was, ap is_firing (sym same) ∙ h), (seed_of t at, stands)),
            )
        | inr new ↦ (
          λ h. absurd (both_ways (g.was t r) new ((laws.was_right t r).0 ((s.derived t r).0 h).0).0),
          λ h. absurd (both_ways (is_firing (kept t r)) (ap is_firing (s.new_rows t r at stands new).1) h),
        )
      ]

  right : (t : Moment) (r : List ℕ) → Contains b t → Contains (g.rules t) r → queued t r ⊎ (kept t r ≡ g.outcome b t r)
  right t r at stands =
      elim (cases_Bool (g.was t r)) [
        | inl was ↦ elim (s.right t r at stands was) [ inl waits ↦ inl waits | inr is ↦ inr (s.old_rows t r at stands was ∙ is) ]
        | inr new ↦ inl (s.new_rows t r at stands new).0
      ]

  first : (t : Moment) (r : List ℕ) → Contains b t → Contains (g.rules t) r → IsUntaken g kept queued t r
  first t r at stands =
      elim (cases_Bool (g.was t r)) [
        | inl was ↦ inl (was, s.old_rows t r at stands was)
        | inr new ↦ (let h = s.new_rows t r at stands new in inr (new, h.0, h.1))
      ]

  waits : (t : Moment) (r : List ℕ) → queued t r → Waits g b (negsuc 0) t r
  waits t r at =
      let h = s.waits t r at in
      record { live = h.0; stands = h.1; after = by (g.early t) (laws.not_before_start t (seed_of t h.0)); touched = s.touched t r at }
    where
      by : (z : ℤ) → pos 0 ≤ℤ z → negsuc 0 ≤ℤ z
      by z h = omega (arith, ints)

  -- **The loop begins with what it keeps.**
  pub seeded : IsKeeping g b kept queued [] (negsuc 0)
  seeded = record {
    root = s.root;
    child = child;
    known = known;
    fires = fires;
    right = right;
    first = λ t r at stands. inr (first t r at stands);
    waits = waits;
    made = λ t r at. absurd at;
    once = tt;
  }
