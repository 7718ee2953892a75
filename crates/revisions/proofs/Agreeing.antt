-- Up to the date from which all decisions wait, the live nodes are those that are believed in the
-- end.
use Rattle.std.proofs.Common.{◌≡◌, ◌∙◌, ℕ, zero, suc, List, sym, ap, inl, inr, arith}
use Rattle.std.proofs.lemmas.Int.{ints}
use Rattle.std.specs.Prelude.{◌↔◌, ℤ, pos, negsuc, ◌≤ℤ◌, ◌<ℤ◌}
use Rattle.std.specs.List.{Contains}
use Rattle.belief_theory.specs.Outcomes.{Outcome}
use Rattle.tmm_model.specs.Moments.{Moment, At, After}
use Rattle.revisions.specs.Revisions.{Revision, is_firing, IsOf, IsLawful}
use Rattle.revisions.specs.Keeping.{IsKeeping}

module _ (g : Revision) (laws : IsLawful g) where
  -- what is believed occurs
  pub believed_of : (x : Moment) → Contains g.believed x → IsOf g x
  believed_of (At p) at = (laws.right (At p)).0 at
  believed_of (After t r) at = let f = (laws.right (After t r)).0 at in (believed_of t f.0, f.1)

  pub above : (z : ℤ) → (n : ℕ) × (z <ℤ pos n)
  above (pos m) = (suc m, omega (arith, ints))
  above (negsuc m) = (0, omega (arith, ints))

  module _ (b : List Moment) (kept : Moment → List ℕ → Outcome) (queued : Moment → List ℕ → Type 0) (taken : List (Moment × List ℕ)) (d : ℤ)
      (k : IsKeeping g b kept queued taken d) where
    -- what is live occurs
    pub live_of : (x : Moment) → Contains b x → IsOf g x
    live_of (At p) at = (k.root p).0 at
    live_of (After t r) at = let c = k.child t r at in (live_of t c.0, c.1)

    module _ (e : ℤ) (least : (t : Moment) (r : List ℕ) → queued t r → e ≤ℤ g.early t) where
      abbrev AgreeTo : ℕ → Type 0
      AgreeTo n = (x : Moment) → IsOf g x → g.early x <ℤ pos n → g.early x ≤ℤ e → Contains b x ↔ Contains g.believed x

      sooner : (t : Moment) (r : List ℕ) → IsOf g t → Contains (g.rules t) r → (n : ℕ) → g.early (After t r) <ℤ pos (suc n) → g.early t <ℤ pos n
      sooner t r of stands n below = by (g.early t) (g.early (After t r)) (laws.later t r of stands) below
        where
          by : (a f : ℤ) → a <ℤ f → f <ℤ pos (suc n) → a <ℤ pos n
          by a f l h = omega (arith, ints)

      within : (t : Moment) (r : List ℕ) → IsOf g t → Contains (g.rules t) r → g.early (After t r) ≤ℤ e → g.early t <ℤ e
      within t r of stands by_e = by (g.early t) (g.early (After t r)) (laws.later t r of stands) by_e
        where
          by : (a f : ℤ) → a <ℤ f → f ≤ℤ e → a <ℤ e
          by a f l h = omega (arith, ints)

      step : (n : ℕ) → AgreeTo n → AgreeTo (suc n)
      step n a (At p) of below by_e = (λ at. (laws.right (At p)).1 ((k.root p).0 at), λ at. (k.root p).1 ((laws.right (At p)).0 at))
      step n a (After t r) of below by_e = (into, back)
        where
          early_t : g.early t <ℤ pos n
          early_t = sooner t r of.0 of.1 n below

          before_e : g.early t <ℤ e
          before_e = within t r of.0 of.1 by_e

          agree_x : (x : Moment) → IsOf g x → g.early x ≤ℤ g.early t → Contains b x ↔ Contains g.believed x
          agree_x x of_x by_t = a x of_x (below_n (g.early x) (g.early t) by_t early_t) (below_e (g.early x) (g.early t) by_t before_e)
            where
              below_n : (z w : ℤ) → z ≤ℤ w → w <ℤ pos n → z <ℤ pos n
              below_n z w h l = omega (arith, ints)

              below_e : (z w : ℤ) → z ≤ℤ w → w <ℤ e → z ≤ℤ e
              below_e z w h l = omega (arith, ints)

          here : Contains b t ↔ Contains g.believed t
          here = agree_x t of.0 (itself (g.early t))
            where
              itself : (z : ℤ) → z ≤ℤ z
              itself z = omega (arith, ints)

          alike : g.outcome b t r ≡ g.outcome g.believed t r
          alike = laws.rests b g.believed live_of believed_of t r of.0 of.1 (λ x by_t reads. (λ at. (agree_x x (live_of x at) by_t).0 at, λ at. (agree_x x (believed_of x at) by_t).1 at))

          made : Contains b t → kept t r ≡ g.outcome g.believed t r
          made at = elim (k.right t r at of.1) [ inl waits ↦ absurd (late (g.early t) (least t r waits) before_e) | inr is ↦ is ∙ alike ]
            where
              late : (z : ℤ) → e ≤ℤ z → z <ℤ e → ⊥
              late z h l = omega (arith, ints)

          into : Contains b (After t r) → Contains g.believed (After t r)
          into at =
              let c = k.child t r at in
              (laws.right (After t r)).1 (here.0 c.0, of.1, ap is_firing (sym (made c.0)) ∙ (k.fires t r c.0 of.1).0 at)

          back : Contains g.believed (After t r) → Contains b (After t r)
          back at =
              let f = (laws.right (After t r)).0 at in
              let live = here.1 f.0 in
              (k.fires t r live of.1).1 (ap is_firing (made live) ∙ f.2)

      agree : (n : ℕ) → AgreeTo n
      agree zero x of below by_e = absurd (never (g.early x) (laws.not_before_start x of) below)
        where
          never : (z : ℤ) → pos 0 ≤ℤ z → z <ℤ pos 0 → ⊥
          never z h l = omega (arith, ints)
      agree (suc n) x of below by_e = step n (agree n) x of below by_e

      -- **The live nodes up to the date are final.**
      pub final : (x : Moment) → IsOf g x → g.early x ≤ℤ e → Contains b x ↔ Contains g.believed x
      final x of by_e = let (n, below) = above (g.early x) in agree n x of below by_e

      -- and so are the outcomes of decisions on them
      pub final_outcome : (t : Moment) (r : List ℕ) → IsOf g t → Contains (g.rules t) r → g.early t ≤ℤ e → g.outcome b t r ≡ g.outcome g.believed t r
      final_outcome t r of stands by_e =
          laws.rests b g.believed live_of believed_of t r of stands
          (λ x by_t reads.
          (λ at. (final x (live_of x at) (trans_le (g.early x) (g.early t) by_t by_e)).0 at, λ at. (final x (believed_of x at) (trans_le (g.early x) (g.early t) by_t by_e)).1 at))
        where
          trans_le : (z w : ℤ) → z ≤ℤ w → w ≤ℤ e → z ≤ℤ e
          trans_le z w h l = omega (arith, ints)

    module _ (none : (t : Moment) (r : List ℕ) → queued t r → ⊥) where
      at_end : (x : Moment) → Contains b x ↔ Contains g.believed x
      at_end x = (λ at. (final (g.early x) (λ t r q. absurd (none t r q)) x (live_of x at) (itself (g.early x))).0 at, λ at. (final (g.early x) (λ t r q. absurd (none t r q)) x (believed_of x at) (itself (g.early x))).1 at)
        where
          itself : (z : ℤ) → z ≤ℤ z
          itself z = omega (arith, ints)

      rows_at_end : (t : Moment) (r : List ℕ) → Contains b t → Contains (g.rules t) r → kept t r ≡ g.outcome g.believed t r
      rows_at_end t r at stands =
          elim (k.right t r at stands) [
            | inl waits ↦ absurd (none t r waits)
            | inr is ↦ is ∙ final_outcome (g.early t) (λ u q w. absurd (none u q w)) t r (live_of t at) stands (itself (g.early t))
          ]
        where
          itself : (z : ℤ) → z ≤ℤ z
          itself z = omega (arith, ints)

      -- **Where none waits, the live nodes are those that are believed, and the rows have their
      -- outcomes.**
      pub ended : ((x : Moment) → Contains b x ↔ Contains g.believed x) × ((t : Moment) (r : List ℕ) → Contains b t → Contains (g.rules t) r → kept t r ≡ g.outcome g.believed t r)
      ended = (at_end, rows_at_end)
