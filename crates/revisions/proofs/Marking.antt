-- Decisions that read what moved are marked: that suffices.
use Rattle.std.proofs.Common.{◌≡◌, ℕ, Bool, true, false, List, refl, sym, subst, inl, inr, arith}
use Rattle.std.proofs.lemmas.Int.{ints}
use Rattle.std.specs.Prelude.{◌⊎◌, ℤ, ◌≤ℤ◌, ◌<ℤ◌}
use Rattle.std.specs.List.{Contains}
use Rattle.belief_theory.specs.Outcomes.{Outcome}
use Rattle.tmm_model.specs.Moments.{Moment, After}
use Rattle.revisions.specs.Revisions.{Revision, IsOf, AreOf, IsLawful, IsNew, IsLost}
use Rattle.revisions.specs.Keeping.{IsKeeping, IsLeast, Waits}
use Rattle.revisions.specs.Steps.{IsUnder, Differs, IsMarked, Makes, Stays, Enters, Withdraws, Turns, staying, entering, withdrawing}
use Rattle.revisions.specs.Marks.{ReadsMoved, Marks, Moves}
use Rattle.revisions.proofs.Agreeing.{live_of}
use Rattle.revisions.proofs.Same.{outcome_or}
use Rattle.revisions.proofs.Turning.{newly, lost, under_late}

module _ (g : Revision) (laws : IsLawful g) (b : List Moment) (kept : Moment → List ℕ → Outcome) (queued : Moment → List ℕ → Type 0) (taken : List (Moment × List ℕ)) (d : ℤ)
    (k : IsKeeping g b kept queued taken d) (t : Moment) (r : List ℕ) (first : IsLeast g queued t r)
    (c : List Moment) (kept_after : Moment → List ℕ → Outcome) (queued_after : Moment → List ℕ → Type 0) (moved : Moment → Type 0)
    (marks : Marks g b c kept kept_after queued queued_after t r moved) where
  w : Waits g b d t r
  w = k.waits t r first.waits

  of_t : IsOf g t
  of_t = live_of g laws b kept queued taken d k t w.live

  later_x : g.early t <ℤ g.early (After t r)
  later_x = laws.later t r of_t w.stands

  -- whether the test tells of each occurrence that it moved
  record IsMove : Type 0 where
    -- what moved occurs, begins after t, and is newly or no longer believed
    occurs : (x : Moment) → moved x → IsOf g x
    after : (x : Moment) → moved x → g.early t <ℤ g.early x
    changes : (x : Moment) → moved x → IsNew g x ⊎ IsLost g x
    -- all else is as it was
    rest : (x : Moment) → (Contains b x → Contains c x ⊎ moved x) × (Contains c x → Contains b x ⊎ moved x)
    live : AreOf g c
    turns : Turns g b c kept kept_after queued_after t r

  module _ (m : IsMove) (test : (u : Moment) (q : List ℕ) → Contains c u → Contains (g.rules u) q → queued_after u q ⊎ (queued_after u q → ⊥)) where
    makes : Makes g b c kept kept_after queued queued_after t r
    makes = record { now = marks.now; others = marks.others; stay = marks.stay; come = come; unmarked = unmarked }
      where
        up : (x u : ℤ) → g.early t <ℤ x → x ≤ℤ u → g.early t <ℤ u
        up x u h l = omega (arith, ints)

        come : (u : Moment) (q : List ℕ) → queued_after u q → (queued u q × Contains c u × Differs t r u q) ⊎ IsMarked g c t u q
        come u q at =
            elim (marks.come u q at) [
              | inl old ↦ inl old
              | inr (inl new) ↦ inr (record { live = new.0; stands = new.1; after = after new.2; touched = λ believed. touched believed new.1 new.2 })
              | inr (inr marked) ↦ inr marked
            ]
          where
            after : ReadsMoved g moved u q ⊎ ((u ≡ After t r) × moved u) → g.early t <ℤ g.early u
            after (inl reads) = up (g.early reads.0) (g.early u) (m.after reads.0 reads.1) reads.3
            after (inr itself) = m.after u itself.1

            touched : Contains g.believed u → Contains (g.rules u) q → ReadsMoved g moved u q ⊎ ((u ≡ After t r) × moved u) → g.touched u q ≡ true
            touched believed stands (inl reads) = laws.moved_touched u q reads.0 believed stands (m.occurs reads.0 reads.1) (m.changes reads.0 reads.1) reads.2
            touched believed stands (inr itself) = elim (m.changes u itself.1) [
              | inl new ↦ laws.new_touched u q (not_was (g.was u q) refl new.not_before)
              | inr gone ↦ absurd (gone.not_now believed)
            ]
              where
                not_was : (v : Bool) → g.was u q ≡ v → (Contains g.before u → ⊥) → g.was u q ≡ false
                not_was false e h = e
                not_was true e h = absurd (h (laws.was_live u q e))

        unmarked : (u : Moment) (q : List ℕ) → Contains b u → Contains c u → Contains (g.rules u) q → Differs t r u q → queued_after u q ⊎ (g.outcome c u q ≡ g.outcome b u q)
        unmarked u q before now stands differs =
            elim (test u q now stands) [
              | inl waits ↦ inl waits
              | inr free ↦ elim (outcome_or (g.outcome c u q) (g.outcome b u q)) [
                | inl same ↦ inr same
                | inr other ↦ inr (laws.rests c b m.live (live_of g laws b kept queued taken d k) u q (m.live u now) stands
                    (λ x by_u reads. (
                      (λ at. elim ((m.rest x).1 at) [ inl there ↦ there | inr moves ↦ absurd (unread free other x moves reads by_u) ]),
                      (λ at. elim ((m.rest x).0 at) [ inl there ↦ there | inr moves ↦ absurd (unread free other x moves reads by_u) ]),
                    )))
              ]
            ]
          where
            -- what is not marked, and has another outcome, reads nothing that moved
            unread : (queued_after u q → ⊥) → (g.outcome c u q ≡ g.outcome b u q → ⊥) → (x : Moment) → moved x → g.reads u q x ≡ true → g.early x ≤ℤ g.early u → ⊥
            unread free other x moves reads by_u = elim (marks.all u q now stands (x, moves, reads, by_u)) [ inl waits ↦ free waits | inr same ↦ other same ]

  -- ---- the three kinds

  stays : Stays g b c kept t r → ((x : Moment) → moved x → ⊥) → IsMove
  stays h none = record {
    occurs = λ x at. absurd (none x at);
    after = λ x at. absurd (none x at);
    changes = λ x at. absurd (none x at);
    rest = λ x. ((λ at. inl (subst (λ z. Contains z x) (sym h.same) at)), (λ at. inl (subst (λ z. Contains z x) h.same at)));
    live = λ x at. live_of g laws b kept queued taken d k x (subst (λ z. Contains z x) h.same at);
    turns = staying h;
  }

  enters : Enters g b c kept kept_after queued_after t r → ((x : Moment) → moved x → x ≡ After t r) → moved (After t r) → IsMove
  enters h alone there = record {
    occurs = λ x at. subst (IsOf g) (sym (alone x at)) (of_t, w.stands);
    after = λ x at. subst (λ z. g.early t <ℤ g.early z) (sym (alone x at)) later_x;
    changes = λ x at. inl (subst (IsNew g) (sym (alone x at)) (newly g laws b kept queued taken d k t r first h.fires_now h.fired_not));
    rest = λ x. ((λ at. inl (h.into x at)), (λ at. elim (h.from x at) [ inl old ↦ inl old | inr e ↦ inr (subst moved (sym e) there) ]));
    live = λ x at. elim (h.from x at) [ inl old ↦ live_of g laws b kept queued taken d k x old | inr e ↦ subst (IsOf g) (sym e) (of_t, w.stands) ];
    turns = entering h;
  }

  withdraws : Withdraws g b c kept t r → ((x : Moment) → moved x → Contains b x × IsUnder (After t r) x) → ((x : Moment) → Contains b x → IsUnder (After t r) x → moved x) → IsMove
  withdraws h those all = record {
    occurs = λ x at. live_of g laws b kept queued taken d k x (those x at).0;
    after = λ x at. up (g.early (After t r)) (g.early x) later_x (under_late g laws b kept queued taken d k t r first x (live_of g laws b kept queued taken d k x (those x at).0) (those x at).1);
    changes = λ x at. inr (lost g laws b kept queued taken d k t r first h.fires_not x (those x at).0 (those x at).1);
    rest = λ x. ((λ at. elim (h.rest x at) [ inl there ↦ inl there | inr under ↦ inr (all x at under) ]), (λ at. inl (h.out x at).0));
    live = λ x at. live_of g laws b kept queued taken d k x (h.out x at).0;
    turns = withdrawing h;
  }
    where
      up : (a x : ℤ) → g.early t <ℤ a → a ≤ℤ x → g.early t <ℤ x
      up a x h l = omega (arith, ints)

  move : Moves g b kept t r c kept_after queued_after moved → IsMove
  move (inl h) = stays h.0 h.1
  move (inr (inl h)) = enters h.0 h.1 h.2
  move (inr (inr h)) = withdraws h.0 h.1 h.2

  -- **So marked, a turn is one that keeps what the loop keeps.**
  pub marked : ((u : Moment) (q : List ℕ) → Contains c u → Contains (g.rules u) q → queued_after u q ⊎ (queued_after u q → ⊥))
      → Moves g b kept t r c kept_after queued_after moved
      → Makes g b c kept kept_after queued queued_after t r × Turns g b c kept kept_after queued_after t r
  marked test moves = (makes (move moves) test, (move moves).turns)
