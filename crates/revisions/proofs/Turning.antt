-- A turn of the loop keeps what the loop keeps.
use Rattle.std.proofs.Common.{◌≡◌, ◌∙◌, ℕ, Bool, true, false, List, ◌∷◌, refl, sym, ap, subst, inl, inr, arith}
use Rattle.std.proofs.lemmas.Bool.{both_ways}
use Rattle.std.proofs.lemmas.Int.{ints}
use Rattle.std.specs.Prelude.{◌↔◌, ◌⊎◌, ℤ, ◌≤ℤ◌, ◌<ℤ◌}
use Rattle.std.specs.List.{Contains}
use Rattle.tmm_model.specs.declared.point.PointName.{PointName}
use Rattle.belief_theory.specs.Outcomes.{Outcome, beyond}
use Rattle.tmm_model.specs.Moments.{Moment, At, After}
use Rattle.list_theory.proofs.Elements.{In}
use Rattle.revisions.specs.Revisions.{Revision, is_firing, IsOf, IsLawful, IsNew, IsLost}
use Rattle.revisions.specs.Keeping.{IsKeeping, IsLeast, IsUntaken, Waits, Made}
use Rattle.revisions.specs.Steps.{IsUnder, Differs, Makes, Stays, Enters, Withdraws, Turns, staying, entering, withdrawing}
use Rattle.revisions.proofs.Same.{same_or}
use Rattle.revisions.proofs.Agreeing.{live_of, final, final_outcome}

never : (z : ℤ) → z <ℤ z → ⊥
never z h = omega (arith, ints)

itself : (z : ℤ) → z ≤ℤ z
itself z = omega (arith, ints)

not_after : (z w : ℤ) → z ≤ℤ w → w <ℤ z → ⊥
not_after z w h l = omega (arith, ints)

less_equal : (z w : ℤ) → z <ℤ w → z ≤ℤ w
less_equal z w h = omega (arith, ints)

-- a node that has come: none of its rules has an effect yet
pub record IsFresh (g : Revision) (c : List Moment) (kept_after : Moment → List ℕ → Outcome) (queued_after : Moment → List ℕ → Type 0) (u : Moment) (q : List ℕ) : Type 0 where
  pub waits : queued_after u q
  pub blank : kept_after u q ≡ beyond
  pub new : g.was u q ≡ false
  pub none : Contains c (After u q) → ⊥

-- how the nodes after a turn stand to those before
pub record IsTurned (g : Revision) (b c : List Moment) (kept_after : Moment → List ℕ → Outcome) (queued_after : Moment → List ℕ → Type 0) (t : Moment) (r : List ℕ) : Type 0 where
  pub root : (p : PointName) → Contains c (At p) ↔ Contains b (At p)
  pub child : (u : Moment) (q : List ℕ) → Contains c (After u q) → Contains c u × Contains (g.rules u) q
  pub known : (x : Moment) → Contains c x → Contains g.before x ⊎ Contains g.believed x
  pub below : (x : Moment) → g.early x ≤ℤ g.early t → Contains b x ↔ Contains c x
  pub this : Contains c (After t r) ↔ (is_firing (g.outcome b t r) ≡ true)
  pub other : (u : Moment) (q : List ℕ) → Contains b u → Contains c u → Contains (g.rules u) q → Differs t r u q → Contains c (After u q) ↔ Contains b (After u q)
  pub new : (u : Moment) → Contains c u → Contains b u ⊎ ((q : List ℕ) → Contains (g.rules u) q → IsFresh g c kept_after queued_after u q)

module _ (g : Revision) (laws : IsLawful g) (b : List Moment) (kept : Moment → List ℕ → Outcome) (queued : Moment → List ℕ → Type 0) (taken : List (Moment × List ℕ)) (d : ℤ)
    (k : IsKeeping g b kept queued taken d) (t : Moment) (r : List ℕ) (first : IsLeast g queued t r) where
  w : Waits g b d t r
  w = k.waits t r first.waits

  of_t : IsOf g t
  of_t = live_of g laws b kept queued taken d k t w.live

  -- the event is believed in the end, so its decision is touched, and what is decided is right
  pub now_believed : Contains g.believed t
  now_believed = (final g laws b kept queued taken d k (g.early t) first.least t of_t (itself (g.early t))).0 w.live

  pub touched_now : g.touched t r ≡ true
  touched_now = w.touched now_believed

  pub decided_right : g.outcome b t r ≡ g.outcome g.believed t r
  decided_right = final_outcome g laws b kept queued taken d k (g.early t) first.least t r of_t w.stands (itself (g.early t))

  not_made : In (t, r) taken → ⊥
  not_made at = (k.made t r at).gone first.waits

  later_x : g.early t <ℤ g.early (After t r)
  later_x = laws.later t r of_t w.stands

  -- what fires now and did not is newly believed
  pub newly : is_firing (g.outcome b t r) ≡ true → is_firing (kept t r) ≡ false → IsNew g (After t r)
  newly fires_now fired_not = record {
    now = (laws.right (After t r)).1 (now_believed, w.stands, ap is_firing (sym decided_right) ∙ fires_now);
    not_before = λ at.
        let was = (laws.was_right t r).0 at in
        elim (k.first t r w.live w.stands) [
          | inl made ↦ not_made made
          | inr before ↦ elim before [
            | inl old ↦ both_ways (is_firing (kept t r)) fired_not (ap is_firing old.1 ∙ was.1)
            | inr new ↦ both_ways (g.was t r) new.0 was.0
          ]
        ];
  }

  -- what fired and does not now is believed no longer, nor is what stands below it
  lost_below : is_firing (g.outcome b t r) ≡ false → (x : Moment) → IsUnder (After t r) x → Contains g.believed x → ⊥
  lost_below fires_not (At p) under at = let e : At p ≡ After t r = under in cc
  lost_below fires_not (After u q) (inr under) at = lost_below fires_not u under ((laws.right (After u q)).0 at).0
  lost_below fires_not (After u q) (inl e) at =
      both_ways (is_firing (g.outcome b t r)) fires_not (ap is_firing decided_right ∙ ((laws.right (After t r)).0 (subst (Contains g.believed) e at)).2)

  pub lost : is_firing (g.outcome b t r) ≡ false → (x : Moment) → Contains b x → IsUnder (After t r) x → IsLost g x
  lost fires_not x at under = record {
    before = elim (k.known x at) [ inl old ↦ old | inr now ↦ absurd (lost_below fires_not x under now) ];
    not_now = lost_below fires_not x under;
  }

  -- what stands below the effect is no earlier
  pub under_late : (x : Moment) → IsOf g x → IsUnder (After t r) x → g.early (After t r) ≤ℤ g.early x
  under_late (At p) of under = let e : At p ≡ After t r = under in cc
  under_late (After u q) of (inl e) = subst (λ z. g.early (After t r) ≤ℤ g.early z) (sym e) (itself (g.early (After t r)))
  under_late (After u q) of (inr under) = by (g.early (After t r)) (g.early u) (g.early (After u q)) (under_late u of.0 under) (laws.later u q of.0 of.1)
    where
      by : (a z w : ℤ) → a ≤ℤ z → z <ℤ w → a ≤ℤ w
      by a z w h l = omega (arith, ints)

  module _ (c : List Moment) (kept_after : Moment → List ℕ → Outcome) (queued_after : Moment → List ℕ → Type 0)
      (makes : Makes g b c kept kept_after queued queued_after t r) where
    at_same : (P : Moment → List ℕ → Type 0) (u : Moment) (q : List ℕ) → (u ≡ t) × (q ≡ r) → P t r → P u q
    at_same P u q same h = subst (λ v. P v q) (sym same.0) (subst (λ v. P t v) (sym same.1) h)

    gone_now : queued_after t r → ⊥
    gone_now at = elim (makes.come t r at) [ inl old ↦ old.2 (refl, refl) | inr marked ↦ never (g.early t) marked.after ]

    module _ (s : IsTurned g b c kept_after queued_after t r) where
      live_after : (x : Moment) → Contains c x → IsOf g x
      live_after (At p) at = (k.root p).0 ((s.root p).0 at)
      live_after (After u q) at = let h = s.child u q at in (live_after u h.0, h.1)

      outcome_after : g.outcome b t r ≡ g.outcome c t r
      outcome_after = laws.rests b c (live_of g laws b kept queued taken d k) live_after t r of_t w.stands (λ x by_t reads. s.below x by_t)

      fires : (u : Moment) (q : List ℕ) → Contains c u → Contains (g.rules u) q → Contains c (After u q) ↔ (is_firing (kept_after u q) ≡ true)
      fires u q at stands =
          elim (s.new u at) [
            | inr fresh ↦
                let f = fresh q stands in
                (λ h. absurd (f.none h), λ h. absurd (both_ways (is_firing (kept_after u q)) (ap is_firing f.blank) h))
            | inl old ↦ elim (same_or t r u q) [
              | inl same ↦ at_same (λ v p. Contains c (After v p) ↔ (is_firing (kept_after v p) ≡ true)) u q same
                  (λ h. ap is_firing makes.now ∙ s.this.0 h, λ h. s.this.1 (ap is_firing (sym makes.now) ∙ h))
              | inr differs ↦
                  let is : kept_after u q ≡ kept u q = makes.others u q old at stands differs in
                  let effect = s.other u q old at stands differs in
                  let f = k.fires u q old stands in
                  (λ h. ap is_firing is ∙ f.0 (effect.0 h), λ h. effect.1 (f.1 (ap is_firing (sym is) ∙ h)))
            ]
          ]

      right : (u : Moment) (q : List ℕ) → Contains c u → Contains (g.rules u) q → queued_after u q ⊎ (kept_after u q ≡ g.outcome c u q)
      right u q at stands =
          elim (s.new u at) [
            | inr fresh ↦ inl (fresh q stands).waits
            | inl old ↦ elim (same_or t r u q) [
              | inl same ↦ inr (at_same (λ v p. kept_after v p ≡ g.outcome c v p) u q same (makes.now ∙ outcome_after))
              | inr differs ↦ elim (k.right u q old stands) [
                | inl waits ↦ inl (makes.stay u q waits at differs)
                | inr is ↦ elim (makes.unmarked u q old at stands differs) [
                  | inl marked ↦ inl marked
                  | inr alike ↦ inr (makes.others u q old at stands differs ∙ is ∙ sym alike)
                ]
              ]
            ]
          ]

      first_after : (u : Moment) (q : List ℕ) → Contains c u → Contains (g.rules u) q → In (u, q) ((t, r) ∷ taken) ⊎ IsUntaken g kept_after queued_after u q
      first_after u q at stands =
          elim (s.new u at) [
            | inr fresh ↦ inr (inr ((fresh q stands).new, (fresh q stands).waits, (fresh q stands).blank))
            | inl old ↦ elim (same_or t r u q) [
              | inl same ↦ inl (inl (λ i. (sym same.0 i, sym same.1 i)))
              | inr differs ↦
                  let is : kept_after u q ≡ kept u q = makes.others u q old at stands differs in
                  elim (k.first u q old stands) [
                    | inl made ↦ inl (inr made)
                    | inr before ↦ elim before [
                      | inl stood ↦ inr (inl (stood.0, is ∙ stood.1))
                      | inr new ↦ inr (inr (new.0, makes.stay u q new.1 at differs, is ∙ new.2))
                    ]
                  ]
            ]
          ]

      waits_after : (u : Moment) (q : List ℕ) → queued_after u q → Waits g c (g.early t) u q
      waits_after u q at =
          elim (makes.come u q at) [
            | inl old ↦
                let before = k.waits u q old.0 in
                record { live = old.1; stands = before.stands; after = first.least u q old.0; touched = before.touched }
            | inr marked ↦ record { live = marked.live; stands = marked.stands; after = less_equal (g.early t) (g.early u) marked.after; touched = marked.touched }
          ]

      made_now : Made g queued_after (g.early t) t r
      made_now = record { believed = now_believed; stands = w.stands; by_now = itself (g.early t); touched = touched_now; gone = gone_now }

      made_after : (u : Moment) (q : List ℕ) → In (u, q) ((t, r) ∷ taken) → Made g queued_after (g.early t) u q
      made_after u q (inl e) = at_same (λ v p. Made g queued_after (g.early t) v p) u q (ap (λ x. x.0) (sym e), ap (λ x. x.1) (sym e)) made_now
      made_after u q (inr at) =
          let m = k.made u q at in
          record {
            believed = m.believed;
            stands = m.stands;
            by_now = up (g.early u) (g.early t) m.by_now w.after;
            touched = m.touched;
            gone = λ h. elim (makes.come u q h) [ inl old ↦ m.gone old.0 | inr marked ↦ not_after (g.early u) (g.early t) (up (g.early u) (g.early t) m.by_now w.after) marked.after ];
          }
        where
          up : (z y : ℤ) → z ≤ℤ d → d ≤ℤ y → z ≤ℤ y
          up z y h l = omega (arith, ints)

      pub kept_on : IsKeeping g c kept_after queued_after ((t, r) ∷ taken) (g.early t)
      kept_on = record {
        root = λ p. (λ at. (k.root p).0 ((s.root p).0 at), λ at. (s.root p).1 ((k.root p).1 at));
        child = s.child;
        known = s.known;
        fires = fires;
        right = right;
        first = first_after;
        waits = waits_after;
        made = made_after;
        once = (not_made, k.once);
      }

    -- ---- the three kinds of turns

    stays : Stays g b c kept t r → IsTurned g b c kept_after queued_after t r
    stays h = record {
      root = λ p. (into (At p), back (At p));
      child = λ u q at. let e = k.child u q (into (After u q) at) in (back u e.0, e.1);
      known = λ x at. k.known x (into x at);
      below = λ x _. (back x, into x);
      this = (λ at. h.alike ∙ f.0 (into (After t r) at), λ e. back (After t r) (f.1 (sym h.alike ∙ e)));
      other = λ u q _ _ _ _. (into (After u q), back (After u q));
      new = λ u at. inl (into u at);
    }
      where
        into : (x : Moment) → Contains c x → Contains b x
        into x at = subst (λ z. Contains z x) h.same at

        back : (x : Moment) → Contains b x → Contains c x
        back x at = subst (λ z. Contains z x) (sym h.same) at

        f : Contains b (After t r) ↔ (is_firing (kept t r) ≡ true)
        f = k.fires t r w.live w.stands

    enters : Enters g b c kept kept_after queued_after t r → IsTurned g b c kept_after queued_after t r
    enters h = record {
      root = λ p. (λ at. elim (h.from (At p) at) [ inl old ↦ old | inr e ↦ (let f : At p ≡ After t r = e in cc) ], h.into (At p));
      child = child;
      known = λ x at. elim (h.from x at) [ inl old ↦ k.known x old | inr e ↦ inr (subst (Contains g.believed) (sym e) new.now) ];
      below = λ x by_t. (h.into x, λ at. elim (h.from x at) [ inl old ↦ old | inr e ↦ absurd (not_after (g.early x) (g.early t) by_t (subst (λ z. g.early t <ℤ g.early z) (sym e) later_x)) ]);
      this = (λ _. h.fires_now, λ _. h.entered);
      other = λ u q _ _ _ differs. (λ at. elim (h.from (After u q) at) [ inl old ↦ old | inr e ↦ absurd (differs (parts u q e)) ], h.into (After u q));
      new = λ u at. elim (h.from u at) [ inl old ↦ inl old | inr e ↦ inr (subst (λ v. (q : List ℕ) → Contains (g.rules v) q → IsFresh g c kept_after queued_after v q) (sym e) fresh) ];
    }
      where
        new : IsNew g (After t r)
        new = newly h.fires_now h.fired_not

        parts : (u : Moment) (q : List ℕ) → After u q ≡ After t r → (u ≡ t) × (q ≡ r)
        parts u q e = let one : u ≡ t = cc in let two : q ≡ r = cc in (one, two)

        child : (u : Moment) (q : List ℕ) → Contains c (After u q) → Contains c u × Contains (g.rules u) q
        child u q at =
            elim (h.from (After u q) at) [
              | inl old ↦ (let e = k.child u q old in (h.into u e.0, e.1))
              | inr e ↦ at_same (λ v p. Contains c v × Contains (g.rules v) p) u q (parts u q e) (h.into t w.live, w.stands)
            ]

        not_live : Contains b (After t r) → ⊥
        not_live at = both_ways (is_firing (kept t r)) h.fired_not ((k.fires t r w.live w.stands).0 at)

        fresh : (q : List ℕ) → Contains (g.rules (After t r)) q → IsFresh g c kept_after queued_after (After t r) q
        fresh q stands = record {
          waits = h.waits q stands;
          blank = h.blank q stands;
          new = by (g.was (After t r) q) refl;
          none = λ at. elim (h.from (After (After t r) q) at) [ inl old ↦ not_live (k.child (After t r) q old).0 | inr e ↦ too_late e ];
        }
          where
            by : (v : Bool) → g.was (After t r) q ≡ v → g.was (After t r) q ≡ false
            by false e = e
            by true e = absurd (new.not_before (laws.was_live (After t r) q e))

            too_late : After (After t r) q ≡ After t r → ⊥
            too_late e = never (g.early (After t r)) (subst (λ z. g.early (After t r) <ℤ g.early z) e (laws.later (After t r) q (of_t, w.stands) stands))

    withdraws : Withdraws g b c kept t r → IsTurned g b c kept_after queued_after t r
    withdraws h = record {
      root = λ p. (λ at. (h.out (At p) at).0, λ at. elim (h.rest (At p) at) [ inl there ↦ there | inr under ↦ (let f : At p ≡ After t r = under in cc) ]);
      child = λ u q at.
          let o = h.out (After u q) at in
          let e = k.child u q o.0 in
          (elim (h.rest u e.0) [ inl there ↦ there | inr under ↦ absurd (o.1 (inr under)) ], e.1);
      known = λ x at. k.known x (h.out x at).0;
      below = λ x by_t. (
        λ at. elim (h.rest x at) [
          | inl there ↦ there
          | inr under ↦ absurd (too_late x by_t (under_late x (live_of g laws b kept queued taken d k x at) under))
        ],
        λ at. (h.out x at).0,
      );
      this = (λ at. absurd ((h.out (After t r) at).1 (inl refl)), λ e. absurd (both_ways (is_firing (g.outcome b t r)) h.fires_not e));
      other = λ u q _ live _ differs. (λ at. (h.out (After u q) at).0, λ at. elim (h.rest (After u q) at) [ inl there ↦ there | inr under ↦ absurd (not_under u q live differs under) ]);
      new = λ u at. inl (h.out u at).0;
    }
      where
        too_late : (x : Moment) → g.early x ≤ℤ g.early t → g.early (After t r) ≤ℤ g.early x → ⊥
        too_late x by_t late = by (g.early x) (g.early t) (g.early (After t r)) by_t late later_x
          where
            by : (x t a : ℤ) → x ≤ℤ t → a ≤ℤ x → t <ℤ a → ⊥
            by x t a h l m = omega (arith, ints)

        not_under : (u : Moment) (q : List ℕ) → Contains c u → Differs t r u q → IsUnder (After t r) (After u q) → ⊥
        not_under u q live differs (inl e) = let one : u ≡ t = cc in let two : q ≡ r = cc in differs (one, two)
        not_under u q live differs (inr under) = (h.out u live).1 under

    -- **A turn keeps what the loop keeps.**
    pub turned : Turns g b c kept kept_after queued_after t r → IsKeeping g c kept_after queued_after ((t, r) ∷ taken) (g.early t)
    turned (staying h) = kept_on (stays h)
    turned (entering h) = kept_on (enters h)
    turned (withdrawing h) = kept_on (withdraws h)
