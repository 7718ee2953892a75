-- Where nothing is left open, what occurs is what is believed.
use Rattle.std.proofs.Common.{◌≡◌, ◌∙◌, ℕ, zero, suc, ◌≤◌, Bool, true, false, not, ◌&&◌, List, [], ◌∷◌, map, refl, sym, ap, subst, inl, inr, arith}
use Rattle.std.proofs.lemmas.Int.{ints}
use Rattle.std.proofs.lemmas.Bool.Decides.{Decides-int_eq}
use Rattle.std.specs.Prelude.{◌↔◌, ℤ, pos, negsuc, ◌+ℤ◌, ◌≤ℤ◌, ◌<ℤ◌, filter, Option, Some, None}
use Rattle.std.specs.Cmp.{both_ways}
use Rattle.std.specs.List.{Contains, list_any, list_all, flat_map}
use Rattle.std.specs.Ordering.{ordering_reverse}
use Rattle.std.specs.declared.cmp.Ordering.TheVariants.{Less}
use Rattle.tmm_model.specs.declared.point.PointName.{PointName}
use Rattle.tmm_model.specs.declared.point.PointName.TheVariants.{Begin}
use Rattle.tmm_model.specs.declared.premise.Premise.{Premise}
use Rattle.tmm_model.specs.declared.premise.Premise.TheVariants.{Class, Kind, Point, Event, Token, Span, Dist, Rule, Protect, Against}
use Rattle.tmm_model.specs.declared.token.TokenRow.{TokenRow}
use Rattle.tmm_model.specs.Answers.{row, rows}
use Rattle.tmm_model.specs.Beliefs.{root_of, roots, rules_at, is_free, token_of, tokens, contradicts_in, supported}
use Rattle.tmm_model.specs.Firsts.{sorted}
use Rattle.tmm_model.specs.Maps.{built, order}
use Rattle.tmm_model.specs.Moments.{Moment, At, After, base, rule_of, distance}
use Rattle.tmm_model.specs.Points.{same_name}
use Rattle.tmm_model.specs.Standing.{Standing, points_of, points_in, far_in}
use Rattle.tmm_model.specs.Tokens.{is_by, is_before, clips, cuts, lasts_to, supports}
use Rattle.belief_theory.specs.Right.{Occurs, Belongs, IsRight}
use Rattle.belief_theory.proofs.OneRight.{one_right, spot-token_of}
use Rattle.belief_theory.proofs.Order.{IsSpelt, total, ordered}
use Rattle.belief_theory.proofs.Sorts.{sorted_in, sorted_rising}
use Rattle.belief_theory.proofs.SoundBeliefs.{sound_timed, believed_right, believed_occurs}
use Rattle.belief_theory.proofs.Spelt.{spelt}
use Rattle.list_theory.specs.WellNamed.{IsSound}
use Rattle.list_theory.proofs.Distinct.{Distinct, Distinct-append, Distinct-filter, Distinct-flat_map, Distinct-map, one_order}
use Rattle.list_theory.proofs.Elements.{In, both, In-from_Contains, Contains-from_In, flat_map-In, In-flat_map, In-map, In-filter, In-filter_map, list_any-In, In-list_any}
use Rattle.timeline.specs.Days.{date, is_held, is_open, effects_of, brings_about, comes_on, played_row, played_rows}
use Rattle.timeline.specs.Laws.{LeavesNothingOpen, played_word, believed_word}
use Rattle.timeline.proofs.Fixed.{IsDeclared, by_date, before_date}
use Rattle.timeline.proofs.Lasting.{Lasts, held, span_of, end_declared}
use Rattle.timeline.proofs.Played.{known, holding, coming, all, Brings, known-next, known-first, known_cases, brought, known_all, all_known, all_occur, no_effect}

-- ---- what occurs has a declared point

root_point : (s : Standing) (p : PointName) → Contains (roots s) (At p) → Contains (points_in s.premises) p
root_point s p at =
    let (q, there, is) = In-filter_map root_of s.premises (At p) (In-from_Contains (roots s) (At p) at) in
    Contains-from_In (points_in s.premises) p (inr (flat_map-In points_of s.premises q p there (by q is)))
  where
    one : (name : List ℕ) → Some (At (Begin name)) ≡ Some (At p) → Begin name ≡ p
    one name e = cc

    by : (q : Premise) → root_of q ≡ Some (At p) → In p (points_of q)
    by (Event name kind) e = inl (one name e)
    by (Token name fact) e = inl (one name e)
    by (Span name fact) e = inl (one name e)
    by (Class name facts) e = cc
    by (Kind name) e = cc
    by (Point name) e = cc
    by (Dist name from to lo hi) e = cc
    by (Rule name trigger lo hi effect given unless_facts) e = cc
    by (Protect name fact from to) e = cc
    by (Against name one other) e = cc

base_point : (s : Standing) (x : Moment) → Occurs s x → Contains (points_in s.premises) (base x)
base_point s (At p) occurs = root_point s p occurs
base_point s (After t r) occurs = base_point s t occurs.0

module _ (s : Standing) (sound : IsSound s) (fixed : LeavesNothingOpen s) where
  declared : (x : Moment) → In x (all s sound) → IsDeclared s sound fixed x
  declared x at = base_point s x (all_occur s sound x at)

  spot_declared : (k : TokenRow Moment) → In k (tokens s (all s sound)) → IsDeclared s sound fixed k.spot
  spot_declared k at =
      let (x, there, is) = In-filter_map (token_of s) (all s sound) k at in
      subst (IsDeclared s sound fixed) (sym (spot-token_of s x k is)) (declared x there)

  end_is_declared : (k : TokenRow Moment) → In k (tokens s (all s sound)) → (e : Moment) → k.end ≡ Some e → IsDeclared s sound fixed e
  end_is_declared k at e ends =
      let (x, there, is) = In-filter_map (token_of s) (all s sound) k at in
      let (p, same, known_p) = end_declared s sound x e (span_of s x e k is ends) in
      subst (IsDeclared s sound fixed) (sym same) known_p

  -- ---- what holds on the day of an event is what is supported at it

  module _ (d : ℕ) (le : d ≤ suc s.horizon) (t : Moment) (at_t : In t (all s sound)) (on : date (built s) t ≡ pos d) where
    upto : (z : ℤ) → z ≤ℤ pos d → z ≤ℤ date (built s) t
    upto z h = subst (λ e. z ≤ℤ e) (sym on) h

    downto : (z : ℤ) → z ≤ℤ date (built s) t → z ≤ℤ pos d
    downto z h = subst (λ e. z ≤ℤ e) on h

    lasting : (k : TokenRow Moment) → In k (tokens s (all s sound)) → (o : Option Moment) → k.end ≡ o → Lasts s sound d k o
        → lasts_to (contradicts_in s) (distance s (far_in s.premises)) (tokens s (all s sound)) k t o ≡ true
    lasting k at (Some e) ends lasts = (before_date s sound fixed t e (declared t at_t) (end_is_declared k at e ends)).1 (subst (λ z. z <ℤ date (built s) e) (sym on) lasts)
    lasting k at None ends lasts = by (list_any cut (tokens s (all s sound))) refl
      where
        cut : TokenRow Moment → Bool
        cut = cuts (contradicts_in s) (distance s (far_in s.premises)) k t

        by : (b : Bool) → list_any cut (tokens s (all s sound)) ≡ b → not b ≡ true
        by false e = refl
        by true e =
            let (c, there, is) = list_any-In cut (tokens s (all s sound)) e in
            let parts = both (clips (contradicts_in s) (distance s (far_in s.premises)) k c) (is_by (distance s (far_in s.premises)) c.spot t) is in
            let clip = both (contradicts_in s k c) (is_before (distance s (far_in s.premises)) k.spot c.spot) parts.0 in
            absurd (lasts c there clip.0
            ((before_date s sound fixed k.spot c.spot (spot_declared k at) (spot_declared c there)).0 clip.1)
            (downto (date (built s) c.spot) ((by_date s sound fixed c.spot t (spot_declared c there) (declared t at_t)).0 parts.1)))

    lasted : (k : TokenRow Moment) → In k (tokens s (all s sound)) → (o : Option Moment) → k.end ≡ o
        → lasts_to (contradicts_in s) (distance s (far_in s.premises)) (tokens s (all s sound)) k t o ≡ true → Lasts s sound d k o
    lasted k at (Some e) ends lasts = subst (λ z. z <ℤ date (built s) e) on ((before_date s sound fixed t e (declared t at_t) (end_is_declared k at e ends)).0 lasts)
    lasted k at None ends lasts = λ c there against after begun.
        (let is : cut c ≡ true =
        λ i. (against i && (before_date s sound fixed k.spot c.spot (spot_declared k at) (spot_declared c there)).1 after i)
        && (by_date s sound fixed c.spot t (spot_declared c there) (declared t at_t)).1 (upto (date (built s) c.spot) begun) i in
        let any : list_any cut (tokens s (all s sound)) ≡ true = In-list_any cut (tokens s (all s sound)) c there is in
        let none : not (list_any cut (tokens s (all s sound))) ≡ true = lasts in
        cc)
      where
        cut : TokenRow Moment → Bool
        cut = cuts (contradicts_in s) (distance s (far_in s.premises)) k t

    abbrev supports_it : List ℕ → TokenRow Moment → Bool
    supports_it f = supports (contradicts_in s) (distance s (far_in s.premises)) (tokens s (all s sound)) f t t

    into : (f : List ℕ) → is_held (holding s sound d) f ≡ true → supported s (far_in s.premises) (all s sound) t f ≡ true
    into f h =
        let (k, there, same) = list_any-In (λ (k : TokenRow Moment). same_name k.fact f) (holding s sound d) h in
        let holds = (held s sound d le k).0 there in
        let near = (by_date s sound fixed k.spot t (spot_declared k holds.among) (declared t at_t)).1 (upto (date (built s) k.spot) holds.begun) in
        let lasts = lasting k holds.among k.end refl holds.lasts in
        In-list_any (supports_it f) (tokens s (all s sound)) k holds.among (λ i. (same i && near i) && lasts i)

    back : (f : List ℕ) → supported s (far_in s.premises) (all s sound) t f ≡ true → is_held (holding s sound d) f ≡ true
    back f h =
        let (k, there, is) = list_any-In (supports_it f) (tokens s (all s sound)) h in
        let outer = both (same_name k.fact f && is_by (distance s (far_in s.premises)) k.spot t) (lasts_to (contradicts_in s) (distance s (far_in s.premises)) (tokens s (all s sound)) k t k.end) is in
        let inner = both (same_name k.fact f) (is_by (distance s (far_in s.premises)) k.spot t) outer.0 in
        In-list_any (λ (k : TokenRow Moment). same_name k.fact f) (holding s sound d) k
        ((held s sound d le k).1 (record {
          among = there;
          begun = downto (date (built s) k.spot) ((by_date s sound fixed k.spot t (spot_declared k there) (declared t at_t)).0 inner.1);
          lasts = lasted k there k.end refl outer.1;
        }))
        inner.0

    -- a fact holds on the day exactly where it is supported at the event
    same_held : (f : List ℕ) → is_held (holding s sound d) f ≡ supported s (far_in s.premises) (all s sound) t f
    same_held f = both_ways (is_held (holding s sound d) f) (supported s (far_in s.premises) (all s sound) t f) (into f) (back f)

    -- so a rule is open exactly where it is free
    same_open : (r : List ℕ) → is_open (is_held (holding s sound d)) (rule_of s r) ≡ is_free s (far_in s.premises) (all s sound) t r
    same_open r = λ i. list_all (λ f. same_held f i) (rule_of s r).given && not (list_any (λ f. same_held f i) (rule_of s r).exceptions)

  -- ---- what occurs is right

  root_back : (d : ℕ) (p : PointName) → In (At p) (known s sound d) → In (At p) (roots s)
  root_back zero p at = subst (In (At p)) (known-first s sound) at
  root_back (suc d) p at = elim (known_cases s sound d (At p) at) [
    | inl before ↦ root_back d p before
    | inr (t, r, same, b) ↦ absurd (never t r same)
  ]
    where
      never : (t : Moment) (r : List ℕ) → After t r ≡ At p → ⊥
      never t r e = cc

  -- each effect was brought about on a day
  brought_on : (d : ℕ) (t : Moment) (r : List ℕ) → In (After t r) (known s sound d) → (e : ℕ) × (suc e ≤ d) × Brings s sound e t r
  brought_on zero t r at = absurd (no_effect s t r (subst (In (After t r)) (known-first s sound) at))
  brought_on (suc d) t r at = elim (known_cases s sound d (After t r) at) [
    | inl before ↦ let (e, le, b) = brought_on d t r before in (e, omega arith, b)
    | inr (u, q, same, b) ↦ (d, omega arith, moved u q same b)
  ]
    where
      moved : (u : Moment) (q : List ℕ) → After u q ≡ After t r → Brings s sound d u q → Brings s sound d t r
      moved u q e b =
          let one : u ≡ t = cc in
          let two : q ≡ r = cc in
          subst (λ v. Brings s sound d v r) one (subst (λ w. Brings s sound d u w) two b)

  believes : (x : Moment) → Contains (all s sound) x → Belongs s (far_in s.premises) s.horizon (all s sound) x
  believes (At p) at = Contains-from_In (roots s) (At p) (root_back (suc s.horizon) p (In-from_Contains (all s sound) (At p) at))
  believes (After t r) at =
      let (d, le, b) = brought_on (suc s.horizon) t r (In-from_Contains (all s sound) (After t r) at) in
      let at_t = known_all s sound d (omega arith) t b.there in
      record {
        believed = Contains-from_In (all s sound) t at_t;
        stands = Contains-from_In (rules_at s t) r b.stands;
        in_time = b.in_time;
        free = sym (same_open d (omega arith) t at_t b.on r) ∙ b.opened;
      }

  day_of : (z : ℤ) → pos 0 ≤ℤ z → (d : ℕ) × (z ≡ pos d)
  day_of (pos d) h = (d, refl)
  day_of (negsuc d) h = absurd (omega (arith, ints))

  occurs_where : (x : Moment) → Belongs s (far_in s.premises) s.horizon (all s sound) x → Contains (all s sound) x
  occurs_where (At p) at = Contains-from_In (all s sound) (At p) (known_all s sound 0 (omega arith) (At p) (subst (In (At p)) (sym (known-first s sound)) (In-from_Contains (roots s) (At p) at)))
  occurs_where (After t r) f =
      let at_t = In-from_Contains (all s sound) t f.believed in
      let (d, on) = day_of (date (built s) t) ((sound_timed s sound).not_before_start t (all_occur s sound t at_t)) in
      let le : d ≤ s.horizon = in_time d (date (built s) t) (rule_of s r).lo on ((sound_timed s sound).delayed t r f.stands) f.in_time in
      Contains-from_In (all s sound) (After t r)
      (known_all s sound (suc d) (omega arith) (After t r)
      (brought s sound d t r (record {
        there = all_known s sound d (omega arith) t at_t (exactly (date (built s) t) d on);
        on = on;
        stands = In-from_Contains (rules_at s t) r f.stands;
        in_time = f.in_time;
        opened = same_open d (omega arith) t at_t on r ∙ f.free;
      })))
    where
      in_time : (d : ℕ) (a lo : ℤ) → a ≡ pos d → pos 1 ≤ℤ lo → (a +ℤ lo) ≤ℤ pos s.horizon → d ≤ s.horizon
      in_time d a lo on delay h = omega (arith, ints)

      exactly : (z : ℤ) (d : ℕ) → z ≡ pos d → z ≤ℤ pos d
      exactly z d e = omega (arith, ints)

  all_right : IsRight s (far_in s.premises) (all s sound)
  all_right x = (believes x, occurs_where x)

  -- ---- in the same order

  module _ (roots_once : Distinct (roots s)) (rules_once : (t : Moment) → Distinct (rules_at s t)) where
    abbrev brings_of : ℕ → Moment → List Moment
    brings_of d = effects_of (built s) (is_held (holding s sound d))

    effects_once : (d : ℕ) (t : Moment) → Distinct (brings_of d t)
    effects_once d t = Distinct-map (After t) (λ q r e. let one : q ≡ r = cc in one) (filter (passes d t) (rules_at s t)) (Distinct-filter (passes d t) (rules_at s t) (rules_once t))
      where
        passes : ℕ → Moment → List ℕ → Bool
        passes d t = brings_about (built s) (is_held (holding s sound d)) t

    one_trigger : (d : ℕ) (t u y : Moment) → In y (brings_of d t) → In y (brings_of d u) → t ≡ u
    one_trigger d t u y h g =
        let (r, _, e) = In-map (After t) (filter (brings_about (built s) (is_held (holding s sound d)) t) (rules_at s t)) y h in
        let (q, _, f) = In-map (After u) (filter (brings_about (built s) (is_held (holding s sound d)) u) (rules_at s u)) y g in
        let same : After t r ≡ After u q = e ∙ sym f in
        cc

    -- no occurrence is known twice
    known_once : (d : ℕ) → Distinct (known s sound d)
    known_once zero = subst Distinct (sym (known-first s sound)) roots_once
    known_once (suc d) =
        subst Distinct (sym (known-next s sound d))
        (Distinct-append (known s sound d) (flat_map (brings_of d) (coming s sound d)) (known_once d)
        (Distinct-flat_map (brings_of d) (effects_once d) (one_trigger d) (coming s sound d) (Distinct-filter (comes_on (built s) d) (known s sound d) (known_once d)))
        apart)
      where
        days : (z : ℤ) (d e : ℕ) → z ≡ pos d → z ≡ pos e → suc e ≤ d → ⊥
        days z d e h g le = omega (arith, ints)

        apart : (x : Moment) → In x (known s sound d) → In x (flat_map (brings_of d) (coming s sound d)) → ⊥
        apart x at new =
            let (t, there, here) = In-flat_map (brings_of d) (coming s sound d) x new in
            let (r, _, same) = In-map (After t) (filter (brings_about (built s) (is_held (holding s sound d)) t) (rules_at s t)) x here in
            let (e, le, b) = brought_on d t r (subst (λ z. In z (known s sound d)) (sym same) at) in
            let (_, comes) = In-filter (comes_on (built s) d) (known s sound d) t there in
            days (date (built s) t) d e ((Decides-int_eq (date (built s) t) (pos d)).0 comes) b.on le

    spelt_in : (b : List Moment) → ((x : Moment) → In x b → Occurs s x) → (x : Moment) → In x b → IsSpelt x
    spelt_in b occur x at = spelt s sound.well_formed x (occur x at)

    one_way : (x y : Moment) → order (built s) x y ≡ Less → order (built s) y x ≡ Less → ⊥
    one_way x y h g =
        let turned : Less ≡ ordering_reverse Less = sym h ∙ (total s (far_in s.premises)).antisymm x y ∙ ap ordering_reverse g in
        cc

    occur_believed : (x : Moment) → In x (built s).believed → Occurs s x
    occur_believed x at = believed_occurs s sound x (Contains-from_In (built s).believed x at)

    same_members : (x : Moment) → Contains (all s sound) x ↔ Contains (built s).believed x
    same_members x = one_right s (far_in s.premises) (sound_timed s sound) s.horizon (all s sound) (built s).believed all_right (believed_right s sound) x

    module _ (believed_once : Distinct (built s).believed) where
      in_one_order : sorted (order (built s)) (all s sound) ≡ sorted (order (built s)) (built s).believed
      in_one_order =
          one_order (order (built s)) one_way (sorted (order (built s)) (all s sound)) (sorted (order (built s)) (built s).believed)
          (sorted_rising (ordered s (far_in s.premises)) (all s sound) (spelt_in (all s sound) (all_occur s sound)) (known_once (suc s.horizon)))
          (sorted_rising (ordered s (far_in s.premises)) (built s).believed (spelt_in (built s).believed occur_believed) believed_once)
          (λ x at. (sorted_in (ordered s (far_in s.premises)) (built s).believed x).1
          (In-from_Contains (built s).believed x ((same_members x).0 (Contains-from_In (all s sound) x ((sorted_in (ordered s (far_in s.premises)) (all s sound) x).0 at)))))
          (λ x at. (sorted_in (ordered s (far_in s.premises)) (all s sound) x).1
          (In-from_Contains (all s sound) x ((same_members x).1 (Contains-from_In (built s).believed x ((sorted_in (ordered s (far_in s.premises)) (built s).believed x).0 at)))))

      words : (b xs : List Moment) → map played_word (map (played_row (built s) b) xs) ≡ map believed_word (map (row (built s)) xs)
      words b [] = refl
      words b (x ∷ xs) = ap (λ ys. played_word (played_row (built s) b x) ∷ ys) (words b xs)

      -- **What occurs is what is believed.**
      pub as_believed : map played_word (played_rows (built s)) ≡ map believed_word (rows (built s))
      as_believed =
          words (all s sound) (sorted (order (built s)) (all s sound))
          ∙ ap (λ xs. map believed_word (map (row (built s)) xs)) in_one_order
