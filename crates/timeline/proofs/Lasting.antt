-- Which tokens hold on a day, said without the day before.
use Rattle.std.proofs.Common.{◌≡◌, ◌∙◌, ℕ, zero, suc, ◌≤◌, Bool, true, false, not, List, [], refl, sym, ap, subst, inl, inr, arith}
use Rattle.std.proofs.lemmas.Int.{ints}
use Rattle.std.proofs.lemmas.Bool.Decides.{Decides-int_eq}
use Rattle.std.specs.Prelude.{◌⊎◌, ◌↔◌, ℤ, pos, negsuc, ◌-ℤ◌, ◌≤ℤ◌, ◌<ℤ◌, int_lt, filter, Option, Some, None}
use Rattle.std.specs.List.{Contains}
use Rattle.std.specs.Ordering.{int_eq}
use Rattle.tmm_model.specs.declared.point.PointName.{PointName}
use Rattle.tmm_model.specs.declared.point.PointName.TheVariants.{Start, Begin, End}
use Rattle.tmm_model.specs.declared.premise.Premise.{Premise}
use Rattle.tmm_model.specs.declared.premise.Premise.TheVariants.{Class, Kind, Point, Event, Token, Span, Dist, Rule, Protect, Against}
use Rattle.tmm_model.specs.declared.token.Shape.TheVariants.{Event as AnEvent, Persistence as APersistence}
use Rattle.tmm_model.specs.declared.token.TokenRow.{TokenRow}
use Rattle.tmm_model.specs.Beliefs.{as_root, as_effect, token_at, token_of, tokens, contradicts_in}
use Rattle.tmm_model.specs.Maps.{built}
use Rattle.tmm_model.specs.Moments.{Moment, At, After, rule_of}
use Rattle.tmm_model.specs.Sorts.{Sort, is_kind, sort_in}
use Rattle.tmm_model.specs.Standing.{Standing, points_of, points_in, length_step, arc_of, arcs_of, arcs_in, premise_in}
use Rattle.belief_theory.proofs.OneRight.{spot-token_of}
use Rattle.belief_theory.proofs.SoundBeliefs.{sound_timed}
use Rattle.list_theory.specs.WellNamed.{IsSound}
use Rattle.list_theory.proofs.Elements.{In, Contains-from_In, In-cases, In-left, In-right, flat_map-In, In-filter, filter-In, In-filter_map, filter_map-In, list_any-In, In-list_any}
use Rattle.list_theory.proofs.KnownNames.{finds}
use Rattle.timeline.specs.Days.{date, comes_on, holds_on, goes_on, is_contradicted}
use Rattle.timeline.proofs.EarlyDates.{date_met}
use Rattle.timeline.proofs.Played.{known, holding, coming, all, holding-first, holding-next, known_all, all_known, all_occur}

-- ---- spans end behind their begin

-- the token at x is a span that ends at e
pub record EndsAt (s : Standing) (x e : Moment) : Type 0 where
  pub name : List ℕ
  pub fact : List ℕ
  pub begin : x ≡ At (Begin name)
  pub end : e ≡ At (End name)
  pub stands : In (Span name fact) s.premises

pub span_of : (s : Standing) (x e : Moment) (k : TokenRow Moment) → token_of s x ≡ Some k → k.end ≡ Some e → EndsAt s x e
span_of s (At (Begin n)) e k is ends = by (premise_in s.premises n) refl is
  where
    by : (p : Option Premise) → premise_in s.premises n ≡ p → (elim (as_root p) [ None ↦ None | Some y ↦ token_at s (At (Begin n)) y ]) ≡ Some k → EndsAt s (At (Begin n)) e
    by (Some (Span name fact)) found is =
        let (there, named) = finds s.premises n (Span name fact) found in
        record { name = n; fact = fact; begin = refl; end = cc; stands = subst (λ w. In (Span w fact) s.premises) named there }
    by (Some (Token name fact)) found is = cc
    by (Some (Event name kind)) found is = cc
    by (Some (Class name facts)) found is = cc
    by (Some (Kind name)) found is = cc
    by (Some (Point name)) found is = cc
    by (Some (Dist name from to lo hi)) found is = cc
    by (Some (Rule name trigger lo hi effect given unless_facts)) found is = cc
    by (Some (Protect name fact from to)) found is = cc
    by (Some (Against name one other)) found is = cc
    by None found is = cc
span_of s (At Start) e k is ends = cc
span_of s (At (End n)) e k is ends = cc
span_of s (After t r) e k is ends = by (sort_in s.premises (rule_of s r).effect) is
  where
    effect : List ℕ
    effect = (rule_of s r).effect

    by : (o : Option Sort) → (token_at s (After t r) (as_effect effect o)) ≡ Some k → EndsAt s (After t r) e
    by None is = cc
    by (Some sort) is = at (is_kind sort) is
      where
        at : (b : Bool) → (token_at s (After t r) (elim b [ true ↦ (AnEvent, effect) | false ↦ (APersistence, effect) ])) ≡ Some k → EndsAt s (After t r) e
        at true is = cc
        at false is = cc

module _ (s : Standing) (sound : IsSound s) where
  pub end_declared : (x e : Moment) → EndsAt s x e → (p : PointName) × (e ≡ At p) × Contains (points_in s.premises) p
  end_declared x e is =
      (End is.name, is.end, Contains-from_In (points_in s.premises) (End is.name) (inr (flat_map-In points_of s.premises (Span is.name is.fact) (End is.name) is.stands (inr (inl refl)))))

  pub ends_later : (x e : Moment) → EndsAt s x e → date (built s) x <ℤ date (built s) e
  ends_later x e is =
      subst (λ z. date (built s) z <ℤ date (built s) e) (sym is.begin)
      (subst (λ z. date (built s) (At (Begin is.name)) <ℤ date (built s) z) (sym is.end)
      (by (date (built s) (At (Begin is.name))) (date (built s) (At (End is.name)))
      (date_met s sound (arc_of (length_step is.name)) (Contains-from_In (arcs_in s.premises) (arc_of (length_step is.name)) (flat_map-In arcs_of s.premises (Span is.name is.fact) (arc_of (length_step is.name)) is.stands (inr (inl refl)))))))
    where
      by : (b e : ℤ) → (b -ℤ e) ≤ℤ negsuc 0 → b <ℤ e
      by b e h = omega (arith, ints)

  -- ---- what holds

  -- the token k, which has this end or none, holds on the day d
  abbrev pub Lasts : ℕ → TokenRow Moment → Option Moment → Type 0
  Lasts d k (Some e) = pos d <ℤ date (built s) e
  Lasts d k None =
      (c : TokenRow Moment) → In c (tokens s (all s sound)) → contradicts_in s k c ≡ true → date (built s) k.spot <ℤ date (built s) c.spot → date (built s) c.spot ≤ℤ pos d → ⊥

  pub record Holds (d : ℕ) (k : TokenRow Moment) : Type 0 where
    pub among : In k (tokens s (all s sound))
    pub begun : date (built s) k.spot ≤ℤ pos d
    pub lasts : Lasts d k k.end

  -- the tokens of a day are those of all that come on it
  came : (d : ℕ) → d ≤ suc s.horizon → (k : TokenRow Moment) → In k (tokens s (coming s sound d)) → In k (tokens s (all s sound)) × (date (built s) k.spot ≡ pos d)
  came d le k at =
      let (x, there, is) = In-filter_map (token_of s) (coming s sound d) k at in
      let (known_x, on) = In-filter (comes_on (built s) d) (known s sound d) x there in (
        filter_map-In (token_of s) (all s sound) x k (known_all s sound d le x known_x) is,
        ap (date (built s)) (spot-token_of s x k is) ∙ (Decides-int_eq (date (built s) x) (pos d)).0 on,
      )

  comes : (d : ℕ) → d ≤ suc s.horizon → (k : TokenRow Moment) → In k (tokens s (all s sound)) → date (built s) k.spot ≡ pos d → In k (tokens s (coming s sound d))
  comes d le k at on =
      let (x, there, is) = In-filter_map (token_of s) (all s sound) k at in
      let on_x : date (built s) x ≡ pos d = ap (date (built s)) (sym (spot-token_of s x k is)) ∙ on in
      filter_map-In (token_of s) (coming s sound d) x k
      (filter-In (comes_on (built s) d) (known s sound d) x (all_known s sound d le x there (exactly (date (built s) x) d on_x)) ((Decides-int_eq (date (built s) x) (pos d)).1 on_x)) is
    where
      exactly : (z : ℤ) (d : ℕ) → z ≡ pos d → z ≤ℤ pos d
      exactly z d e = omega (arith, ints)

  -- a token that comes on a day lasts on it
  lasts_first : (d : ℕ) (k : TokenRow Moment) → In k (tokens s (all s sound)) → date (built s) k.spot ≡ pos d → (o : Option Moment) → k.end ≡ o → Lasts d k o
  lasts_first d k at on None ends = λ c there against after upto. never (date (built s) k.spot) (date (built s) c.spot) on after upto
    where
      never : (a b : ℤ) → a ≡ pos d → a <ℤ b → b ≤ℤ pos d → ⊥
      never a b e h g = omega (arith, ints)
  lasts_first d k at on (Some e) ends =
      let (x, there, is) = In-filter_map (token_of s) (all s sound) k at in
      later (date (built s) x) (date (built s) e) (ap (date (built s)) (sym (spot-token_of s x k is)) ∙ on) (ends_later x e (span_of s x e k is ends))
    where
      later : (b e : ℤ) → b ≡ pos d → b <ℤ e → pos d <ℤ e
      later b e is h = omega (arith, ints)

  coming_holds : (d : ℕ) → d ≤ suc s.horizon → (k : TokenRow Moment) → In k (tokens s (coming s sound d)) → Holds d k
  coming_holds d le k at =
      let (among, on) = came d le k at in
      record { among = among; begun = exactly (date (built s) k.spot) on; lasts = lasts_first d k among on k.end refl }
    where
      exactly : (z : ℤ) → z ≡ pos d → z ≤ℤ pos d
      exactly z e = omega (arith, ints)

  -- ---- from a day to the next

  -- what held the day before and goes on holds on
  keeps : (d : ℕ) → suc d ≤ suc s.horizon → (k : TokenRow Moment) (o : Option Moment) → Lasts d k o → goes_on (built s) (suc d) (tokens s (coming s sound (suc d))) k o ≡ true → Lasts (suc d) k o
  keeps d le k (Some e) lasts goes = by (date (built s) e) goes
    where
      by : (z : ℤ) → int_lt (pos (suc d)) z ≡ true → pos (suc d) <ℤ z
      by z h = grind (arith, ints)
  keeps d le k None lasts goes = λ c there against after upto. elim (last (date (built s) c.spot) upto) [
    | inl before ↦ lasts c there against after before
    | inr now ↦ denied c (comes (suc d) le c there now) against
  ]
    where
      last : (z : ℤ) → z ≤ℤ pos (suc d) → (z ≤ℤ pos d) ⊎ (z ≡ pos (suc d))
      last z h = by (int_eq z (pos (suc d))) refl
        where
          by : (e : Bool) → int_eq z (pos (suc d)) ≡ e → (z ≤ℤ pos d) ⊎ (z ≡ pos (suc d))
          by true e = inr ((Decides-int_eq z (pos (suc d))).0 e)
          by false e = inl (let ne : z ≡ pos (suc d) → ⊥ = λ q. let t : int_eq z (pos (suc d)) ≡ true = (Decides-int_eq z (pos (suc d))).1 q in cc in omega (arith, ints))

      denied : (c : TokenRow Moment) → In c (tokens s (coming s sound (suc d))) → contradicts_in s k c ≡ true → ⊥
      denied c at against =
          let any : is_contradicted (built s) (tokens s (coming s sound (suc d))) k ≡ true = In-list_any (contradicts_in s k) (tokens s (coming s sound (suc d))) c at against in
          let none : not (is_contradicted (built s) (tokens s (coming s sound (suc d))) k) ≡ true = goes in
          cc

  -- what holds, and did not come today, held the day before and goes on
  went : (d : ℕ) → suc d ≤ suc s.horizon → (k : TokenRow Moment) → date (built s) k.spot ≤ℤ pos d → (o : Option Moment) → Lasts (suc d) k o → Lasts d k o × (goes_on (built s) (suc d) (tokens s (coming s sound (suc d))) k o ≡ true)
  went d le k begun (Some e) lasts = (sooner (date (built s) e) lasts, by (date (built s) e) lasts)
    where
      sooner : (z : ℤ) → pos (suc d) <ℤ z → pos d <ℤ z
      sooner z h = omega (arith, ints)

      by : (z : ℤ) → pos (suc d) <ℤ z → int_lt (pos (suc d)) z ≡ true
      by z h = grind (arith, ints)
  went d le k begun None lasts = (
    (λ c there against after upto. lasts c there against after (wider (date (built s) c.spot) upto)),
    by (is_contradicted (built s) (tokens s (coming s sound (suc d))) k) refl,
  )
    where
      wider : (z : ℤ) → z ≤ℤ pos d → z ≤ℤ pos (suc d)
      wider z h = omega (arith, ints)

      rises : (a b : ℤ) → a ≤ℤ pos d → b ≡ pos (suc d) → (a <ℤ b) × (b ≤ℤ pos (suc d))
      rises a b h e = (omega (arith, ints), omega (arith, ints))

      by : (b : Bool) → is_contradicted (built s) (tokens s (coming s sound (suc d))) k ≡ b → not b ≡ true
      by false e = refl
      by true e =
          let (c, at, against) = list_any-In (contradicts_in s k) (tokens s (coming s sound (suc d))) e in
          let (among, on) = came (suc d) le c at in
          let (after, upto) = rises (date (built s) k.spot) (date (built s) c.spot) begun on in
          absurd (lasts c among against after upto)

  -- **What holds on a day**: each token that has begun by it and lasts.
  pub held : (d : ℕ) → d ≤ suc s.horizon → (k : TokenRow Moment) → In k (holding s sound d) ↔ Holds d k
  held zero le k = (
    (λ at. elim (In-cases (tokens s (coming s sound 0)) [] k (subst (In k) (holding-first s sound) at)) [
      | inl now ↦ coming_holds 0 le k now
      | inr never ↦ absurd never
    ]),
    (λ holds. subst (In k) (sym (holding-first s sound)) (In-left (tokens s (coming s sound 0)) [] k (comes 0 le k holds.among (first (date (built s) k.spot) (not_before k holds.among) holds.begun)))),
  )
    where
      first : (z : ℤ) → pos 0 ≤ℤ z → z ≤ℤ pos 0 → z ≡ pos 0
      first z h g = omega (arith, ints)

      not_before : (k : TokenRow Moment) → In k (tokens s (all s sound)) → pos 0 ≤ℤ date (built s) k.spot
      not_before k at =
          let (x, there, is) = In-filter_map (token_of s) (all s sound) k at in
          subst (λ z. pos 0 ≤ℤ date (built s) z) (sym (spot-token_of s x k is)) ((sound_timed s sound).not_before_start x (all_occur s sound x there))
  held (suc d) le k = (
    (λ at. elim (In-cases now (filter goes (holding s sound d)) k (subst (In k) (holding-next s sound d) at)) [
      | inl comes_now ↦ coming_holds (suc d) le k comes_now
      | inr before ↦
          let (there, goes_k) = In-filter goes (holding s sound d) k before in
          let h = (held d (omega arith) k).0 there in
          record { among = h.among; begun = wider (date (built s) k.spot) h.begun; lasts = keeps d le k k.end h.lasts goes_k }
    ]),
    (λ h. subst (In k) (sym (holding-next s sound d)) (elim (last (date (built s) k.spot) h.begun) [
      | inl before ↦
          let (lasts, goes_k) = went d le k before k.end h.lasts in
          In-right now (filter goes (holding s sound d)) k (filter-In goes (holding s sound d) k ((held d (omega arith) k).1 (record { among = h.among; begun = before; lasts = lasts })) goes_k)
      | inr on ↦ In-left now (filter goes (holding s sound d)) k (comes (suc d) le k h.among on)
    ])),
  )
    where
      now : List (TokenRow Moment)
      now = tokens s (coming s sound (suc d))

      goes : TokenRow Moment → Bool
      goes = holds_on (built s) (suc d) now

      wider : (z : ℤ) → z ≤ℤ pos d → z ≤ℤ pos (suc d)
      wider z h = omega (arith, ints)

      last : (z : ℤ) → z ≤ℤ pos (suc d) → (z ≤ℤ pos d) ⊎ (z ≡ pos (suc d))
      last z h = by (int_eq z (pos (suc d))) refl
        where
          by : (e : Bool) → int_eq z (pos (suc d)) ≡ e → (z ≤ℤ pos d) ⊎ (z ≡ pos (suc d))
          by true e = inr ((Decides-int_eq z (pos (suc d))).0 e)
          by false e = inl (let ne : z ≡ pos (suc d) → ⊥ = λ q. let t : int_eq z (pos (suc d)) ≡ true = (Decides-int_eq z (pos (suc d))).1 q in cc in omega (arith, ints))
