-- How nodes and rows begin.
use Rattle.std.proofs.Common.{◌≡◌, ◌∙◌, ℕ, Bool, true, false, ◌||◌, List, [], refl, sym, ap, subst, inl, inr}
use Rattle.std.specs.Prelude.{Option, Some, None, negsuc, pos, int_le}
use Rattle.std.specs.List.{Contains}
use Rattle.std.specs.Option.{option_map_or}
use Rattle.tmm_model.specs.declared.premise.Edit.{Edit}
use Rattle.tmm_model.specs.declared.token.Shape.{Shape}
use Rattle.tmm_model.specs.declared.token.Shape.TheVariants.{Event as AnEvent, Persistence as APersistence, Span as ASpan}
use Rattle.tmm_model.specs.declared.token.TokenRow.{TokenRow}
use Rattle.belief_theory.specs.Outcomes.{Outcome, beyond, tried, outcome}
use Rattle.tmm_model.specs.Beliefs.{due, supporters, against, class_of, end_of, token_at, token_of, rules_at}
use Rattle.tmm_model.specs.Edits.{next_list, list_until}
use Rattle.tmm_model.specs.Maps.{built}
use Rattle.tmm_model.specs.Moments.{Moment, After, Distances}
use Rattle.list_theory.specs.WellNamed.{IsSound}
use Rattle.tmm_model.specs.Standing.{Standing, far_in}
use Rattle.belief_theory.specs.Touched.{is_watched, is_decision, is_touched}
use Rattle.dist_net.specs.Net.{Net}
use Rattle.net_theory.specs.Represents.{Names}
use Rattle.spots.specs.Forest.{Forest, Member, moment, moment_at, IsLive}
use Rattle.spots.specs.OfLists.{IsMemberOf, class_for, map_of}
use Rattle.spots.proofs.Nodes.{node_at, live_at, moment_at-is}
use Rattle.revisions.specs.Maps.{revision, watches}
use Rattle.revisions.specs.Revisions.{Revision}
use Rattle.revisions.specs.Seeds.{IsSeeded}
use Rattle.revisions.proofs.Lawful.{lawful, of_occurs, occurs_of}
use Rattle.revisions.proofs.Seeding.{seeded}
use Rattle.revisions.proofs.SeedsRight.{stays_touched}
use Rattle.joined.specs.Gaps.{reads_class, reads_rival}
use Rattle.joined.specs.Netted.{IsNetted}
use Rattle.joined.specs.Rows.{Row, Rows, decision_of, IsWaiting}
use Rattle.joined.specs.Starting.{StartsAs, stood, comes, IsStart}
use Rattle.joined.proofs.Deciding.{not_both}
use Rattle.joined.proofs.Reading.{watched_either}

module _ (old : Standing) (edit : Edit) (net : Net) (b : List Moment) (f : Forest) (rows : Rows) (sound_old : IsSound old) (sound_new : IsSound (next_list old edit)) (s : IsStart old (next_list old edit) net b f rows) where
  abbrev new : Standing
  new = next_list old edit

  abbrev R : Revision
  R = revision (built old) (built (next_list old edit))

  -- the outcome before
  abbrev was : Moment → List ℕ → Outcome
  was = outcome old (far_in old.premises) (built old).believed

  -- the outcomes kept at the beginning
  abbrev kept_if : Bool → Outcome → Outcome
  kept_if true o = o
  kept_if false o = beyond

  kept : Moment → List ℕ → Outcome
  kept t r = kept_if (is_decision (built old) (t, r)) (was t r)

  kept_old : (t : Moment) (r : List ℕ) → is_decision (built old) (t, r) ≡ true → kept t r ≡ was t r
  unfolding kept
  kept_old t r e = ap (λ v. kept_if v (was t r)) e

  kept_new : (t : Moment) (r : List ℕ) → is_decision (built old) (t, r) ≡ false → kept t r ≡ beyond
  unfolding kept
  kept_new t r e = ap (λ v. kept_if v (was t r)) e

  in_b : (y : ℕ) → IsLive f y → Contains b (moment_at f y)
  in_b y live = let (m, there) = node_at f y live in subst (Contains b) (sym (moment_at-is f y m there)) (s.holds.own y m there)

  -- the row of a decision
  row_of : (t : Moment) (r : List ℕ) → Contains b t → Contains (rules_at new t) r → (i : ℕ) × (q : Row) × (rows i ≡ Some q) × (moment_at f q.trigger ≡ t) × (q.rule ≡ r)
  row_of t r at stands =
      let (y, m, there, is) = s.holds.all t at in
      let same = moment_at-is f y m there ∙ is in
      let (i, q, here, trigger, rule) = s.rows_are.each y r (live_at f y m there) (subst (λ z. Contains (rules_at new z) r) (sym same) stands) in
      (i, q, here, ap (moment_at f) trigger ∙ same, rule)

  from_row : (P : Moment → List ℕ → Type 0) (q : Row) (t : Moment) (r : List ℕ) → moment_at f q.trigger ≡ t → q.rule ≡ r → P (moment_at f q.trigger) q.rule → P t r
  from_row P q t r of_t of_r h = subst (λ z. P z r) of_t (subst (P (moment_at f q.trigger)) of_r h)

  waits_new : (t : Moment) (r : List ℕ) → Contains b t → Contains (rules_at new t) r → is_decision (built old) (t, r) ≡ false → IsWaiting f rows t r
  waits_new t r at stands e = let (i, q, here, of_t, of_r) = row_of t r at stands in (i, q, here, by q of_t of_r (s.start_as i q here), of_t, of_r)
    where
      by : (q : Row) → moment_at f q.trigger ≡ t → q.rule ≡ r → StartsAs old f q → q.waits ≡ true
      by q of_t of_r (stood was_one _) = absurd (not_both (is_decision (built old) (t, r)) (from_row (λ u o. is_decision (built old) (u, o) ≡ true) q t r of_t of_r was_one) e)
      by q of_t of_r (comes _ _ waits) = waits

  is_seeded : IsSeeded R b kept (IsWaiting f rows)
  is_seeded = record {
    root = s.seeds.root;
    derived = λ t r. (
      (λ at. let h = (s.seeds.derived t r).0 at in (h.0, occurs_of old edit sound_old sound_new (After t r) h.1)),
      (λ h. (s.seeds.derived t r).1 (h.0, of_occurs old edit sound_old sound_new (After t r) h.1)),
    );
    old_rows = λ t r at stands was_one. kept_old t r was_one;
    new_rows = λ t r at stands e. (waits_new t r at stands e, kept_new t r e);
    right = λ t r at stands was_one. (
        let (i, q, here, of_t, of_r) = row_of t r at stands in
        elim (s.marked.right i q here) [
          | inl waits ↦ inl (i, q, here, waits, of_t, of_r)
          | inr same ↦ inr (from_row (λ u o. was u o ≡ outcome new (far_in new.premises) b u o) q t r of_t of_r same)
        ]);
    waits = λ t r w. (
      subst (Contains b) w.4 (in_b w.1.trigger (s.rows_are.own w.0 w.1 w.2).0),
      from_row (λ u o. Contains (rules_at new u) o) w.1 t r w.4 w.5 (s.rows_are.own w.0 w.1 w.2).1,
    );
    touched = λ t r w believed. elim (s.marked.touched w.0 w.1 w.2 w.3) [
      | inl first ↦ stays_touched old edit sound_old sound_new b s.seeds t r (from_row (λ u o. Contains (rules_at new u) o) w.1 t r w.4 w.5 (s.rows_are.own w.0 w.1 w.2).1) (from_row (λ u o. is_touched (built old) (map_of new b) (u, o) ≡ true) w.1 t r w.4 w.5 first)
      | inr last ↦ from_row (λ u o. is_touched (built old) (built new) (u, o) ≡ true) w.1 t r w.4 w.5 last
    ];
  }

  told : (q : Row) → StartsAs old f q → q.found ≡ decision_of (kept (moment_at f q.trigger) q.rule)
  told q (stood was_one is) = is ∙ ap decision_of (sym (kept_old (moment_at f q.trigger) q.rule was_one))
  told q (comes was_none none waits) = none ∙ ap decision_of (sym (kept_new (moment_at f q.trigger) q.rule was_none))

  pub started : IsNetted old (next_list old edit) net f rows []
  started = record {
    nodes = b;
    kept = kept;
    date = negsuc 0;
    seen = s.seen;
    holds = s.holds;
    keeping = seeded R (lawful old edit sound_old sound_new) b kept (IsWaiting f rows) is_seeded;
    rows_are = s.rows_are;
    told = λ i q at. told q (s.start_as i q at);
  }

pub reads_by_class : (s : Standing) (names : Names) (m : Member) (r : List ℕ) → IsMemberOf s names m
    → watches s r (moment m) ≡ option_map_or (λ class. reads_class s r class || reads_rival s r m.what) m.class false
reads_by_class s names m r own = ap (λ o. tells (token o)) own.is ∙ by m.shape ∙ ap (λ o. option_map_or watched_class o false) (sym own.class)
  where
    token : Option (Shape × List ℕ) → Option (TokenRow Moment)
    token o = elim o as (λ _. Option (TokenRow Moment)) [ None ↦ None | Some y ↦ token_at s (moment m) y ]

    tells : Option (TokenRow Moment) → Bool
    tells o = elim o as (λ _. Bool) [ None ↦ false | Some k ↦ is_watched s r k ]

    watched_class : List ℕ → Bool
    watched_class class = reads_class s r class || reads_rival s r m.what

    by : (shape : Shape) → tells (token (Some (shape, m.what))) ≡ option_map_or watched_class (class_for s shape m.what) false
    by AnEvent = refl
    by APersistence = watched_either s r (record { spot = moment m; end = None; fact = m.what; class = class_of s m.what })
    by ASpan = watched_either s r (record { spot = moment m; end = Some (end_of (moment m)); fact = m.what; class = class_of s m.what })

-- the token of a node is of what the node is
pub fact_is : (s : Standing) (names : Names) (m : Member) → IsMemberOf s names m → (k : TokenRow Moment) → token_of s (moment m) ≡ Some k → k.fact ≡ m.what
fact_is s names m own k is = by m.shape (sym (ap token own.is) ∙ is)
  where
    token : Option (Shape × List ℕ) → Option (TokenRow Moment)
    token o = elim o as (λ _. Option (TokenRow Moment)) [ None ↦ None | Some y ↦ token_at s (moment m) y ]

    one_fact : {j l : TokenRow Moment} → Some j ≡ Some l → l.fact ≡ j.fact
    one_fact {j} {l} e = let one : j ≡ l = cc in ap (λ (z : TokenRow Moment). z.fact) (sym one)

    by : (shape : Shape) → token (Some (shape, m.what)) ≡ Some k → k.fact ≡ m.what
    by AnEvent e = cc
    by APersistence e = one_fact e
    by ASpan e = one_fact e

pub horizons_keep : (s : Standing) (n : ℕ) (far : Distances) (b : List Moment) (t : Moment) (r : List ℕ)
    → int_le (due s far t r) (pos s.horizon) ≡ int_le (due s far t r) (pos n)
    → outcome s far b t r ≡ outcome (list_until s n) far b t r
horizons_keep s n far b t r e = ap (λ v. elim v as (λ _. Outcome) [ false ↦ beyond | true ↦ tried (supporters s far b t r) (against s far b t r) ]) e
