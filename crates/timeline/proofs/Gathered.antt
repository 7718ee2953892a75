-- The entries of all that occurs, the last day first.
use Rattle.std.proofs.Common.{◌≡◌, ◌∙◌, ℕ, suc, Bool, true, false, List, [], ◌∷◌, ◌++◌, map, refl, sym, ap, subst, inl, inr, arith}
use Rattle.std.proofs.lemmas.Int.{ints}
use Rattle.std.proofs.lemmas.Bool.Decides.{Decides-int_eq}
use Rattle.std.proofs.lemmas.List.{map-append}
use Rattle.std.specs.Prelude.{Option, ℤ, pos, ◌≤ℤ◌, int_le, filter}
use Rattle.std.specs.Option.{option_map_or}
use Rattle.std.specs.Prelude.{◌⊎◌}
use Rattle.std.specs.Ordering.{int_eq}
use Rattle.tmm_model.specs.declared.bound.Bound.{Bound}
use Rattle.tmm_model.specs.declared.bound.Bound.TheVariants.{Free}
use Rattle.tmm_model.specs.Beliefs.{is_of}
use Rattle.tmm_model.specs.Bounds.{lesser}
use Rattle.tmm_model.specs.Maps.{built}
use Rattle.tmm_model.specs.Moments.{Moment, printed}
use Rattle.tmm_model.specs.Standing.{Standing}
use Rattle.list_theory.specs.WellNamed.{IsSound}
use Rattle.list_theory.proofs.Distinct.{Distinct, Distinct-append, Distinct-filter}
use Rattle.list_theory.proofs.Elements.{In, In-left, In-right, In-cases, In-filter, filter-In, map-In}
use Rattle.belief_theory.specs.Right.{Occurs}
use Rattle.belief_theory.proofs.Moments.{printed-moment_of}
use Rattle.belief_theory.proofs.SoundBeliefs.{sound_timed}
use Rattle.timeline.specs.declared.entry.Entry.{Entry}
use Rattle.timeline.specs.declared.row.Held.{Held}
use Rattle.timeline.specs.declared.row.Row.{Row}
use Rattle.timeline.specs.declared.until.Coming.{Coming}
use Rattle.timeline.specs.Calendars.{comes_from}
use Rattle.timeline.specs.Days.{date, comes_on, played, until}
use Rattle.timeline.specs.Entries.{occurs_in, IsEntryOf, AreEntriesOf, AddsEntries, IsEntry, AreEntries}
use Rattle.timeline.specs.Rows.{moment, IsRowOf, AreRowsOf}
use Rattle.timeline.specs.Until.{least_by, coming_bound, row_bound, until_row, until_later}
use Rattle.timeline.proofs.Ahead.{Ahead, first_ahead, next_ahead, until_ahead, until_among_later}
use Rattle.timeline.proofs.Once.{known_occurs, known_once}

-- ---- the entries of rows

made_moments : (until : Row → Option Bound) (rows : List Row) (made : List Entry) → AreEntriesOf until rows made → map occurs_in made ≡ map moment rows
made_moments until [] [] all = refl
made_moments until (r ∷ rows) (e ∷ made) all = λ i. all.0.is i ∷ made_moments until rows made all.1 i
made_moments until [] (e ∷ made) all = absurd all
made_moments until (r ∷ rows) [] all = absurd all

made_from : (until : Row → Option Bound) (rows : List Row) (made : List Entry) → AreEntriesOf until rows made → (e : Entry) → In e made → (r : Row) × In r rows × IsEntryOf r (until r) e
made_from until [] [] all e at = absurd at
made_from until (r ∷ rows) (y ∷ made) all e (inl is) = (r, inl refl, subst (IsEntryOf r (until r)) is all.0)
made_from until (r ∷ rows) (y ∷ made) all e (inr at) = let (x, there, own) = made_from until rows made all.1 e at in (x, inr there, own)
made_from until [] (y ∷ made) all e at = absurd all
made_from until (r ∷ rows) [] all e at = absurd at

module _ (s : Standing) (sound : IsSound s) where
  entry_is : (r : Row) (lasting : Option Bound) (e : Entry) → IsRowOf (built s) r → IsEntryOf r lasting e → lasting ≡ until (built s) (played (built s)) (moment r) → IsEntry (built s) e
  entry_is r lasting e own is lasts = record {
    occurs = subst (Occurs s) (sym is.is) own.occurs;
    word = is.word ∙ sym (printed-moment_of r.occ) ∙ ap printed (sym is.is);
    row = λ i. record {
      date = (is.date ∙ own.date ∙ ap (date (built s)) (sym is.is)) i;
      occ = occurs_in e;
      what = (is.what ∙ sym (ap (λ o. option_map_or (λ y. y.1) o []) own.is) ∙ ap (λ x. option_map_or (λ y. y.1) (is_of s x) []) (sym is.is)) i;
      until = (is.until ∙ lasts ∙ ap (until (built s) (played (built s))) (sym is.is)) i;
    };
  }

  -- from a day on all is gathered
  pub record IsGathered (d : ℕ) (coming : List Coming) (entries : List Entry) : Type 0 where
    pub ahead : (e : ℕ) → suc e ≡ d → Ahead (built s) (played (built s)) e coming
    pub each : (e : Entry) → In e entries → IsEntry (built s) e
    pub once : Distinct (map occurs_in entries)
    pub into : (x : Moment) → In x (map occurs_in entries) → In x (played (built s)) × (pos d ≤ℤ date (built s) x)
    pub back : (x : Moment) → In x (played (built s)) → pos d ≤ℤ date (built s) x → In x (map occurs_in entries)

  -- what comes after the horizon is gathered first
  pub gathered_later : (rows : List Row) (coming : List Coming) (entries : List Entry) → AreRowsOf (built s) rows → map moment rows ≡ filter (comes_from (built s) (suc s.horizon)) (played (built s))
      → ((q : Held → Bool) → least_by (coming_bound q) coming ≡ lesser (least_by (row_bound q) rows) Free) → AddsEntries rows (until_later s rows) [] entries → IsGathered (suc s.horizon) coming entries
  gathered_later rows coming entries all are noted adds = record {
    ahead = λ e is. subst (λ h. Ahead (built s) (played (built s)) h coming) (same e is) (first_ahead (built s) (played (built s)) s.horizon rows coming all are noted);
    each = λ e at. (
        let (r, there, own) = made_from (until_later s rows) rows adds.made adds.own e (subst (In e) adds.grown at) in
        entry_is r (until_later s rows r) e (all r there) own (until_among_later (built s) (played (built s)) (suc s.horizon) rows r all are (all r there) (subst (λ z. pos (suc s.horizon) ≤ℤ z) (sym (all r there).date) (late (moment r) (subst (In (moment r)) are (map-In moment rows r there))))));
    once = subst Distinct (sym moments) (Distinct-filter (comes_from (built s) (suc s.horizon)) (played (built s)) (known_once s sound (suc s.horizon)));
    into = λ x at. (let there = subst (In x) moments at in ((In-filter (comes_from (built s) (suc s.horizon)) (played (built s)) x there).0, late x there));
    back = λ x at dated. subst (In x) (sym moments) (filter-In (comes_from (built s) (suc s.horizon)) (played (built s)) x at (passes (date (built s) x) dated));
  }
    where
      moments : map occurs_in entries ≡ filter (comes_from (built s) (suc s.horizon)) (played (built s))
      moments = ap (map occurs_in) adds.grown ∙ made_moments (until_later s rows) rows adds.made adds.own ∙ are

      same : (e : ℕ) → suc e ≡ suc s.horizon → s.horizon ≡ e
      same e is = omega arith

      passes : (z : ℤ) → pos (suc s.horizon) ≤ℤ z → int_le (pos (suc s.horizon)) z ≡ true
      passes z h = grind (arith, ints)

      fails : (z : ℤ) → int_le (pos (suc s.horizon)) z ≡ true → pos (suc s.horizon) ≤ℤ z
      fails z h = grind (arith, ints)

      late : (x : Moment) → In x (filter (comes_from (built s) (suc s.horizon)) (played (built s))) → pos (suc s.horizon) ≤ℤ date (built s) x
      late x at = fails (date (built s) x) (In-filter (comes_from (built s) (suc s.horizon)) (played (built s)) x at).1

  -- and then each day before
  pub gathered_day : (d : ℕ) (rows : List Row) (old new : List Coming) (before after_ : List Entry) → AreRowsOf (built s) rows → map moment rows ≡ filter (comes_on (built s) d) (played (built s))
      → IsGathered (suc d) old before → AddsEntries rows (until_row s old) before after_ → ((q : Held → Bool) → least_by (coming_bound q) new ≡ lesser (least_by (row_bound q) rows) (least_by (coming_bound q) old)) → IsGathered d new after_
  gathered_day d rows old new before after_ all are gathered adds noted = record {
    ahead = λ e is. next_ahead (built s) (played (built s)) e rows old new all (subst (λ n. map moment rows ≡ filter (comes_on (built s) n) (played (built s))) (sym is) are) (subst (λ n. Ahead (built s) (played (built s)) n old) (sym is) (gathered.ahead d refl)) noted;
    each = λ e at. elim (In-cases before adds.made e (subst (In e) adds.grown at)) [
      | inl there ↦ gathered.each e there
      | inr there ↦ (
          let (r, row_at, own) = made_from (until_row s old) rows adds.made adds.own e there in
          entry_is r (until_row s old r) e (all r row_at) own (until_ahead (built s) (played (built s)) d old r (all r row_at) (today (moment r) (subst (In (moment r)) are (map-In moment rows r row_at))) (gathered.ahead d refl)))
    ];
    once = subst Distinct (sym moments) (Distinct-append (map occurs_in before) coming gathered.once (Distinct-filter (comes_on (built s) d) (played (built s)) (known_once s sound (suc s.horizon)))
        (λ x one other. apart (date (built s) x) (gathered.into x one).1 (today x other)));
    into = λ x at. elim (In-cases (map occurs_in before) coming x (subst (In x) moments at)) [
      | inl there ↦ ((gathered.into x there).0, sooner (date (built s) x) (gathered.into x there).1)
      | inr there ↦ ((In-filter (comes_on (built s) d) (played (built s)) x there).0, now (date (built s) x) (today x there))
    ];
    back = λ x at dated. subst (In x) (sym moments) (elim (either (date (built s) x) dated) [
      | inl is ↦ In-right (map occurs_in before) coming x (filter-In (comes_on (built s) d) (played (built s)) x at ((Decides-int_eq (date (built s) x) (pos d)).1 is))
      | inr behind ↦ In-left (map occurs_in before) coming x (gathered.back x at behind)
    ]);
  }
    where
      coming : List Moment
      coming = filter (comes_on (built s) d) (played (built s))

      moments : map occurs_in after_ ≡ map occurs_in before ++ coming
      moments = ap (map occurs_in) adds.grown ∙ map-append occurs_in before adds.made ∙ ap (λ l. map occurs_in before ++ l) (made_moments (until_row s old) rows adds.made adds.own ∙ are)

      today : (x : Moment) → In x coming → date (built s) x ≡ pos d
      today x at = (Decides-int_eq (date (built s) x) (pos d)).0 (In-filter (comes_on (built s) d) (played (built s)) x at).1

      apart : (z : ℤ) → pos (suc d) ≤ℤ z → z ≡ pos d → ⊥
      apart z h e = omega (arith, ints)

      sooner : (z : ℤ) → pos (suc d) ≤ℤ z → pos d ≤ℤ z
      sooner z h = omega (arith, ints)

      now : (z : ℤ) → z ≡ pos d → pos d ≤ℤ z
      now z e = omega (arith, ints)

      either : (z : ℤ) → pos d ≤ℤ z → (z ≡ pos d) ⊎ (pos (suc d) ≤ℤ z)
      either z h = by (int_eq z (pos d)) refl
        where
          by : (b : Bool) → int_eq z (pos d) ≡ b → (z ≡ pos d) ⊎ (pos (suc d) ≤ℤ z)
          by true e = inl ((Decides-int_eq z (pos d)).0 e)
          by false e = inr (grind (arith, ints))

  -- **All days gathered are all that occurs.**
  pub all_gathered : (coming : List Coming) (entries : List Entry) → IsGathered 0 coming entries → AreEntries (built s) entries
  all_gathered coming entries gathered = record {
    each = gathered.each;
    once = gathered.once;
    into = λ x at. (gathered.into x at).0;
    back = λ x at. gathered.back x at ((sound_timed s sound).not_before_start x (known_occurs s sound (suc s.horizon) x at));
  }
