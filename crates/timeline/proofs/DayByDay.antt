-- A day played: what is known before the next one.
use Rattle.std.proofs.Common.{◌≡◌, ◌≢◌, ◌∙◌, ℕ, zero, suc, ◌+◌, ◌<◌, ◌≤◌, Bool, true, false, List, [], ◌∷◌, ◌++◌, map, length, refl, sym, ap, subst, inl, inr, append-nil, arith}
use Rattle.std.proofs.lemmas.Int.{ints}
use Rattle.std.specs.Prelude.{ℤ, pos, ◌≤ℤ◌, ◌<ℤ◌, ◌+ℤ◌, filter, sum_by, cond}
use Rattle.std.specs.List.{flat_map, Contains}
use Rattle.std.specs.Ordering.{int_eq}
use Rattle.std.proofs.lemmas.Bool.{cases_lt}
use Rattle.std.proofs.lemmas.Bool.Decides.{eqb_tells, Decides-int_eq}
use Rattle.std.proofs.lemmas.List.Elements.{filter-append}
use Rattle.std.proofs.lemmas.List.Sums.{sum_by-append}
use Rattle.tmm_model.specs.declared.refusal.Stop.{Stop}
use Rattle.tmm_model.specs.declared.token.TokenRow.{TokenRow}
use Rattle.tmm_model.specs.Answers.{weight, most_size}
use Rattle.tmm_model.specs.Beliefs.{roots, tokens, rules_at}
use Rattle.tmm_model.specs.Maps.{TimeMap, built}
use Rattle.tmm_model.specs.Moments.{Moment, After, rule_of}
use Rattle.tmm_model.specs.Standing.{Standing}
use Rattle.belief_theory.specs.KeptLists.{IsKept}
use Rattle.list_theory.proofs.Elements.{In, In-filter, In-map, map-In, In-flat_map, Contains-from_In}
use Rattle.timeline.specs.declared.calendar.Calendar.{Calendar}
use Rattle.timeline.specs.declared.row.Held.{Held}
use Rattle.timeline.specs.declared.row.Row.{Row}
use Rattle.timeline.specs.Calendars.{rows_on, comes_from, AreAllRows, Brought, IsBefore, AreSame}
use Rattle.timeline.specs.Days.{Day, date, comes_on, holding_on, is_held, brings_about, effects_of, next_day, before_day, played}
use Rattle.timeline.specs.Holding.{is_held as is_held_here, IsHeldOn}
use Rattle.timeline.specs.Rows.{moment, held_of, helds, AreRowsOf}
use Rattle.timeline.specs.Told.{IsTooLarge, StopsTimeline}
use Rattle.timeline.proofs.Bringing.{too_large-more}
use Rattle.timeline.proofs.Held.{helds-tokens, same_facts, next_same}
use Rattle.timeline.proofs.Rows.{effect_date, delayed}

-- ---- the definition, a day at a time

pub next_day-is : (m : TimeMap) (d : ℕ) → before_day m (suc d) ≡ next_day m d (before_day m d)
unfolding before_day
next_day-is m d = refl

pub first_day-is : (m : TimeMap) → (before_day m 0).holding ≡ []
unfolding before_day
first_day-is m = refl

pub first_known-is : (m : TimeMap) → (before_day m 0).played ≡ roots m.list
unfolding before_day
first_known-is m = refl

-- what is known counts no less on later days
pub sizes_rise : (m : TimeMap) (d n : ℕ) → d ≤ n → sum_by (weight m) (before_day m d).played ≤ sum_by (weight m) (before_day m n).played
sizes_rise m d zero le = let none : d ≡ 0 = omega arith in subst (λ k. sum_by (weight m) (before_day m k).played ≤ sum_by (weight m) (before_day m 0).played) (sym none) (omega arith)
sizes_rise m d (suc n) le = elim (cases_lt d (suc n)) [
  | inl below ↦ (
      let now = before_day m n in
      let coming = filter (comes_on m n) now.played in
      let more = flat_map (effects_of m (is_held (holding_on m n (tokens m.list coming) now.holding))) coming in
      let whole : sum_by (weight m) (before_day m (suc n)).played ≡ sum_by (weight m) now.played + sum_by (weight m) more =
      ap (λ (y : Day). sum_by (weight m) y.played) (next_day-is m n) ∙ sum_by-append (weight m) now.played more in
      omega (arith, sizes_rise m d n (omega arith), whole))
  | inr past ↦ (
      let last : d ≡ suc n = omega arith in
      subst (λ k. sum_by (weight m) (before_day m k).played ≤ sum_by (weight m) (before_day m (suc n)).played) (sym last) (omega arith))
]

filter_none : {X : Type 0} (p : X → Bool) (xs : List X) → ((x : X) → In x xs → p x ≡ false) → filter p xs ≡ []
filter_none p [] none = refl
filter_none p (x ∷ xs) none = ap (λ b. cond b (x ∷ filter p xs) (filter p xs)) (none x (inl refl)) ∙ filter_none p xs (λ y at. none y (inr at))

-- ---- a day of the code

module _ (s : Standing) (kept : IsKept s) (d : ℕ) (in_time : d ≤ s.horizon) (c0 : Calendar) (before : IsBefore (built s) d c0) (today : List Row) (taken : today ≡ rows_on c0.days.items d)
    (here next : List Held) (same : AreSame (built s) here (before_day (built s) d).holding) (on : IsHeldOn s d (helds today) here next) where
  abbrev known : List Moment
  known = (before_day (built s) d).played

  abbrev coming : List Moment
  coming = filter (comes_on (built s) d) (before_day (built s) d).played

  abbrev holding : List (TokenRow Moment)
  holding = holding_on (built s) d (tokens s (filter (comes_on (built s) d) (before_day (built s) d).played)) (before_day (built s) d).holding

  -- what the code finds that the day brings
  abbrev effects : List Moment
  effects = flat_map (effects_of (built s) (is_held_here next)) (map moment today)

  today_is : map moment today ≡ coming
  today_is = ap (map moment) taken ∙ before.days d (omega (arith, before.len))

  pub today_rows : AreRowsOf (built s) today
  today_rows r at = before.rows.days d r (subst (In r) taken at)

  held_same : AreSame (built s) next holding
  held_same =
      next_same (built s) d (tokens s coming) (before_day (built s) d).holding (helds today) here next same
      (helds-tokens (built s) today today_rows ∙ ap (λ l. map (held_of (built s)) (tokens s l)) today_is) on

  -- what holds on the day holds before the next
  pub held_next : AreSame (built s) next (before_day (built s) (suc d)).holding
  held_next = subst (λ (y : Day). AreSame (built s) next y.holding) (sym (next_day-is (built s) d)) held_same

  effects_are : effects ≡ flat_map (effects_of (built s) (is_held holding)) coming
  effects_are = λ i. flat_map (effects_of (built s) (same_facts (built s) next holding held_same i)) (today_is i)

  -- what is known before the next day
  pub known_next : (before_day (built s) (suc d)).played ≡ known ++ effects
  known_next = ap (λ (y : Day). y.played) (next_day-is (built s) d) ∙ ap (λ l. known ++ l) (sym effects_are)

  size_next : sum_by (weight (built s)) (before_day (built s) (suc d)).played ≡ c0.size + sum_by (weight (built s)) effects
  size_next = ap (sum_by (weight (built s))) known_next ∙ sum_by-append (weight (built s)) known effects ∙ ap (λ n. n + sum_by (weight (built s)) effects) (sym before.size)

  -- where the day brings too much, all is too large
  pub day_too_large : (stop : Stop) → IsTooLarge (c0.size + sum_by (weight (built s)) effects) stop → StopsTimeline (built s) stop
  day_too_large stop h =
      too_large-more (c0.size + sum_by (weight (built s)) effects) (sum_by (weight (built s)) (played (built s))) stop (omega (arith, size_next, sizes_rise (built s) (suc d) (suc s.horizon) (omega arith))) h

  -- an effect of a row of the day comes later than the day
  later_than : (row : Row) (r : List ℕ) → In row today → Contains (rules_at s (moment row)) r → pos d <ℤ date (built s) (After (moment row) r)
  later_than row r at stands =
      let own = today_rows row at in
      let (_, now) = In-filter (comes_on (built s) d) known (moment row) (subst (In (moment row)) today_is (map-In moment today row at)) in
      let dated : date (built s) (moment row) ≡ pos d = (Decides-int_eq (date (built s) (moment row)) (pos d)).0 now in
      let long = delayed s kept.sound (moment row) r stands in
      let is = effect_date s kept.sound row r own stands in
      by (date (built s) (After (moment row) r)) row.date (rule_of s r).lo (own.date ∙ dated) long is
    where
      by : (x y lo : ℤ) → y ≡ pos d → pos 1 ≤ℤ lo → x ≡ (y +ℤ lo) → pos d <ℤ x
      by x y lo e f g = omega (arith, ints)

  later : (x : Moment) → In x effects → pos d <ℤ date (built s) x
  later x at =
      let (t, there, from) = In-flat_map (effects_of (built s) (is_held_here next)) (map moment today) x at in
      let (row, row_at, row_is) = In-map moment today t there in
      let from_row = subst (λ t. In x (effects_of (built s) (is_held_here next) t)) (sym row_is) from in
      let (r, passes, is) = In-map (After (moment row)) (filter (brings_about (built s) (is_held_here next) (moment row)) (rules_at s (moment row))) x from_row in
      let (rule, _) = In-filter (brings_about (built s) (is_held_here next) (moment row)) (rules_at s (moment row)) r passes in
      subst (λ z. pos d <ℤ date (built s) z) is (later_than row r row_at (Contains-from_In (rules_at s (moment row)) r rule))

  not_today : filter (comes_on (built s) d) effects ≡ []
  not_today = filter_none (comes_on (built s) d) effects (λ x at. by x (int_eq (date (built s) x) (pos d)) refl (later x at))
    where
      by : (x : Moment) (b : Bool) → int_eq (date (built s) x) (pos d) ≡ b → pos d <ℤ date (built s) x → int_eq (date (built s) x) (pos d) ≡ false
      by x false e less = e
      by x true e less = let same_date : date (built s) x ≡ pos d = (Decides-int_eq (date (built s) x) (pos d)).0 e in absurd (omega (arith, ints))

  -- **The day played**: its rows taken out, what it brings entered, and its rows put back.
  pub day_played : (c1 c2 c3 : Calendar)
      → rows_on c1.days.items d ≡ [] → length c1.days.items ≡ length c0.days.items → ((i : ℕ) → i ≢ d → rows_on c1.days.items i ≡ rows_on c0.days.items i) → c1.later ≡ c0.later → c1.size ≡ c0.size
      → Brought (built s) effects c1 c2
      → rows_on c3.days.items d ≡ today → length c3.days.items ≡ length c2.days.items → ((i : ℕ) → i ≢ d → rows_on c3.days.items i ≡ rows_on c2.days.items i) → c3.later ≡ c2.later → c3.size ≡ c2.size
      → IsBefore (built s) (suc d) c3
  day_played c1 c2 c3 none len1 others1 later1 size1 brings put len3 others3 later3 size3 = record {
    len = lens ∙ before.len;
    days = λ i below. elim (eqb_tells i d) [
      | inl is ↦ subst (λ j. map moment (rows_on c3.days.items j) ≡ filter (comes_on (built s) j) (before_day (built s) (suc d)).played) (sym is.1) on_day
      | inr other ↦ on_other i other.1 (subst (λ n. i < n) lens below)
    ];
    later =
        ap (λ v. map moment v.items) later3 ∙ brings.later
        ∙ ap (λ n. map moment c1.later.items ++ filter (comes_from (built s) n) effects) (len1 ∙ sym lens)
        ∙ ap (λ l. l ++ filter (comes_from (built s) (length c3.days.items)) effects) (ap (λ v. map moment v.items) later1 ∙ before.later ∙ ap (λ n. filter (comes_from (built s) n) known) (sym lens))
        ∙ sym (filter-append (comes_from (built s) (length c3.days.items)) known effects) ∙ ap (filter (comes_from (built s) (length c3.days.items))) (sym known_next);
    rows = record {
      days = λ i. elim (eqb_tells i d) [
        | inl is ↦ λ r at. today_rows r (subst (In r) (ap (rows_on c3.days.items) is.1 ∙ put) at)
        | inr other ↦ λ r at. rows2.days i r (subst (In r) (others3 i other.1) at)
      ];
      later = λ r at. rows2.later r (subst (λ v. In r v.items) later3 at);
    };
    size = size3 ∙ brings.size ∙ ap (λ n. n + sum_by (weight (built s)) effects) size1 ∙ sym size_next;
    small = subst (λ n. n ≤ most_size) (sym size3) brings.small;
  }
    where
      lens : length c3.days.items ≡ length c0.days.items
      lens = len3 ∙ brings.len ∙ len1

      on_day : map moment (rows_on c3.days.items d) ≡ filter (comes_on (built s) d) (before_day (built s) (suc d)).played
      on_day =
          ap (map moment) put ∙ today_is ∙ sym (append-nil coming) ∙ ap (λ l. coming ++ l) (sym not_today)
          ∙ sym (filter-append (comes_on (built s) d) known effects) ∙ ap (filter (comes_on (built s) d)) (sym known_next)

      on_other : (i : ℕ) → i ≢ d → i < length c0.days.items → map moment (rows_on c3.days.items i) ≡ filter (comes_on (built s) i) (before_day (built s) (suc d)).played
      on_other i other below =
          ap (map moment) (others3 i other) ∙ brings.days i (subst (λ n. i < n) (sym len1) below)
          ∙ ap (λ l. l ++ filter (comes_on (built s) i) effects) (ap (map moment) (others1 i other) ∙ before.days i below)
          ∙ sym (filter-append (comes_on (built s) i) known effects) ∙ ap (filter (comes_on (built s) i)) (sym known_next)

      rows1 : AreAllRows (built s) c1
      rows1 = record {
        days = λ i. elim (eqb_tells i d) [
          | inl is ↦ λ r at. absurd (subst (In r) (ap (rows_on c1.days.items) is.1 ∙ none) at)
          | inr other ↦ λ r at. before.rows.days i r (subst (In r) (others1 i other.1) at)
        ];
        later = λ r at. before.rows.later r (subst (λ v. In r v.items) later1 at);
      }

      rows2 : AreAllRows (built s) c2
      rows2 = brings.rows rows1
