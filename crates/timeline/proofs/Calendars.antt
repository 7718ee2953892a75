-- What comes on each day: how it changes.
use Rattle.std.proofs.Common.{◌≡◌, ◌≢◌, ◌∙◌, ℕ, zero, suc, ◌+◌, ◌<◌, ◌≤◌, Bool, true, false, List, [], ◌∷◌, ◌++◌, map, length, refl, sym, ap, subst, append-nil, append_assoc, arith, cond, inl, inr}
use Rattle.std.specs.Prelude.{slice_set, slice_index_or, filter, pos, int_le}
use Rattle.std.specs.Global.{Vec}
use Rattle.std.specs.Ordering.{int_eq}
use Rattle.std.proofs.lemmas.List.{map-append}
use Rattle.std.proofs.lemmas.List.Elements.{filter-append}
use Rattle.std.proofs.lemmas.List.Sums.{sum_by-append, sum_by-cons}
use Rattle.std.proofs.lemmas.Bool.{cases_lt}
use Rattle.tmm_model.specs.declared.point.PointName.TheVariants.{Begin}
use Rattle.tmm_model.specs.Answers.{weight, most_size}
use Rattle.tmm_model.specs.Beliefs.{rules_at}
use Rattle.tmm_model.specs.Maps.{TimeMap, built}
use Rattle.tmm_model.specs.Moments.{Moment, At, rules}
use Rattle.tmm_model.specs.Standing.{Standing}
use Rattle.list_theory.proofs.Elements.{In, In-cases}
use Rattle.belief_theory.proofs.Moments.{rules-along}
use Rattle.timeline.specs.declared.calendar.Calendar.{Calendar}
use Rattle.timeline.specs.declared.row.Row.{Row}
use Rattle.timeline.specs.Calendars.{rows_on, rows_if, comes_from, AreAllRows, Places, Brought}
use Rattle.timeline.specs.Days.{comes_on}
use Rattle.timeline.specs.Kinds.{name_at}
use Rattle.timeline.specs.Rows.{moment, IsRowOf, AreRowsOf}
use Rattle.timeline.proofs.AtPlaces.{placed as as_many}

-- ---- one day changed

-- a day set anew has what it is set to
pub rows_on-set_same : (days : List (Vec Row)) (j : ℕ) (v : Vec Row) → j < length days → rows_on (slice_set days j v) j ≡ v.items
rows_on-set_same [] j v h = absurd (omega arith)
rows_on-set_same (d ∷ days) zero v h = refl
rows_on-set_same (d ∷ days) (suc j) v h = rows_on-set_same days j v (omega arith)

-- and all others stay
pub rows_on-set_other : (days : List (Vec Row)) (i j : ℕ) (v : Vec Row) → i ≢ j → rows_on (slice_set days j v) i ≡ rows_on days i
rows_on-set_other [] i j v h = refl
rows_on-set_other (d ∷ days) zero zero v h = absurd (h refl)
rows_on-set_other (d ∷ days) (suc i) zero v h = refl
rows_on-set_other (d ∷ days) zero (suc j) v h = refl
rows_on-set_other (d ∷ days) (suc i) (suc j) v h = rows_on-set_other days i j v (λ e. h (ap suc e))

-- a day more, on which nothing comes
pub rows_on-push : (days : List (Vec Row)) (v : Vec Row) → v.items ≡ [] → ((i : ℕ) → rows_on days i ≡ []) → (i : ℕ) → rows_on (days ++ v ∷ []) i ≡ []
rows_on-push [] v e none zero = e
rows_on-push [] v e none (suc i) = refl
rows_on-push (d ∷ days) v e none zero = none zero
rows_on-push (d ∷ days) v e none (suc i) = rows_on-push days v e (λ k. none (suc k)) i

-- what is found on a day is what comes on it
pub rows_on-index : (days : List (Vec Row)) (j : ℕ) (v : Vec Row) → j < length days → v ≡ slice_index_or days j v → v.items ≡ rows_on days j
rows_on-index [] j v h e = absurd (omega arith)
rows_on-index (d ∷ days) zero v h e = ap (λ u. u.items) e
rows_on-index (d ∷ days) (suc j) v h e = rows_on-index days j v (omega arith) e

-- nothing comes on a day past the last
rows_on-past : (days : List (Vec Row)) (i : ℕ) → length days ≤ i → rows_on days i ≡ []
rows_on-past [] i h = refl
rows_on-past (d ∷ days) zero h = absurd (omega arith)
rows_on-past (d ∷ days) (suc i) h = rows_on-past days i (omega arith)

-- ---- what enters

-- what an occurrence counts, by its row and the places of the rules on it
pub row_weight : (s : Standing) (row : Row) (places : List ℕ) → map (name_at s) places ≡ rules_at s (moment row) → 1 + length row.occ.rules.items + length places ≡ weight (built s) (moment row)
row_weight s row places is =
    let own : length (rules (moment row)) ≡ length row.occ.rules.items = ap length (rules-along (At (Begin row.occ.root)) row.occ.rules.items) in
    let there : length places ≡ length (rules_at s (moment row)) = as_many s places (rules_at s (moment row)) is in
    λ i. 1 + sym own i + there i

module _ (m : TimeMap) where
  one_if : (p : Moment → Bool) (b : Bool) (row : Row) → b ≡ p (moment row) → map moment (rows_if b row) ≡ filter p (moment row ∷ [])
  one_if p true row e = ap (λ c. cond c (moment row ∷ []) []) e
  one_if p false row e = ap (λ c. cond c (moment row ∷ []) []) e

  -- nothing enters
  pub Brought-none : (c : Calendar) → c.size ≤ most_size → Brought m [] c c
  Brought-none c small = record {
    len = refl;
    days = λ i below. sym (append-nil (map moment (rows_on c.days.items i)));
    later = sym (append-nil (map moment c.later.items));
    rows = λ all. all;
    size = omega arith;
    small = small;
  }

  -- an occurrence enters
  pub Brought-one : (row : Row) (old placed : Calendar) (size : ℕ) → IsRowOf m row → Places row old placed → size ≡ old.size + weight m (moment row) → size ≤ most_size
      → Brought m (moment row ∷ []) old (record { days = placed.days; later = placed.later; size = size })
  Brought-one row old placed size own at is small = record {
    len = at.len;
    days = λ i below.
        (ap (map moment) (at.days i below) ∙ map-append moment (rows_on old.days.items i) (rows_if (int_eq row.date (pos i)) row)
        ∙ ap (λ l. map moment (rows_on old.days.items i) ++ l) (one_if (comes_on m i) (int_eq row.date (pos i)) row (ap (λ z. int_eq z (pos i)) own.date)));
    later =
        ap (map moment) at.later ∙ map-append moment old.later.items (rows_if (int_le (pos (length old.days.items)) row.date) row)
        ∙ ap (λ l. map moment old.later.items ++ l) (one_if (comes_from m (length old.days.items)) (int_le (pos (length old.days.items)) row.date) row (ap (λ z. int_le (pos (length old.days.items)) z) own.date));
    rows = λ all. record { days = on_days all; later = λ r there. in_both old.later.items (int_le (pos (length old.days.items)) row.date) all.later r (subst (In r) at.later there) };
    size = omega (arith, is, sum_by-cons (weight m) (moment row) []);
    small = small;
  }
    where
      in_both : (rows : List Row) (b : Bool) → AreRowsOf m rows → (r : Row) → In r (rows ++ rows_if b row) → IsRowOf m r
      in_both rows true all r there = elim (In-cases rows (row ∷ []) r there) [ inl h ↦ all r h | inr h ↦ elim h [ inl same ↦ subst (IsRowOf m) same own | inr none ↦ absurd none ] ]
      in_both rows false all r there = elim (In-cases rows [] r there) [ inl h ↦ all r h | inr none ↦ absurd none ]

      on_days : AreAllRows m old → (i : ℕ) → AreRowsOf m (rows_on placed.days.items i)
      on_days all i r there = elim (cases_lt i (length old.days.items)) [
        | inl below ↦ in_both (rows_on old.days.items i) (int_eq row.date (pos i)) (all.days i) r (subst (In r) (at.days i below) there)
        | inr past ↦ absurd (subst (In r) (rows_on-past placed.days.items i (omega (arith, at.len))) there)
      ]

  -- some enter, and then others
  pub Brought-then : (xs ys : List Moment) (a b c : Calendar) → Brought m xs a b → Brought m ys b c → Brought m (xs ++ ys) a c
  Brought-then xs ys a b c first then_ = record {
    len = then_.len ∙ first.len;
    days = λ i below.
        (then_.days i (subst (λ n. i < n) (sym first.len) below)
        ∙ ap (λ l. l ++ filter (comes_on m i) ys) (first.days i below)
        ∙ append_assoc (map moment (rows_on a.days.items i)) (filter (comes_on m i) xs) (filter (comes_on m i) ys)
        ∙ ap (λ l. map moment (rows_on a.days.items i) ++ l) (sym (filter-append (comes_on m i) xs ys)));
    later =
        then_.later
        ∙ ap (λ n. map moment b.later.items ++ filter (comes_from m n) ys) first.len
        ∙ ap (λ l. l ++ filter (comes_from m (length a.days.items)) ys) first.later
        ∙ append_assoc (map moment a.later.items) (filter (comes_from m (length a.days.items)) xs) (filter (comes_from m (length a.days.items)) ys)
        ∙ ap (λ l. map moment a.later.items ++ l) (sym (filter-append (comes_from m (length a.days.items)) xs ys));
    rows = λ all. then_.rows (first.rows all);
    size = omega (arith, then_.size, first.size, sum_by-append (weight m) xs ys);
    small = then_.small;
  }
