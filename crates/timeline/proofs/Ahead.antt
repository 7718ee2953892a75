-- What ends what holds: the first date behind a day, of tokens that pass.
use Rattle.std.proofs.Common.{◌≡◌, ◌∙◌, ℕ, suc, Bool, true, false, ◌&&◌, List, [], ◌∷◌, map, cond, refl, sym, ap, arith}
use Rattle.std.proofs.lemmas.Int.{ints}
use Rattle.std.specs.Prelude.{Option, Some, None, ℤ, pos, ◌≤ℤ◌, int_le, int_lt, filter}
use Rattle.std.specs.List.{cons_option}
use Rattle.std.specs.Option.{option_map}
use Rattle.std.specs.Ordering.{int_eq}
use Rattle.tmm_model.specs.declared.bound.Bound.{Bound}
use Rattle.tmm_model.specs.declared.bound.Bound.TheVariants.{Finite, Free}
use Rattle.tmm_model.specs.declared.token.TokenRow.{TokenRow}
use Rattle.tmm_model.specs.Beliefs.{token_of, tokens, contradicts_in}
use Rattle.tmm_model.specs.Bounds.{lesser}
use Rattle.tmm_model.specs.Maps.{TimeMap}
use Rattle.tmm_model.specs.Moments.{Moment}
use Rattle.belief_theory.proofs.OneRight.{spot-token_of}
use Rattle.timeline.specs.declared.row.Held.{Held}
use Rattle.timeline.specs.declared.row.Row.{Row}
use Rattle.timeline.specs.declared.until.Coming.{Coming}
use Rattle.timeline.specs.Calendars.{comes_from}
use Rattle.timeline.specs.Days.{date, comes_on, ends, held_until, until, least}
use Rattle.timeline.specs.Rows.{moment, clashes, held_of, IsRowOf, AreRowsOf}
use Rattle.timeline.specs.Until.{least_by, bound_if, coming_bound, held_bound, row_bound, later_bound, until_with, until_row, until_later}
use Rattle.timeline.proofs.Leasts.{least_by-filter, least_by-map, least_by-same, least_by-both}

-- ---- tests on dates

on_or_behind : (e : ℕ) (z : ℤ) (g : Bound) → lesser (cond (int_eq z (pos (suc e))) g Free) (cond (int_lt (pos (suc e)) z) g Free) ≡ cond (int_lt (pos e) z) g Free
on_or_behind e z g = by (int_eq z (pos (suc e))) refl (int_lt (pos (suc e)) z) refl (int_lt (pos e) z) refl
  where
    by : (a : Bool) → int_eq z (pos (suc e)) ≡ a → (b : Bool) → int_lt (pos (suc e)) z ≡ b → (c : Bool) → int_lt (pos e) z ≡ c → lesser (cond a g Free) (cond b g Free) ≡ cond c g Free
    by true p true q c r = absurd (grind (arith, ints))
    by true p false q true r = free g
      where
        free : (g : Bound) → lesser g Free ≡ g
        free Free = refl
        free (Finite x) = refl
    by true p false q false r = absurd (grind (arith, ints))
    by false p true q true r = refl
    by false p true q false r = absurd (grind (arith, ints))
    by false p false q true r = absurd (grind (arith, ints))
    by false p false q false r = refl

from_is_behind : (h : ℕ) (z : ℤ) → int_le (pos (suc h)) z ≡ int_lt (pos h) z
from_is_behind h z = by (int_le (pos (suc h)) z) refl (int_lt (pos h) z) refl
  where
    by : (a : Bool) → int_le (pos (suc h)) z ≡ a → (b : Bool) → int_lt (pos h) z ≡ b → a ≡ b
    by true p true q = refl
    by false p false q = refl
    by true p false q = absurd (grind (arith, ints))
    by false p true q = absurd (grind (arith, ints))

behind_from : (n : ℕ) (z w : ℤ) (g : Bound) → pos n ≤ℤ z → cond (int_le (pos n) w) (cond (int_lt z w) g Free) Free ≡ cond (int_lt z w) g Free
behind_from n z w g late = by (int_le (pos n) w) refl (int_lt z w) refl
  where
    by : (a : Bool) → int_le (pos n) w ≡ a → (b : Bool) → int_lt z w ≡ b → cond a (cond b g Free) Free ≡ cond b g Free
    by true p b q = refl
    by false p false q = refl
    by false p true q = absurd (grind (arith, ints))

module _ (m : TimeMap) where
  -- the date of a token that passes
  abbrev pub token_bound : (Held → Bool) → ℤ → Option (TokenRow Moment) → Bound
  token_bound q z None = Free
  token_bound q z (Some k) = bound_if (q (held_of m k)) z

  abbrev pub moment_bound : (Held → Bool) → Moment → Bound
  moment_bound q x = token_bound q (date m x) (token_of m.list x)

  -- where it is behind a date
  abbrev pub behind : ℤ → (Held → Bool) → Moment → Bound
  behind z q x = cond (int_lt z (date m x)) (moment_bound q x) Free

  -- the tokens that come tell the first date of what passes behind the day
  abbrev pub Ahead : List Moment → ℕ → List Coming → Type 0
  Ahead b d coming = (q : Held → Bool) → least_by (coming_bound q) coming ≡ least_by (behind (pos d) q) b

  row_is : (q : Held → Bool) (r : Row) → IsRowOf m r → row_bound q r ≡ moment_bound q (moment r)
  row_is q r own = (λ i. held_bound q (own.date i) (own.held i)) ∙ by (token_of m.list (moment r))
    where
      by : (o : Option (TokenRow Moment)) → held_bound q (date m (moment r)) (option_map (held_of m) o) ≡ token_bound q (date m (moment r)) o
      by None = refl
      by (Some k) = refl

  rows_are : (q : Held → Bool) (rows : List Row) → AreRowsOf m rows → least_by (row_bound q) rows ≡ least_by (moment_bound q) (map moment rows)
  rows_are q rows all = least_by-same (row_bound q) (λ r. moment_bound q (moment r)) rows (λ r at. row_is q r (all r at)) ∙ sym (least_by-map moment (moment_bound q) rows)

  -- behind the horizon comes what is later
  pub first_ahead : (b : List Moment) (h : ℕ) (rows : List Row) (coming : List Coming) → AreRowsOf m rows → map moment rows ≡ filter (comes_from m (suc h)) b
      → ((q : Held → Bool) → least_by (coming_bound q) coming ≡ lesser (least_by (row_bound q) rows) Free) → Ahead b h coming
  first_ahead b h rows coming all are noted q =
      noted q ∙ free (least_by (row_bound q) rows) ∙ rows_are q rows all ∙ ap (least_by (moment_bound q)) are ∙ least_by-filter (moment_bound q) (comes_from m (suc h)) b
      ∙ least_by-same (λ x. cond (comes_from m (suc h) x) (moment_bound q x) Free) (behind (pos h) q) b (λ x at. ap (λ t. cond t (moment_bound q x) Free) (from_is_behind h (date m x)))
    where
      free : (g : Bound) → lesser g Free ≡ g
      free Free = refl
      free (Finite x) = refl

  -- behind a day comes what comes on the next, and what is behind that
  pub next_ahead : (b : List Moment) (e : ℕ) (rows : List Row) (old new : List Coming) → AreRowsOf m rows → map moment rows ≡ filter (comes_on m (suc e)) b
      → Ahead b (suc e) old → ((q : Held → Bool) → least_by (coming_bound q) new ≡ lesser (least_by (row_bound q) rows) (least_by (coming_bound q) old)) → Ahead b e new
  next_ahead b e rows old new all are ahead noted q =
      noted q
      ∙ (λ i. lesser ((rows_are q rows all ∙ ap (least_by (moment_bound q)) are ∙ least_by-filter (moment_bound q) (comes_on m (suc e)) b) i) (ahead q i))
      ∙ least_by-both (λ x. cond (comes_on m (suc e) x) (moment_bound q x) Free) (behind (pos (suc e)) q) b
      ∙ least_by-same (λ x. lesser (cond (comes_on m (suc e) x) (moment_bound q x) Free) (behind (pos (suc e)) q x)) (behind (pos e) q) b (λ x at. on_or_behind e (date m x) (moment_bound q x))

  -- ---- until when a token holds

  ends_by : (k : TokenRow Moment) (b : List Moment) → least (map (λ c. date m c.spot) (filter (ends m k) (tokens m.list b))) ≡ least_by (behind (date m k.spot) (clashes m.list (held_of m k))) b
  ends_by k [] = refl
  ends_by k (x ∷ b) = by (token_of m.list x) refl (ends_by k b)
    where
      rest : Bound
      rest = least_by (behind (date m k.spot) (clashes m.list (held_of m k))) b

      others : List (TokenRow Moment)
      others = tokens m.list b

      by : (o : Option (TokenRow Moment)) → token_of m.list x ≡ o → least (map (λ c. date m c.spot) (filter (ends m k) (tokens m.list b))) ≡ least_by (behind (date m k.spot) (clashes m.list (held_of m k))) b
          → least (map (λ c. date m c.spot) (filter (ends m k) (cons_option o (tokens m.list b)))) ≡ lesser (cond (int_lt (date m k.spot) (date m x)) (token_bound (clashes m.list (held_of m k)) (date m x) o) Free) (least_by (behind (date m k.spot) (clashes m.list (held_of m k))) b)
      by None e again = again ∙ none (int_lt (date m k.spot) (date m x))
        where
          none : (t : Bool) → rest ≡ lesser (cond t Free Free) rest
          none true = refl
          none false = refl
      by (Some c) e again = two (contradicts_in m.list k c) (int_lt (date m k.spot) (date m c.spot)) ∙ ap (λ y. lesser (cond (int_lt (date m k.spot) (date m y)) (bound_if (contradicts_in m.list k c) (date m y)) Free) rest) (spot-token_of m.list x c e)
        where
          two : (s t : Bool) → least (map (λ c. date m c.spot) (cond (s && t) (c ∷ filter (ends m k) others) (filter (ends m k) others))) ≡ lesser (cond t (bound_if s (date m c.spot)) Free) rest
          two true true = ap (lesser (Finite (date m c.spot))) again
          two true false = again
          two false true = again
          two false false = again

  -- the same for the tokens that come behind a row's day
  pub until_ahead : (b : List Moment) (d : ℕ) (coming : List Coming) (r : Row) → IsRowOf m r → date m (moment r) ≡ pos d → Ahead b d coming → until_row m.list coming r ≡ until m b (moment r)
  until_ahead b d coming r own dated ahead = ap (option_map (λ h. until_with h.end (least_by (coming_bound (clashes m.list h)) coming))) own.held ∙ by (token_of m.list (moment r)) refl
    where
      by : (o : Option (TokenRow Moment)) → token_of m.list (moment r) ≡ o
          → option_map (λ h. until_with h.end (least_by (coming_bound (clashes m.list h)) coming)) (option_map (held_of m) o) ≡ option_map (λ k. held_until m b k k.end) o
      by None e = refl
      by (Some k) e = ap Some (to k.end)
        where
          to : (end : Option Moment) → until_with (option_map (date m) end) (least_by (coming_bound (clashes m.list (held_of m k))) coming) ≡ held_until m b k end
          to (Some x) = refl
          to None =
              ahead (clashes m.list (held_of m k))
              ∙ ap (λ z. least_by (behind z (clashes m.list (held_of m k))) b) (sym dated ∙ ap (date m) (sym (spot-token_of m.list (moment r) k e)))
              ∙ sym (ends_by k b)

  later_is : (q : Held → Bool) (z : ℤ) (r : Row) → IsRowOf m r → later_bound q z r ≡ behind z q (moment r)
  later_is q z r own = (λ i. held_bound (λ h. int_lt z (own.date i) && q h) (own.date i) (own.held i)) ∙ by (token_of m.list (moment r))
    where
      by : (o : Option (TokenRow Moment)) → held_bound (λ h. int_lt z (date m (moment r)) && q h) (date m (moment r)) (option_map (held_of m) o) ≡ cond (int_lt z (date m (moment r))) (token_bound q (date m (moment r)) o) Free
      by None = none (int_lt z (date m (moment r)))
        where
          none : (t : Bool) → Free ≡ cond t Free Free
          none true = refl
          none false = refl
      by (Some k) = two (int_lt z (date m (moment r))) (q (held_of m k))
        where
          two : (s t : Bool) → bound_if (s && t) (date m (moment r)) ≡ cond s (bound_if t (date m (moment r))) Free
          two true t = refl
          two false t = refl

  -- and for those of rows behind the horizon, among which the row is
  pub until_among_later : (b : List Moment) (n : ℕ) (rows : List Row) (r : Row) → AreRowsOf m rows → map moment rows ≡ filter (comes_from m n) b → IsRowOf m r → pos n ≤ℤ r.date → until_later m.list rows r ≡ until m b (moment r)
  until_among_later b n rows r all are own late = ap (option_map (λ h. until_with h.end (least_by (later_bound (clashes m.list h) r.date) rows))) own.held ∙ by (token_of m.list (moment r)) refl
    where
      first : (q : Held → Bool) → least_by (later_bound q r.date) rows ≡ least_by (behind r.date q) b
      first q =
          least_by-same (later_bound q r.date) (λ x. behind r.date q (moment x)) rows (λ x at. later_is q r.date x (all x at))
          ∙ sym (least_by-map moment (behind r.date q) rows) ∙ ap (least_by (behind r.date q)) are ∙ least_by-filter (behind r.date q) (comes_from m n) b
          ∙ least_by-same (λ x. cond (comes_from m n x) (behind r.date q x) Free) (behind r.date q) b (λ x at. behind_from n r.date (date m x) (moment_bound q x) late)

      by : (o : Option (TokenRow Moment)) → token_of m.list (moment r) ≡ o
          → option_map (λ h. until_with h.end (least_by (later_bound (clashes m.list h) r.date) rows)) (option_map (held_of m) o) ≡ option_map (λ k. held_until m b k k.end) o
      by None e = refl
      by (Some k) e = ap Some (to k.end)
        where
          to : (end : Option Moment) → until_with (option_map (date m) end) (least_by (later_bound (clashes m.list (held_of m k)) r.date) rows) ≡ held_until m b k end
          to (Some x) = refl
          to None =
              first (clashes m.list (held_of m k))
              ∙ ap (λ z. least_by (behind z (clashes m.list (held_of m k))) b) (own.date ∙ ap (date m) (sym (spot-token_of m.list (moment r) k e)))
              ∙ sym (ends_by k b)
