-- What happens where each point comes at its earliest date, day by day.
use Rattle.std.specs.Prelude.{ℕ, zero, suc, ℤ, pos, int_le, int_lt, Bool, not, ◌&&◌, List, [], ◌∷◌, ◌++◌, map, filter, sum_by, Option, Some, None}
use Rattle.std.specs.List.{list_any, list_all, flat_map}
use Rattle.std.specs.Option.{option_map, option_map_or}
use Rattle.std.specs.Ordering.{int_eq}
use Rattle.tmm_model.specs.declared.bound.Bound.{Bound}
use Rattle.tmm_model.specs.declared.bound.Bound.TheVariants.{Finite, Free}
use Rattle.tmm_model.specs.declared.point.PointName.{PointName}
use Rattle.tmm_model.specs.declared.token.TokenRow.{TokenRow}
use Rattle.tmm_model.specs.Answers.{weight}
use Rattle.tmm_model.specs.Beliefs.{is_of, roots, tokens, token_of, contradicts_in, rules_at, due}
use Rattle.tmm_model.specs.Bounds.{lesser}
use Rattle.tmm_model.specs.Firsts.{sorted}
use Rattle.tmm_model.specs.Maps.{TimeMap, order}
use Rattle.tmm_model.specs.Moments.{Moment, At, After, RuleText, early, rule_of}
use Rattle.tmm_model.specs.Points.{same_name}
use Rattle.tmm_model.specs.Standing.{points_of}

-- what has come so far, in the order in which it came to be known, and the tokens that hold
pub record Day : Type 0 where
  pub played : List Moment
  pub holding : List (TokenRow Moment)

-- what occurs on its date, with its kind or fact, and until when it holds: none for an event, and
-- no number where nothing ends it
pub record Played : Type 0 where
  pub date : ℤ
  pub occ : Moment
  pub what : List ℕ
  pub until : Option Bound

-- the least of the dates; no number where there is none
abbrev pub least : List ℤ → Bound
least [] = Free
least (date ∷ dates) = lesser (Finite date) (least dates)

-- whether a token of the fact holds
abbrev pub is_held : List (TokenRow Moment) → List ℕ → Bool
is_held holding fact = list_any (λ k. same_name k.fact fact) holding

-- whether each antecedent of a rule is among the facts that hold, and no exception
abbrev pub is_open : (List ℕ → Bool) → RuleText → Bool
is_open held text = list_all held text.given && not (list_any held text.exceptions)

module _ (m : TimeMap) where
  -- the date of a point or an occurrence: its earliest
  abbrev pub date : Moment → ℤ
  date x = early m.list m.far x

  -- whether it comes on the day
  abbrev pub comes_on : ℕ → Moment → Bool
  comes_on day x = int_eq (date x) (pos day)

  -- ---- what holds

  -- whether one of the tokens contradicts k
  abbrev pub is_contradicted : List (TokenRow Moment) → TokenRow Moment → Bool
  is_contradicted coming k = list_any (contradicts_in m.list k) coming

  -- whether the token k, which held the day before and has this end or none, holds on the day on
  -- which these tokens come: a span up to its end, a persistence where none of them contradicts it
  abbrev pub goes_on : ℕ → List (TokenRow Moment) → TokenRow Moment → Option Moment → Bool
  goes_on day coming k (Some e) = int_lt (pos day) (date e)
  goes_on day coming k None = not (is_contradicted coming k)

  -- whether it does, with its own end
  abbrev pub holds_on : ℕ → List (TokenRow Moment) → TokenRow Moment → Bool
  holds_on day coming k = goes_on day coming k k.end

  -- **What holds on a day**: the tokens that come on it, and those that held the day before and
  -- hold on.
  abbrev pub holding_on : ℕ → List (TokenRow Moment) → List (TokenRow Moment) → List (TokenRow Moment)
  holding_on day coming before = coming ++ filter (holds_on day coming) before

  -- ---- what events bring about

  -- whether the rule r brings about its effect on the event t, where these facts hold: this begins
  -- by the horizon, and the rule is open
  abbrev pub brings_about : (List ℕ → Bool) → Moment → List ℕ → Bool
  brings_about held t r = int_le (due m.list m.far t r) (pos m.list.horizon) && is_open held (rule_of m.list r)

  -- what the rules on t bring about where these facts hold, each after its least delay
  abbrev pub effects_of : (List ℕ → Bool) → Moment → List Moment
  effects_of held t = map (After t) (filter (brings_about held t) (rules_at m.list t))

  -- ---- day by day

  -- a day on which this comes, after which so much is known and these tokens hold
  abbrev pub day_with : List Moment → List Moment → List (TokenRow Moment) → Day
  day_with coming played holding = record { played = played ++ flat_map (effects_of (is_held holding)) coming; holding = holding }

  -- the next day, on which this comes
  abbrev pub day_of : ℕ → List Moment → Day → Day
  day_of day coming before = day_with coming before.played (holding_on day (tokens m.list coming) before.holding)

  -- **A day**: what comes on it holds where it is a token, and brings about what its rules say
  -- where it is an event.
  abbrev pub next_day : ℕ → Day → Day
  next_day day before = day_of day (filter (comes_on day) before.played) before

  -- what is known, and what holds, before the day of this number: before the first, all that is
  -- declared to occur, and nothing
  unfoldable pub before_day : ℕ → Day
  before_day zero = record { played = roots m.list; holding = [] }
  before_day (suc day) = next_day day (before_day day)

  -- **What occurs**: all that is declared to, and all that is brought about on the days up to the
  -- horizon.
  abbrev pub played : List Moment
  played = (before_day (suc m.list.horizon)).played

  -- what it counts: each occurrence one, and its rules, and the rules on it
  abbrev pub played_size : ℕ
  played_size = sum_by (weight m) played

  -- ---- until when

  -- whether c ends k: it contradicts it, and comes on a later date
  abbrev pub ends : TokenRow Moment → TokenRow Moment → Bool
  ends k c = contradicts_in m.list k c && int_lt (date k.spot) (date c.spot)

  -- the date of the first token among the occurrences b that ends k, which has this end or none; a
  -- span holds until its end
  abbrev pub held_until : List Moment → TokenRow Moment → Option Moment → Bound
  held_until b k (Some e) = Finite (date e)
  held_until b k None = least (map (λ c. date c.spot) (filter (ends k) (tokens m.list b)))

  -- until when an occurrence among b holds; none where it is no token
  abbrev pub until : List Moment → Moment → Option Bound
  until b x = option_map (λ k. held_until b k k.end) (token_of m.list x)

  -- ---- the timeline

  -- an occurrence among b as the timeline has it
  abbrev pub played_row : List Moment → Moment → Played
  played_row b x = record { date = date x; occ = x; what = option_map_or (λ y. y.1) (is_of m.list x) []; until = until b x }

  -- **What occurs, by date and then by name.**
  abbrev pub played_rows : List Played
  played_rows = map (played_row played) (sorted (order m) played)

  -- a point with its date
  abbrev pub point_date : PointName → PointName × ℤ
  point_date p = (p, date (At p))

  -- **The dates of all points** but `start`, in the order of premises, a span's end after its begin.
  abbrev pub point_dates : List (PointName × ℤ)
  point_dates = map point_date (flat_map points_of m.list.premises)
