-- What dates rule out, and what is found among the rest.
use Rattle.std.proofs.Common.{◌≡◌, ℕ, ◌+◌, ◌-◌, ◌<◌, ◌≤◌, inl, inr, Bool, true, false, List, [], ◌∷◌, length, IsTrue, refl, sym, subst, ap, arith}
use Rattle.std.proofs.lemmas.Int.{ints}
use Rattle.std.proofs.lemmas.Bool.{cases_order, cases_lt, and_left, and_right, both_ways, false_from_ne_true}
use Rattle.std.specs.Option.{ForSome}
use Rattle.std.specs.Prelude.{Option, Some, None, MatchOption, ℤ, pos, negsuc, ◌+ℤ◌, ◌<ℤ◌, ◌≤ℤ◌, ◌&&◌, slice_index_or}
use Rattle.std.specs.List.{All, list_any}
use Rattle.std.proofs.lemmas.List.{get_or_default}
use Rattle.std.proofs.lemmas.List.Folds.{list_any_none, list_any_at}
use Rattle.std.specs.declared.cmp.Ordering.{Ordering}
use Rattle.std.specs.Ordering.{is_gt, on}
use Rattle.belief_theory.specs.FirstPlaces.{IsFirstAmong, IsFirstPlace}
use Rattle.belief_theory.proofs.Firsts.{itself}
use Rattle.tmm_model.specs.declared.token.TokenRow.{TokenRow}
use Rattle.tmm_model.specs.declared.bound.Bound.{Bound}
use Rattle.tmm_model.specs.declared.bound.Bound.TheVariants.{Finite, Free}
use Rattle.tmm_model.specs.Bounds.{IfFinite, bound_at_most}
use Rattle.tmm_model.specs.Points.{same_name}
use Rattle.tmm_model.specs.Tokens.{is_by, is_before, clips, cuts, lasts_to, supports}
use Rattle.tmm_model.specs.Types.{IsOrderOn}
use Rattle.clipping.specs.Live.{IsLive}
use Rattle.clipping.specs.ByDate.{AreDatesOn, IsByDate, AreUntil, NonePass, IsPlaceIn, IsFirstPlaceIn}
use Rattle.clipping.specs.Cutters.{clips_until}
use Rattle.clipping.proofs.Halving.{first_more}

-- ---- what dates rule out

-- a bound that is at most another is a number
at_most : (x : Bound) (w a b : ℤ) → bound_at_most x w ≡ true → IfFinite x (λ v. b ≤ℤ (a +ℤ v)) → b ≤ℤ (a +ℤ w)
at_most (Finite v) w a b e h = omega (arith, ints, e)
at_most Free w a b e h = cc

module _ {P : Type 0} {live : P → Type 0} {far : P → P → Bound} {date : P → ℤ} (dated : AreDatesOn live far date) where
  -- what begins by a point has a date up to the point's
  not_by : (x y : P) → live x → live y → date y <ℤ date x → is_by far x y ≡ false
  not_by x y lx ly late = false_from_ne_true (is_by far x y) (λ e. let up = at_most (far y x) (pos 0) (date y) (date x) e (dated.met y x ly lx) in absurd (omega (arith, ints)))

  -- what begins before another has a lower date
  pub not_before : (x y : P) → live x → live y → date y ≤ℤ date x → is_before far x y ≡ false
  not_before x y lx ly late = false_from_ne_true (is_before far x y) (λ e. let up = at_most (far y x) (negsuc 0) (date y) (date x) e (dated.met y x ly lx) in absurd (omega (arith, ints)))

  module _ (contradicts : TokenRow P → TokenRow P → Bool) (k : TokenRow P) (at : live k.spot) where
    pub no_support : (tokens : List (TokenRow P)) (f : List ℕ) (p q : P) → live p → date p <ℤ date k.spot → supports contradicts far tokens f p q k ≡ false
    no_support tokens f p q lp late = and_left (same_name k.fact f && is_by far k.spot p) (lasts_to contradicts far tokens k q k.end) (and_right (same_name k.fact f) (is_by far k.spot p) (not_by k.spot p at lp late))

    pub no_clip : (c : TokenRow P) → live c.spot → date c.spot ≤ℤ date k.spot → clips contradicts far k c ≡ false
    no_clip c lc early = and_right (contradicts k c) (is_before far k.spot c.spot) (not_before k.spot c.spot at lc early)

    pub too_early : (c : TokenRow P) → live c.spot → (q : P) → date c.spot ≤ℤ date k.spot → cuts contradicts far k q c ≡ false
    too_early c lc q early = and_left (clips contradicts far k c) (is_by far c.spot q) (no_clip c lc early)

    pub too_late : (c : TokenRow P) → live c.spot → (q : P) → live q → date q <ℤ date c.spot → cuts contradicts far k q c ≡ false
    too_late c lc q lq late = and_right (clips contradicts far k c) (is_by far c.spot q) (not_by c.spot q lc lq late)

-- ---- what is found

-- the first in the list that passes is the first by the order
pub first_is : {P : Type 0} {live : P → Type 0} {date : P → ℤ} {order : P → P → Ordering} → IsOrderOn live order → (tokens : List (TokenRow P)) → IsByDate date order tokens → All (IsLive live) tokens
    → (test : TokenRow P → Bool) (i : ℕ) → i < length tokens → ((d : TokenRow P) → IsTrue (test (slice_index_or tokens i d))) → NonePass test tokens 0 i → IsFirstAmong (on (λ k. k.spot) order) test tokens (length tokens) i
first_is {P} {live} {date} {order} law tokens sorted all test i within passes fails = record {
  within = within;
  passes = passes;
  least = λ j d lt t. elim (cases_order j i) [
    | inl same ↦ subst (λ k. is_gt (order (slice_index_or tokens i d).spot (slice_index_or tokens k d).spot) ≡ false) (sym same) (itself law (slice_index_or tokens i d).spot (all i d within).begin)
    | inr other ↦ elim other [
      | inl less ↦ let out = fails j d (omega arith) less in absurd (both_ways (test (slice_index_or tokens j d)) out t)
      | inr more ↦ ap is_gt (sorted.before i j d more lt)
    ]
  ];
}

-- one more that fails, behind or before those that do
pub none_more : {A : Type 0} (test : A → Bool) (xs : List A) (i : ℕ) → NonePass test xs 0 i → ((d : A) → test (slice_index_or xs i d) ≡ false) → NonePass test xs 0 (i + 1)
none_more test xs i h out j d from lt = elim (cases_lt j i) [
  | inl less ↦ h j d from less
  | inr more ↦ let same : j ≡ i = omega arith in subst (λ k. test (slice_index_or xs k d) ≡ false) (sym same) (out d)
]

pub none_less : {A : Type 0} (test : A → Bool) (xs : List A) (i : ℕ) → NonePass test xs i (length xs) → ((d : A) → test (slice_index_or xs (i - 1) d) ≡ false) → NonePass test xs (i - 1) (length xs)
none_less test xs i h out j d from lt = elim (cases_lt j i) [
  | inl less ↦ let same : j ≡ i - 1 = omega arith in subst (λ k. test (slice_index_or xs k d) ≡ false) (sym same) (out d)
  | inr more ↦ h j d more lt
]

-- what fails where halving left it, and behind, fails everywhere
pub all_fail : {A : Type 0} (test : A → Bool) (xs : List A) (n : ℕ) → NonePass test xs 0 n → NonePass test xs n (length xs) → NonePass test xs 0 (length xs)
all_fail test xs n front back i d from lt = elim (cases_lt i n) [ inl less ↦ front i d from less | inr more ↦ back i d more lt ]

module _ {P : Type 0} {live : P → Type 0} {far : P → P → Bound} {date : P → ℤ} {order : P → P → Ordering} (dated : AreDatesOn live far date) (tokens : List (TokenRow P)) (sorted : IsByDate date order tokens) (all : All (IsLive live) tokens) (contradicts : TokenRow P → TokenRow P → Bool) where
  -- no token behind those that begin by p supports at p, among whichever tokens
  pub none_later : (among : List (TokenRow P)) (f : List ℕ) (p q : P) → live p → (n : ℕ) → AreUntil date tokens (date p) n → NonePass (supports contradicts far among f p q) tokens n (length tokens)
  none_later among f p q lp n are i d from lt = no_support dated contradicts (slice_index_or tokens i d) (all i d lt).begin among f p q lp (are.rest i d from lt)

  -- what cuts a token is behind it, and begins by q
  pub none_cuts : (i : ℕ) (e : TokenRow P) → i < length tokens → (q : P) → live q → (n : ℕ) → AreUntil date tokens (date q) n
      → NonePass (cuts contradicts far (slice_index_or tokens i e) q) tokens (i + 1) n → list_any (cuts contradicts far (slice_index_or tokens i e) q) tokens ≡ false
  none_cuts i e within q lq n are fails =
      list_any_none (cuts contradicts far k q) tokens (λ j d lt. elim (cases_lt j (i + 1)) [
        | inl less ↦ too_early dated contradicts k at (slice_index_or tokens j d) (all j d lt).begin q (first_more {date = date} {order = order} tokens sorted i (date k.spot) within here j d less)
        | inr more ↦ elim (cases_lt j n) [
          | inl inside ↦ fails j d more inside
          | inr behind ↦ too_late dated contradicts k at (slice_index_or tokens j d) (all j d lt).begin q lq (are.rest j d behind lt)
        ]
      ])
    where
      k : TokenRow P
      k = slice_index_or tokens i e

      at : live k.spot
      at = (all i e within).begin

      here : (d : TokenRow P) → date (slice_index_or tokens i d).spot ≤ℤ date k.spot
      here d = let one : date (slice_index_or tokens i d).spot ≡ date k.spot = ap (λ (x : TokenRow P). date x.spot) (get_or_default tokens i d e within) in omega (arith, ints, one)

-- a place where it passes, from one place on and before another
pub one_passes : {A : Type 0} (test : A → Bool) (xs : List A) (low high i : ℕ) → high ≤ length xs → IsPlaceIn test xs low high i → list_any test xs ≡ true
one_passes test (x ∷ xs) low high i within at = list_any_at test (x ∷ xs) i x (omega (arith, at.before)) (at.passes x)
one_passes test [] low high i within at = absurd (let lt : i < high = at.before in omega arith)

-- **The first clip behind a token's date is the first of all.**
pub first_clip_is : {P : Type 0} (contradicts : TokenRow P → TokenRow P → Bool) {live : P → Type 0} {far : P → P → Bound} {date : P → ℤ} {order : P → P → Ordering} → IsOrderOn live order → AreDatesOn live far date → (tokens : List (TokenRow P)) → IsByDate date order tokens → All (IsLive live) tokens
    → (k : TokenRow P) → live k.spot → (until : Option P) → ForSome until live → (low : ℕ) → AreUntil date tokens (date k.spot) low → (high : ℕ) → MatchOption until (high ≡ length tokens) (λ q. AreUntil date tokens (date q) high)
    → (place : Option ℕ) → IsFirstPlaceIn (clips_until contradicts far k until) tokens low high place → IsFirstPlace (on (λ k. k.spot) order) (clips_until contradicts far k until) tokens place
first_clip_is {P} contradicts {live} {far} {date} {order} law dated tokens sorted all k at until there low early high late place found = by place found
  where
    test : TokenRow P → Bool
    test = clips_until contradicts far k until

    short : high ≤ length tokens
    short = by until late
      where
        by : (o : Option P) → MatchOption o (high ≡ length tokens) (λ q. AreUntil date tokens (date q) high) → high ≤ length tokens
        by None e = omega arith
        by (Some q) are = are.within

    front : NonePass test tokens 0 low
    front i d from lt = by until
      where
        lc : live (slice_index_or tokens i d).spot
        lc = (all i d (omega (arith, early.within))).begin

        by : (o : Option P) → clips_until contradicts far k o (slice_index_or tokens i d) ≡ false
        by None = no_clip dated contradicts k at (slice_index_or tokens i d) lc (early.first i d lt)
        by (Some q) = too_early dated contradicts k at (slice_index_or tokens i d) lc q (early.first i d lt)

    back : NonePass test tokens high (length tokens)
    back i d from lt = by until there late
      where
        by : (o : Option P) → ForSome o live → MatchOption o (high ≡ length tokens) (λ q. AreUntil date tokens (date q) high) → clips_until contradicts far k o (slice_index_or tokens i d) ≡ false
        by None l e = absurd (omega arith)
        by (Some q) l are = too_late dated contradicts k at (slice_index_or tokens i d) (all i d lt).begin q (l q refl) (are.rest i d from lt)

    by : (place : Option ℕ) → IsFirstPlaceIn test tokens low high place → IsFirstPlace (on (λ k. k.spot) order) test tokens place
    by None h = λ i d lt. elim (cases_lt i low) [
      | inl less ↦ front i d (omega arith) less
      | inr more ↦ elim (cases_lt i high) [ inl inside ↦ h i d more inside | inr behind ↦ back i d behind lt ]
    ]
    by (Some i) (h, before) = first_is law tokens sorted all test i (omega (arith, short, h.before)) h.passes
        (λ j d from lt. elim (cases_lt j low) [ inl less ↦ front j d from less | inr more ↦ before j d more lt ])
