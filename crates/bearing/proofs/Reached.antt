-- Points of spots that are put in, some after the others.
use Rattle.std.proofs.Common.{◌≡◌, ◌≢◌, ◌∙◌, ℕ, ℤ, Bool, false, ◌+◌, ◌<◌, ◌≤◌, List, length, get_or, Option, Some, None, refl, sym, ap, subst, inl, inr, ◌⊎◌, arith}
use Rattle.std.proofs.lemmas.Bool.{cases_order}
use Rattle.std.proofs.lemmas.List.{get_or_default, get_or_past}
use Rattle.std.specs.Prelude.{MatchOption}
use Rattle.std.specs.Option.{option_map}
use Rattle.std.specs.List.{Contains}
use Rattle.tmm_model.specs.declared.bound.Bound.{Bound}
use Rattle.tmm_model.specs.declared.bound.Bound.TheVariants.{Finite}
use Rattle.tmm_model.specs.declared.point.PointName.{PointName}
use Rattle.tmm_model.specs.declared.point.PointName.TheVariants.{Begin, End}
use Rattle.tmm_model.specs.declared.token.Shape.{Shape}
use Rattle.tmm_model.specs.declared.token.Shape.TheVariants.{Span}
use Rattle.tmm_model.specs.declared.token.TokenRow.{TokenRow}
use Rattle.tmm_model.specs.Standing.{Standing}
use Rattle.dist_net.specs.Net.{Net}
use Rattle.net_theory.specs.Represents.{IsNumberOf}
use Rattle.spots.specs.declared.spot.Spot.{Spot}
use Rattle.spots.specs.declared.spot.Spot.TheVariants.{Declared, Node}
use Rattle.spots.specs.Forest.{Forest, Member, member}
use Rattle.spots.specs.OfLists.{IsForestOf}
use Rattle.spots.specs.Spots.{base_of, links_of, links_high, AreTokens}
use Rattle.spots.proofs.Rows.{IsRowOf, member_of_token}
use Rattle.joined.specs.Gaps.{IsClassSpot, begin, an_end}
use Rattle.joined.specs.Shifting.{IsSpotOf}
use Rattle.bearing.specs.declared.points_of_class.Reach.{Reach}
use Rattle.bearing.specs.PointSets.{is_in, PutsIn, AreThose}
use Rattle.bearing.specs.Reach.{IsBaseOf, IsBoundedBaseOf, Notes, HasPlaces, AreBelow256, IsOff}
use Rattle.bearing.proofs.Sets.{puts_none, puts_both, puts_alike, puts_into_none}

-- numbers of points are below 256 where so many have a place
pub numbers_below : (s : Standing) (net : Net) (f : Forest) → IsForestOf s net f → length net.names ≡ 256 → AreBelow256 f
numbers_below s net f seen places = record { begin = λ x m at. in_place m.begin (Begin m.root) (seen.members x m at).begin; «end» = λ x m e at ends. by m.shape m.root m.end (seen.members x m at).end e ends }
  where
    in_place : (n : ℕ) (p : PointName) → IsNumberOf net.names n p → n < 256
    in_place n p is = elim (cases_order n 256) [
      | inl same ↦ absurd (beyond (omega (arith, same, places)))
      | inr other ↦ elim other [ inl below ↦ below | inr above ↦ absurd (beyond (omega (arith, above, places))) ]
    ]
      where
        beyond : length net.names ≤ n → ⊥
        beyond past = let both : Some p ≡ None = sym is ∙ get_or_past net.names n None past in cc

    by : (shape : Shape) (root : List ℕ) (o : Option ℕ) → MatchOption o (shape ≢ Span) (λ e. (shape ≡ Span) × IsNumberOf net.names e (End root)) → (e : ℕ) → o ≡ Some e → e < 256
    by shape root None h e is = cc
    by shape root (Some k) h e is = let same : k ≡ e = cc in subst (λ z. z < 256) same (in_place k (End root) h.1)

module _ (f : Forest) where
  pub notes_none : (S : Spot → Type 0) (r : Reach) → ((s : Spot) → S s → ⊥) → Notes f S r r
  notes_none S r none = record {
    all = puts_none (IsBaseOf f S) r.all.items (λ p (s, at, is). none s at);
    bounded = puts_none (IsBoundedBaseOf f S) r.bounded.items (λ p (s, at, is, most, in_time). none s at);
  }

  pub notes_alike : (S T : Spot → Type 0) (old new : Reach) → ((s : Spot) → S s → T s) → ((s : Spot) → T s → S s) → Notes f S old new → Notes f T old new
  notes_alike S T old new to from notes = record {
    all = puts_alike (IsBaseOf f S) (IsBaseOf f T) old.all.items new.all.items (λ p (s, at, is). (s, to s at, is)) (λ p (s, at, is). (s, from s at, is)) notes.all;
    bounded = puts_alike (IsBoundedBaseOf f S) (IsBoundedBaseOf f T) old.bounded.items new.bounded.items
        (λ p (s, at, is, most, in_time). (s, to s at, is, most, in_time)) (λ p (s, at, is, most, in_time). (s, from s at, is, most, in_time)) notes.bounded;
  }

  pub notes_both : (S T R : Spot → Type 0) (old mid new : Reach) → ((s : Spot) → R s → S s ⊎ T s) → ((s : Spot) → S s → R s) → ((s : Spot) → T s → R s)
      → Notes f S old mid → Notes f T mid new → Notes f R old new
  notes_both S T R old mid new apart from_s from_t first then_ = record {
    all = puts_both (IsBaseOf f S) (IsBaseOf f T) (IsBaseOf f R) old.all.items mid.all.items new.all.items
        (λ p (s, at, is). elim (apart s at) [ inl here ↦ inl (s, here, is) | inr here ↦ inr (s, here, is) ])
        (λ p (s, at, is). (s, from_s s at, is)) (λ p (s, at, is). (s, from_t s at, is)) first.all then_.all;
    bounded = puts_both (IsBoundedBaseOf f S) (IsBoundedBaseOf f T) (IsBoundedBaseOf f R) old.bounded.items mid.bounded.items new.bounded.items
        (λ p (s, at, is, most, in_time). elim (apart s at) [ inl here ↦ inl (s, here, is, most, in_time) | inr here ↦ inr (s, here, is, most, in_time) ])
        (λ p (s, at, is, most, in_time). (s, from_s s at, is, most, in_time)) (λ p (s, at, is, most, in_time). (s, from_t s at, is, most, in_time)) first.bounded then_.bounded;
  }

  -- a spot by its point, and the time that rules take from there
  pub notes_spot : (spot : Spot) (point : ℕ) (most : Bound) (old new : Reach) → base_of f spot ≡ point → links_high (links_of f spot) ≡ most
      → PutsIn (λ p. p ≡ point) old.all.items new.all.items → PutsIn (λ p. (p ≡ point) × (x : ℤ) × (most ≡ Finite x)) old.bounded.items new.bounded.items
      → Notes f (λ p. p ≡ spot) old new
  notes_spot spot point most old new base high all bounded = record {
    all = puts_alike (λ p. p ≡ point) (IsBaseOf f (λ p. p ≡ spot)) old.all.items new.all.items
        (λ p is. (spot, refl, base ∙ sym is)) (λ p (s, is, at). sym at ∙ ap (base_of f) is ∙ base) all;
    bounded = puts_alike (λ p. (p ≡ point) × (x : ℤ) × (most ≡ Finite x)) (IsBoundedBaseOf f (λ p. p ≡ spot)) old.bounded.items new.bounded.items
        (λ p (is, x, in_time). (spot, refl, base ∙ sym is, x, high ∙ in_time))
        (λ p (s, is, at, x, in_time). (sym at ∙ ap (base_of f) is ∙ base, x, sym high ∙ sym (ap (λ z. links_high (links_of f z)) is) ∙ in_time)) bounded;
  }

  -- ---- tokens of a class

  -- the spots of the first n rows
  abbrev pub OfFirstRows : List (TokenRow Spot) → ℕ → Spot → Type 0
  OfFirstRows rows n p = (k : ℕ) × (row : TokenRow Spot) × (k < n) × (row ≡ get_or rows k row) × ((p ≡ row.spot) ⊎ (row.end ≡ Some p))

  module _ (class : List ℕ) (rows : List (TokenRow Spot)) (are : AreTokens f class rows) where
    pub row_at : (k : ℕ) (row : TokenRow Spot) → k < length rows → row ≡ get_or rows k row → (x : ℕ) × (m : Member) × IsRowOf f row x m
    row_at k row less is = let (x, m, at, one) = member_of_token f class rows are row (k, less, sym is) in (x, m, at)

    of_class : (p : Spot) → OfFirstRows rows (length rows) p → IsClassSpot f class p
    of_class p (k, row, less, is, at) =
        let (x, m, of, one) = member_of_token f class rows are row (k, less, sym is) in
        let class_is : m.class ≡ Some class = of.class ∙ ap Some one in
        elim at [
          | inl here ↦ begin x m of.here class_is (here ∙ of.spot)
          | inr ends ↦ by x m of.here class_is m.end refl (sym of.end ∙ ends)
        ]
      where
        by : (x : ℕ) (m : Member) → member f x ≡ Some m → m.class ≡ Some class → (o : Option ℕ) → m.end ≡ o → option_map Declared o ≡ Some p → IsClassSpot f class p
        by x m here class_is None at same = cc
        by x m here class_is (Some e) at same = an_end x m e here class_is at cc

    -- the row of a token
    abbrev pub row_of : ℕ → Member → TokenRow Spot
    row_of x m = record { spot = Node x; end = option_map Declared m.end; fact = m.what; class = class }

    pub found : (x : ℕ) (m : Member) → member f x ≡ Some m → m.class ≡ Some class → Contains rows (row_of x m)
    found x m here is = are.all x m (row_of x m) here (ap (λ (o : Option (List ℕ)). option_map (λ class. record { spot = Node x; end = option_map Declared m.end; fact = m.what; class = class }) o) is) refl

    in_class : (p : Spot) → IsClassSpot f class p → OfFirstRows rows (length rows) p
    in_class p (begin x m here is at) = let (k, less, same) = found x m here is in (k, row_of x m, less, sym same, inl at)
    in_class p (an_end x m e here is ends at) =
        let (k, less, same) = found x m here is in
        (k, row_of x m, less, sym same, inr (ap (option_map Declared) ends ∙ ap Some (sym at)))

    pub class_noted : (old new : Reach) → Notes f (OfFirstRows rows (length rows)) old new → Notes f (IsClassSpot f class) old new
    class_noted old new = notes_alike (OfFirstRows rows (length rows)) (IsClassSpot f class) old new of_class in_class

  pub rows_none : (rows : List (TokenRow Spot)) (r : Reach) → Notes f (OfFirstRows rows 0) r r
  rows_none rows r = notes_none (OfFirstRows rows 0) r (λ s (k, row, less, is, at). (let no = less in omega (arith, no)))

  rows_apart : (rows : List (TokenRow Spot)) (n : ℕ) (row : TokenRow Spot) → row ≡ get_or rows n row → n < length rows → (p : Spot) → OfFirstRows rows (n + 1) p
      → OfFirstRows rows n p ⊎ ((p ≡ row.spot) ⊎ (row.end ≡ Some p))
  rows_apart rows n row is short p (k, other, less, at, spot) = elim (cases_order k n) [
    | inl same ↦ inr (
        let one : other ≡ row = at ∙ ap (λ j. get_or rows j other) same ∙ get_or_default rows n other row short ∙ sym is in
        subst (λ z. (p ≡ z.spot) ⊎ (z.end ≡ Some p)) one spot)
    | inr more ↦ elim more [ inl below ↦ inl (k, other, below, at, spot) | inr above ↦ absurd (omega (arith, less, above)) ]
  ]

  pub rows_next : (rows : List (TokenRow Spot)) (n : ℕ) (row : TokenRow Spot) (old mid new : Reach) → row ≡ get_or rows n row → n < length rows → Notes f (OfFirstRows rows n) old mid
      → Notes f (λ p. (p ≡ row.spot) ⊎ (row.end ≡ Some p)) mid new → Notes f (OfFirstRows rows (n + 1)) old new
  rows_next rows n row old mid new is short = notes_both (OfFirstRows rows n) (λ p. (p ≡ row.spot) ⊎ (row.end ≡ Some p)) (OfFirstRows rows (n + 1)) old mid new
      (rows_apart rows n row is short)
      (λ p (k, other, less, at, spot). (k, other, omega (arith, less), at, spot))
      (λ p spot. (n, row, omega arith, is, spot))

  -- ---- points at which no token is

  module _ (points : List Bool) where
    pub off_next : (rows : List (TokenRow Spot)) (n : ℕ) (row : TokenRow Spot) → row ≡ get_or rows n row → n < length rows → ((p : Spot) → OfFirstRows rows n p → IsOff f points p)
        → ((p : Spot) → (p ≡ row.spot) ⊎ (row.end ≡ Some p) → IsOff f points p) → (p : Spot) → OfFirstRows rows (n + 1) p → IsOff f points p
    off_next rows n row is short before here p at = elim (rows_apart rows n row is short p at) [ inl first ↦ before p first | inr own ↦ here p own ]

  pub class_off : (class : List ℕ) (rows : List (TokenRow Spot)) → AreTokens f class rows → (points : List Bool) (n : ℕ) → n ≡ length rows → ((p : Spot) → OfFirstRows rows n p → IsOff f points p)
      → (p : Spot) → IsClassSpot f class p → IsOff f points p
  class_off class rows are points n whole off p spot = off p (subst (λ k. OfFirstRows rows k p) (sym whole) (in_class class rows are p spot))

  -- ---- `start` and a class

  pub class_noted_too : (class : List ℕ) (old mid new : Reach) → Notes f (λ p. p ≡ Declared 0) old mid → Notes f (IsClassSpot f class) mid new → Notes f (IsSpotOf f class) old new
  class_noted_too class old mid new =
      notes_both (λ p. p ≡ Declared 0) (IsClassSpot f class) (IsSpotOf f class) old mid new (λ p is. is) (λ p is. inl is) (λ p is. inr is)

  pub reached : (S : Spot → Type 0) (old new : Reach) → ((p : ℕ) → is_in old.all.items p ≡ false) → ((p : ℕ) → is_in old.bounded.items p ≡ false) → HasPlaces old → Notes f S old new
      → AreThose (IsBaseOf f S) new.all.items × AreThose (IsBoundedBaseOf f S) new.bounded.items
  reached S old new none none_bounded has notes = (
    puts_into_none (IsBaseOf f S) old.all.items new.all.items none has.all notes.all,
    puts_into_none (IsBoundedBaseOf f S) old.bounded.items new.bounded.items none_bounded has.bounded notes.bounded,
  )
