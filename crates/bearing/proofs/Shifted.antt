-- Loose tokens and the fast ones behind them.
use Rattle.std.proofs.Common.{◌≡◌, ◌∙◌, ℕ, Bool, true, false, not, ◌+◌, ◌<◌, List, [], ◌∷◌, ◌++◌, length, get_or, Option, Some, None, refl, sym, ap, subst, inl, inr, ◌⊎◌, arith}
use Rattle.std.proofs.lemmas.Bool.{cases_order, not-false}
use Rattle.std.proofs.lemmas.List.{get_or_default}
use Rattle.std.proofs.lemmas.List.Elements.{All-nil, All-push, All-contains, Contains-append_left, Contains-append_right}
use Rattle.std.specs.Prelude.{is_some}
use Rattle.std.specs.Cmp.Lexicographic.{bytes_decides}
use Rattle.std.specs.Option.{option_map, option_map_or}
use Rattle.std.specs.List.{All, Contains}
use Rattle.tmm_model.specs.declared.token.TokenRow.{TokenRow}
use Rattle.tmm_model.specs.Points.{same_name}
use Rattle.list_theory.proofs.Elements.{both}
use Rattle.dist_net.specs.Net.{Net, Nets}
use Rattle.spots.specs.declared.spot.Spot.{Spot}
use Rattle.spots.specs.declared.spot.Spot.TheVariants.{Declared, Node}
use Rattle.spots.specs.Forest.{Forest, Member, member}
use Rattle.spots.specs.Spots.{base_of, AreTokens, token_row}
use Rattle.spots.proofs.Rows.{IsRowOf, member_of_token}
use Rattle.joined.specs.Gaps.{IsClassSpot, begin, an_end}
use Rattle.joined.specs.Shifting.{IsSpotOf, IsFast, IsWallAt, IsSparedAt, SparesClass}
use Rattle.bearing.specs.declared.places.Place.{Place}
use Rattle.bearing.specs.declared.loose_tokens.Shift.{Shift}
use Rattle.bearing.specs.declared.walls.FastToken.{FastToken}
use Rattle.bearing.specs.Fast.{IsInBoth, AreInBoth, is_out}
use Rattle.bearing.specs.Places.{IsPlaceOf}
use Rattle.bearing.specs.PointSets.{is_in, AreThose}
use Rattle.bearing.specs.Reach.{IsBaseOf}
use Rattle.bearing.specs.Shifts.{stands_fast, IsFastToken, HasBegunBy, AreWallsBy, IsSparedBy, AreBehind, TokensHaveBoth, ShiftHasBoth, IsShift, IsBehindNode, IsNoted, AreShifts, NotesRow}

node_base : (f : Forest) (x : ℕ) (m : Member) → member f x ≡ Some m → base_of f (Node x) ≡ m.begin
node_base f x m here = ap (λ (o : Option Member). option_map_or (λ (k : Member). k.begin) o 0) here

-- ---- fast tokens

module _ (f : Forest) (fast : List Bool) where
  -- a token that stands fast is fast
  pub fast_row : (row : TokenRow Spot) (x : ℕ) (m : Member) (place : Place) → IsRowOf f row x m → IsPlaceOf f x place → stands_fast fast place row.end ≡ true → IsFast (is_out fast) m
  fast_row row x m place is at stands = by m.end refl (subst (λ o. stands_fast fast place o ≡ true) is.end stands)
    where
      begins : is_in fast place.base ≡ true → is_out fast m.begin ≡ false
      begins in_fast = ap (is_out fast) (sym (node_base f x m is.here) ∙ at.base) ∙ ap not in_fast

      by : (o : Option ℕ) → m.end ≡ o → stands_fast fast place (option_map Declared o) ≡ true → IsFast (is_out fast) m
      by None ends h = record { begin = begins h; «end» = λ e other. (let no : None ≡ Some e = sym ends ∙ other in cc) }
      by (Some e) ends h =
          let parts = both (is_in fast place.base) (is_in fast e) h in
          record { begin = begins parts.0; «end» = λ k other. (let one : e ≡ k = (let same : Some e ≡ Some k = sym ends ∙ other in cc) in ap not (subst (λ z. is_in fast z ≡ true) one parts.1)) }

  -- the place of a fast token is one of the set
  pub fast_place : (class : List ℕ) (t : FastToken) → IsFastToken f (is_out fast) class t → is_in fast t.place.base ≡ true
  fast_place class t is = subst (λ z. is_in fast z ≡ true) (sym (node_base f is.node is.token is.here) ∙ is.place.base) (not-false (is_in fast is.token.begin) is.fast.begin)

  pub tokens_both : (nets : Nets) (class : List ℕ) (tokens : List FastToken) → AreInBoth nets fast → All (IsFastToken f (is_out fast) class) tokens → TokensHaveBoth nets tokens
  tokens_both nets class tokens are all k d less = are (get_or tokens k d).place.base (fast_place class (get_or tokens k d) (all k d less))

  -- a class all of whose points are fast has no loose token
  pub all_fast : (class : List ℕ) (reach : List Bool) → AreThose (IsBaseOf f (IsSpotOf f class)) reach → ((p : ℕ) → p < 256 → is_in reach p ≡ true → is_in fast p ≡ true)
      → ((p : ℕ) → is_in reach p ≡ true → p < 256) → (y : ℕ) (m : Member) → member f y ≡ Some m → m.class ≡ Some class → IsFast (is_out fast) m
  all_fast class reach are among below y m here of = record {
    begin = ap not (in_fast (Node y) (begin y m here of refl) m.begin (node_base f y m here));
    «end» = λ e ends. ap not (in_fast (Declared e) (an_end y m e here of ends refl) e refl);
  }
    where
      in_fast : (p : Spot) → IsClassSpot f class p → (n : ℕ) → base_of f p ≡ n → is_in fast n ≡ true
      in_fast p spot n is = let there = are.all n (p, inr spot, is) in among n (below n there) there

-- ---- walls

module _ (net : Net) (f : Forest) (loose : ℕ → Bool) (class : List ℕ) (x y : ℕ) (m : Member) (event place : Place) (at_event : IsPlaceOf f x event) (at_place : IsPlaceOf f y place) where
  wall_at : (t : FastToken) (is : IsBehindNode net f loose class y m t) → HasBegunBy net event t → IsWallAt net f loose class x y is.token.node is.token.token
  wall_at t is begun = record { here = is.token.here; of = is.token.of; fast = is.token.fast; after = is.after; begun = begun f x is.token.node at_event is.token.place }

  pub spared_by : (behind : List FastToken) → All (IsBehindNode net f loose class y m) behind → IsSparedBy net place behind event → IsSparedAt net f loose class x y m
  spared_by behind all (inl not_yet) = inl (not_yet f x y at_event at_place)
  spared_by behind all (inr w) =
      let one = All-contains (IsBehindNode net f loose class y m) behind w.one all w.one_is in
      let other = All-contains (IsBehindNode net f loose class y m) behind w.other all w.other_is in
      inr (
        one.no_span,
        record {
          one = one.token.node;
          other = other.token.node;
          first = one.token.token;
          second = other.token.token;
          first_is = wall_at w.one one w.one_begun;
          second_is = wall_at w.other other w.other_begun;
          differ = λ same. w.differ (one.token.fact ∙ same ∙ sym other.token.fact);
        },
      )

-- two that have begun, of different facts, are walls
pub two_begun : (net : Net) (tokens : List FastToken) (event : Place) (one other : FastToken) → Contains tokens one → HasBegunBy net event one
    → Contains tokens other → HasBegunBy net event other → same_name other.fact one.fact ≡ false → AreWallsBy net tokens event
two_begun net tokens event one other one_is one_begun other_is other_begun beside = record {
  one = one;
  other = other;
  one_is = one_is;
  other_is = other_is;
  one_begun = one_begun;
  other_begun = other_begun;
  differ = λ same. (let both_are : true ≡ false = sym ((bytes_decides other.fact one.fact).1 (sym same)) ∙ beside in cc);
}

-- ---- one loose token

module _ (f : Forest) (fast : List Bool) where
  -- tokens that are behind a place are so behind its node
  behind_node : (net : Net) (class : List ℕ) (y : ℕ) (m : Member) (place : Place) (tokens behind : List FastToken) → IsPlaceOf f y place
      → All (IsFastToken f (is_out fast) class) tokens → m.end ≡ None → AreBehind net place tokens behind → All (IsBehindNode net f (is_out fast) class y m) behind
  behind_node net class y m place tokens behind at all no_span are k d less =
      let (listed, tells) = are k d less in
      let token = All-contains (IsFastToken f (is_out fast) class) tokens (get_or behind k d) all listed in
      record { token = token; after = tells f token.node y token.place at; no_span = no_span }

  none_behind : (net : Net) (class : List ℕ) (y : ℕ) (m : Member) (behind : List FastToken) → behind ≡ [] → All (IsBehindNode net f (is_out fast) class y m) behind
  none_behind net class y m behind none = subst (All (IsBehindNode net f (is_out fast) class y m)) (sym none) (All-nil (IsBehindNode net f (is_out fast) class y m))

  behind_both : (nets : Nets) (net : Net) (place : Place) (tokens behind : List FastToken) → TokensHaveBoth nets tokens → AreBehind net place tokens behind → TokensHaveBoth nets behind
  behind_both nets net place tokens behind have are k d less =
      All-contains (λ (t : FastToken). IsInBoth nets t.place.base) tokens (get_or behind k d) have (are k d less).0

  module _ (nets : Nets) (row : TokenRow Spot) (old : List Shift) where
    -- a fast row changes nothing
    pub noted_fast : (place : Place) → ((x : ℕ) → row.spot ≡ Node x → IsPlaceOf f x place) → stands_fast fast place row.end ≡ true → NotesRow nets f (is_out fast) row old old
    noted_fast place at stands = record {
      have = λ h. h;
      more = λ shift on. on;
      noted = λ y m is. inl (fast_row f fast row y m place is (at y is.spot) stands);
    }

    -- a loose one is pushed
    pub noted_loose : (place : Place) (tokens : List FastToken) (shift : Shift) → ((x : ℕ) → row.spot ≡ Node x → IsPlaceOf f x place) → IsInBoth nets place.base
        → All (IsFastToken f (is_out fast) row.class) tokens → TokensHaveBoth nets tokens → IsShift nets place row.end tokens shift
        → NotesRow nets f (is_out fast) row old (old ++ shift ∷ [])
    noted_loose place tokens shift at in_both all have is = record {
      have = λ before. All-push (ShiftHasBoth nets) old shift before (record {
        place = subst (λ (p : Place). IsInBoth nets p.base) (sym is.at) in_both;
        before = behind_both nets nets.committed place tokens shift.before.items have is.before;
        after = behind_both nets nets.present place tokens shift.after.items have is.after;
      });
      more = λ other on. Contains-append_left old (shift ∷ []) other on;
      noted = λ y m of. inr (
        shift,
        Contains-append_right old (shift ∷ []) shift (0, omega arith, refl),
        record {
          place = subst (IsPlaceOf f y) (sym is.at) (at y of.spot);
          before = by nets.committed shift.before.items is.before y m of (elim is.spans [ inl none ↦ inl none | inr empty ↦ inr empty.0 ]);
          after = by nets.present shift.after.items is.after y m of (elim is.spans [ inl none ↦ inl none | inr empty ↦ inr empty.1 ]);
        },
      );
    }
      where
        no_end : (m : Member) → row.end ≡ option_map Declared m.end → row.end ≡ None → m.end ≡ None
        no_end m is none = of m.end (sym is ∙ none)
          where
            of : (o : Option ℕ) → option_map Declared o ≡ None → o ≡ None
            of None e = refl
            of (Some k) e = cc

        by : (net : Net) (behind : List FastToken) → AreBehind net place tokens behind → (y : ℕ) (m : Member) → IsRowOf f row y m → (row.end ≡ None) ⊎ (behind ≡ [])
            → All (IsBehindNode net f (is_out fast) row.class y m) behind
        by net behind are y m of (inl none) = behind_node net row.class y m place tokens behind (at y of.spot) all (no_end m of.end none) are
        by net behind are y m of (inr empty) = none_behind net row.class y m behind empty

-- ---- all rows of a class, one after the other

-- the node of a row of a class
pub row_node : (f : Forest) (class : List ℕ) (rows : List (TokenRow Spot)) → AreTokens f class rows → (k : ℕ) (row : TokenRow Spot) → k < length rows → row ≡ get_or rows k row
    → (y : ℕ) × (m : Member) × IsRowOf f row y m
row_node f class rows are k row less is = let (y, m, of, one) = member_of_token f class rows are row (k, less, sym is) in (y, m, of)

pub row_class : (f : Forest) (class : List ℕ) (rows : List (TokenRow Spot)) → AreTokens f class rows → (k : ℕ) (row : TokenRow Spot) → k < length rows → row ≡ get_or rows k row
    → row.class ≡ class
row_class f class rows are k row less is = let (y, m, of, one) = member_of_token f class rows are row (k, less, sym is) in one

-- the tokens of the first rows are noted
pub record NotesFirst (nets : Nets) (f : Forest) (loose : ℕ → Bool) (class : List ℕ) (rows : List (TokenRow Spot)) (n : ℕ) (shifts : List Shift) : Type 0 where
  pub have : All (ShiftHasBoth nets) shifts
  pub each : (k : ℕ) (row : TokenRow Spot) → k < n → row ≡ get_or rows k row → (y : ℕ) (m : Member) → IsRowOf f row y m → IsNoted nets f loose class shifts y m

module _ (nets : Nets) (f : Forest) (loose : ℕ → Bool) (class : List ℕ) (rows : List (TokenRow Spot)) (are : AreTokens f class rows) where
  pub rows_start : NotesFirst nets f loose class rows 0 []
  rows_start = record { have = All-nil (ShiftHasBoth nets); each = λ k row less. absurd (omega (arith, less)) }

  noted_on : (old new : List Shift) → ((shift : Shift) → Contains old shift → Contains new shift) → (y : ℕ) (m : Member) → IsNoted nets f loose class old y m → IsNoted nets f loose class new y m
  noted_on old new more y m (inl fast) = inl fast
  noted_on old new more y m (inr (shift, on, is)) = inr (shift, more shift on, is)

  pub rows_more : (n : ℕ) (row : TokenRow Spot) (old new : List Shift) → n < length rows → row ≡ get_or rows n row → NotesFirst nets f loose class rows n old → NotesRow nets f loose row old new → NotesFirst nets f loose class rows (n + 1) new
  rows_more n row old new short is first next = record {
    have = next.have first.have;
    each = λ k other less at y m of. elim (cases_order k n) [
      | inl same ↦ (
          let one : other ≡ row = at ∙ ap (λ j. get_or rows j other) same ∙ get_or_default rows n other row short ∙ sym is in
          subst (λ c. IsNoted nets f loose c new y m) (row_class f class rows are n row short is) (next.noted y m (subst (λ (z : TokenRow Spot). IsRowOf f z y m) one of)))
      | inr apart ↦ elim apart [
        | inl below ↦ noted_on old new next.more y m (first.each k other below at y m of)
        | inr above ↦ absurd (omega (arith, less, above))
      ]
    ];
  }

  pub rows_whole : (n : ℕ) (shifts : List Shift) → n ≡ length rows → NotesFirst nets f loose class rows n shifts → AreShifts nets f loose class shifts
  rows_whole n shifts whole first = record {
    have = first.have;
    each = λ y m here of.
        let row : TokenRow Spot = record { spot = Node y; end = option_map Declared m.end; fact = m.what; class = class } in
        let made : token_row y m ≡ Some row = ap (λ (o : Option (List ℕ)). option_map (λ c. record { spot = Node y; end = option_map Declared m.end; fact = m.what; class = c }) o) of in
        let (k, less, is) = are.all y m row here made refl in
        first.each k row (subst (λ z. k < z) (sym whole) less) (sym is) y m (record { here = here; spot = refl; «end» = refl; fact = refl; class = of });
  }

pub not_some : {X : Type 0} (o : Option X) → is_some o ≡ false → o ≡ None
not_some None e = refl
not_some (Some x) e = cc

-- ---- what is spared

-- the events at which all loose tokens are spared
pub all_spared : (nets : Nets) (f : Forest) (fast : List Bool) (shifts : List Shift) (x : ℕ) (event : Place) → IsPlaceOf f x event → is_in fast event.base ≡ true
    → ((shift : Shift) → Contains shifts shift → IsSparedBy nets.committed shift.place shift.before.items event × IsSparedBy nets.present shift.place shift.after.items event)
    → (class : List ℕ) → AreShifts nets f (is_out fast) class shifts → SparesClass nets f (is_out fast) class x
all_spared nets f fast shifts x event at in_fast spared class are = record {
  event = ap (is_out fast) at.base ∙ ap not in_fast;
  each = λ y m here of. elim (are.each y m here of) [
    | inl stands ↦ inl stands
    | inr (shift, on, is) ↦ inr (
        let h = spared shift on in (
          spared_by nets.committed f (is_out fast) class x y m event shift.place at is.place shift.before.items is.before h.0,
          spared_by nets.present f (is_out fast) class x y m event shift.place at is.place shift.after.items is.after h.1,
        ))
  ];
}
