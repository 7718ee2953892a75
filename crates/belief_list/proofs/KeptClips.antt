-- A node keeps its clip where what contradicts it and could come before that stands as before.
use Rattle.std.proofs.Common.{◌≡◌, ◌∙◌, ℕ, Bool, true, false, ◌&&◌, List, [], ◌∷◌, refl, sym, ap, subst, inl, inr, arith}
use Rattle.std.proofs.lemmas.Bool.Decides.{eqb_tells}
use Rattle.std.proofs.lemmas.Cmp.{int_ranked}
use Rattle.std.proofs.lemmas.Int.{ints}
use Rattle.std.specs.Prelude.{ℤ, negsuc, ◌+ℤ◌, ◌<ℤ◌, ◌≤ℤ◌, Option, Some, None, IfSome, filter}
use Rattle.std.specs.List.{Contains}
use Rattle.std.specs.Option.{option_map, option_map_or, option_and_then}
use Rattle.std.specs.Ordering.{on, is_gt, int_cmp, nat_cmp, ordering_then, MatchOrdering}
use Rattle.std.specs.Cmp.Lexicographic.{slice_cmp}
use Rattle.std.specs.declared.cmp.Ordering.{Ordering}
use Rattle.std.specs.declared.cmp.Ordering.TheVariants.{Less, Equal, Greater}
use Rattle.tmm_model.specs.declared.bound.Bound.{Bound}
use Rattle.tmm_model.specs.declared.bound.Bound.TheVariants.{Finite, Free}
use Rattle.tmm_model.specs.declared.point.PointName.TheVariants.{Start, Begin}
use Rattle.tmm_model.specs.declared.premise.Edit.{Edit}
use Rattle.tmm_model.specs.declared.token.TokenRow.{TokenRow}
use Rattle.tmm_model.specs.Answers.{clip, clip_of, first_believed}
use Rattle.tmm_model.specs.Beliefs.{token_of, contradicts_in}
use Rattle.tmm_model.specs.Bounds.{IfFinite, bound_at_most, bound_plus, bound_less}
use Rattle.tmm_model.specs.Edits.{next_list}
use Rattle.tmm_model.specs.Firsts.{earliest, first}
use Rattle.tmm_model.specs.Maps.{TimeMap, built, gap, order, believed_tokens}
use Rattle.tmm_model.specs.Moments.{Moment, At, base, distance, early, negated, printed}
use Rattle.tmm_model.specs.Standing.{Standing, points_in, far_in}
use Rattle.tmm_model.specs.Tokens.{is_before, clips}
use Rattle.list_theory.proofs.Elements.{In, both, In-filter, filter-In, In-from_Contains, Contains-from_In, In-filter_map, filter_map-In}
use Rattle.belief_theory.specs.Right.{Occurs}
use Rattle.belief_theory.proofs.Firsts.{least_is, one_spot}
use Rattle.belief_theory.proofs.NextLists.{all_spelt}
use Rattle.belief_theory.proofs.OneRight.{spot-token_of}
use Rattle.belief_theory.proofs.Order.{IsSpelt, ordered}
use Rattle.dist_net.specs.Net.{Net, Nets, IsMovedAt}
use Rattle.net_theory.specs.KeptNumbers.{PointsKeepNumbers}
use Rattle.net_theory.proofs.Nets.{is_in_use}
use Rattle.spots.specs.declared.spot.Spot.{Spot}
use Rattle.spots.specs.declared.spot.Spot.TheVariants.{Declared, Node}
use Rattle.spots.specs.Forest.{Forest, Member, member, IsLive, moment, moment_at}
use Rattle.spots.specs.OfLists.{IsForestOf, HasOccurrences}
use Rattle.spots.specs.Spots.{spot_moment, spot_distance, node_early, node_cmp, base_of, links_of, links_low, links_high, net_far, row_moment}
use Rattle.spots.proofs.Dates.{dates_met}
use Rattle.spots.proofs.Distances.{distance-two_bases}
use Rattle.spots.proofs.Nodes.{node_at, live_at, moment_at-is, base-moment, point_is}
use Rattle.spots.proofs.Seen.{distance_is, early_is, order_is, start_is, occurs_at, token_is}
use Rattle.revisions.proofs.Clips.{clip_believed}
use Rattle.revisions.proofs.Tokens.{tokens_stay}
use Rattle.joined.proofs.Gaps.{WasThere, start_was, node_was, distance_was, one_base}
use Rattle.belief_list.specs.AsBefore.{StandsAsBefore}

-- ---- the first of some tokens by two maps

abbrev by_begin : TimeMap → TokenRow Moment → TokenRow Moment → Ordering
by_begin m = on (λ k. k.spot) (order m)

-- the token has one date in both maps
abbrev SameDate : TimeMap → TimeMap → TokenRow Moment → Type 0
SameDate m n c = early m.list m.far c.spot ≡ early n.list n.far c.spot

-- One token is first of some by a map and of others by another, if the first of the former is among
-- the latter, and each of the latter that is not after it is among the former.
one_near : (m n : TimeMap) (xs ys : List (TokenRow Moment)) → ((k : TokenRow Moment) → In k xs → IsSpelt k.spot) → ((k : TokenRow Moment) → In k ys → IsSpelt k.spot)
    → ((c : TokenRow Moment) → first (by_begin m) xs ≡ Some c → In c xs → In c ys × SameDate m n c)
    → ((c : TokenRow Moment) → In c ys → ((d : TokenRow Moment) → first (by_begin m) xs ≡ Some d → is_gt (order n c.spot d.spot) ≡ false) → In c xs × SameDate m n c)
    → option_map (λ k. k.spot) (first (by_begin m) xs) ≡ option_map (λ k. k.spot) (first (by_begin n) ys)
one_near m n [] [] live_x live_y stays back = refl
one_near m n [] (y ∷ ys) live_x live_y stays back = absurd (back y (inl refl) (λ d e. absurd (cc e))).0
one_near m n (x ∷ xs) [] live_x live_y stays back = absurd (stays (earliest (by_begin m) x xs) refl (least_is (ordered m.list m.far) x xs live_x).member).0
one_near m n (x ∷ xs) (y ∷ ys) live_x live_y stays back =
    let one = least_is (ordered m.list m.far) x xs live_x in
    let two = least_is (ordered n.list n.far) y ys live_y in
    let k : TokenRow Moment = earliest (by_begin m) x xs in
    let c : TokenRow Moment = earliest (by_begin n) y ys in
    let (k_in, date_k) = stays k refl one.member in
    let ahead : is_gt (order n c.spot k.spot) ≡ false = two.below k k_in in
    let (c_in, date_c) = back c two.member (λ d e. (let same : k ≡ d = cc in subst (λ z. is_gt (order n c.spot z.spot) ≡ false) same ahead)) in
    let alike : order m c.spot k.spot ≡ order n c.spot k.spot = λ i. ordering_then (int_cmp (date_c i) (date_k i)) (slice_cmp nat_cmp (printed c.spot) (printed k.spot)) in
    ap Some (one_spot (ordered m.list m.far) k.spot c.spot (live_x k one.member) (live_x c c_in) (one.below c c_in) (ap is_gt alike ∙ ahead))

-- what is surely at least 1 later has a later date
sure_later : (b : Bound) (x y : ℤ) → bound_at_most b (negsuc 0) ≡ true → IfFinite b (λ w. x ≤ℤ (y +ℤ w)) → x <ℤ y
sure_later (Finite w) x y e h = omega (arith, ints, e)
sure_later Free x y e h = cc

-- a node that surely begins after another has a later date
later_than : (net : Net) (g : Forest) (s : Standing) → IsForestOf s net g → (y x : ℕ) → IsLive g y → IsLive g x → bound_at_most (spot_distance net g (Node y) (Node x)) (negsuc 0) ≡ true → node_early net g x <ℤ node_early net g y
later_than net g s seen y x live_y live_x e = sure_later (spot_distance net g (Node y) (Node x)) (node_early net g x) (node_early net g y) e (dates_met net g (Node y) (Node x) ((s, seen), live_y) ((s, seen), live_x))

-- one that is not after another has no later date
no_later_than : (net : Net) (g : Forest) (y z : ℕ) → is_gt (node_cmp net g y z) ≡ false → node_early net g y ≤ℤ node_early net g z
no_later_than net g y z e =
    let a = node_early net g y in
    let b = node_early net g z in
    by (int_cmp a b) (int_ranked a b (int_cmp a b) refl) e
  where
    by : (r : Ordering) → MatchOrdering r (node_early net g y <ℤ node_early net g z) (node_early net g y ≡ node_early net g z) (node_early net g z <ℤ node_early net g y)
        → is_gt (ordering_then r (slice_cmp nat_cmp (printed (moment_at g y)) (printed (moment_at g z)))) ≡ false → node_early net g y ≤ℤ node_early net g z
    by Less h e = omega (arith, ints)
    by Equal h e = omega (arith, ints)
    by Greater h e = cc

module _ (old : Standing) (edit : Edit) (before net : Net) (moved : List ℕ) (f g : Forest)
    (seen_f : IsForestOf old before f) (holds_f : HasOccurrences (built old).believed f) (seen_g : IsForestOf (next_list old edit) net g) (holds_g : HasOccurrences (built (next_list old edit)).believed g)
    (numbers : (y : ℕ) → IsLive f y → IsLive g y → moment_at f y ≡ moment_at g y)
    (keep : PointsKeepNumbers (points_in (next_list old edit).premises) before.names net.names) (apart : IsMovedAt moved before net) where
  abbrev new : Standing
  new = next_list old edit

  -- both networks
  abbrev nets : Nets
  nets = record { present = net; committed = before; draft = []; moved = moved }

  -- a node of both lists occurs in the first
  occurs_old : (y : ℕ) → IsLive f y → IsLive g y → Occurs old (moment_at g y)
  occurs_old y live_f live_g = subst (Occurs old) (numbers y live_f live_g) (occurs_at old before f seen_f y live_f)

  was_there : (y : ℕ) → IsLive f y → IsLive g y → WasThere old edit nets g seen_f.network seen_g keep (Node y)
  was_there y live_f live_g = node_was old edit nets g seen_f.network seen_g keep y live_g (occurs_old y live_f live_g)

  token_stays : (y : ℕ) → IsLive f y → IsLive g y → token_of old (moment_at g y) ≡ token_of new (moment_at g y)
  token_stays y live_f live_g = tokens_stay old edit seen_f.network.sound seen_g.network.sound (moment_at g y) (occurs_old y live_f live_g) (occurs_at new net g seen_g y live_g)

  believed_before : (y : ℕ) → IsLive f y → IsLive g y → Contains (built old).believed (moment_at g y)
  believed_before y live_f live_g =
      let (m, here) = node_at f y live_f in
      subst (Contains (built old).believed) (sym (moment_at-is f y m here) ∙ numbers y live_f live_g) (holds_f.own y m here)

  -- the token that a node is
  abbrev token : ℕ → Member → List ℕ → TokenRow Moment
  token y m class = row_moment net.names g (record { spot = Node y; end = option_map Declared m.end; fact = m.what; class = class })

  made : (y : ℕ) (m : Member) (class : List ℕ) → member g y ≡ Some m → m.class ≡ Some class → token_of new (moment m) ≡ Some (token y m class)
  made y m class here is =
      token_is new net g seen_g y m here
      ∙ ap (λ (o : Option (List ℕ)). option_map (row_moment net.names g) (option_map (λ class. record { spot = Node y; end = option_map Declared m.end; fact = m.what; class = class }) o)) is

  -- ---- distances

  -- spots of both lists are as far apart in both networks where neither declared point moved
  spots_same : (p q : Spot) → WasThere old edit nets g seen_f.network seen_g keep p → WasThere old edit nets g seen_f.network seen_g keep q
      → (Contains moved (base_of g p) → ⊥) → (Contains moved (base_of g q) → ⊥) → spot_distance before g p q ≡ spot_distance net g p q
  spots_same p q was_p was_q not_p not_q = elim (eqb_tells (base_of g p) (base_of g q)) [
    | inl one ↦ one_base old edit nets g seen_f.network seen_g keep p q one.1
    | inr two ↦ distance-two_bases before g p q two.1
        ∙ ap (λ d. bound_less (bound_plus d (links_high (links_of g q))) (links_low (links_of g p))) far
        ∙ sym (distance-two_bases net g p q two.1)
  ]
    where
      far : net_far before (base_of g p) (base_of g q) ≡ net_far net (base_of g p) (base_of g q)
      far =
          elim (apart (base_of g p) (base_of g q)
          (is_in_use before.names (base_of g p) (base (spot_moment net.names g p)) was_p.number)
          (is_in_use before.names (base_of g q) (base (spot_moment net.names g q)) was_q.number)
          (is_in_use net.names (base_of g p) (base (spot_moment net.names g p)) (point_is new net g seen_g p was_p.there))
          (is_in_use net.names (base_of g q) (base (spot_moment net.names g q)) (point_is new net g seen_g q was_q.there))) [
            | inl same ↦ same
            | inr either ↦ elim either [ inl first ↦ absurd (not_p first) | inr second ↦ absurd (not_q second) ]
          ]

  -- a node begins elsewhere than at these points
  begin_unmoved : (y : ℕ) (m : Member) → member g y ≡ Some m → (Contains moved m.begin → ⊥) → Contains moved (base_of g (Node y)) → ⊥
  begin_unmoved y m here unmoved at = unmoved (subst (Contains moved) (ap (λ (o : Option Member). option_map_or (λ k. k.begin) o 0) here) at)

  -- the earliest date that a node of both lists had is that of its moment in the first
  date_was : (y : ℕ) → IsLive f y → IsLive g y → node_early before f y ≡ early old (far_in old.premises) (moment_at g y)
  date_was y live_f live_g = early_is old before f seen_f y live_f ∙ ap (early old (far_in old.premises)) (numbers y live_f live_g)

  -- **A node has its earliest date still** where neither its begin nor `start` moved.
  pub date_unmoved : (y : ℕ) (m : Member) → member g y ≡ Some m → IsLive f y → (Contains moved m.begin → ⊥) → (Contains moved 0 → ⊥) → node_early before f y ≡ node_early net g y
  date_unmoved y m here live_f unmoved still =
      let was = was_there y live_f (live_at g y m here) in
      let first = start_was old edit nets g seen_f.network seen_g keep in
      date_was y live_f (live_at g y m here)
      ∙ ap negated
      (ap (λ (z : Moment). distance old (far_in old.premises) (moment_at g y) z) (sym (start_is new net g seen_g))
      ∙ sym (distance_was old edit nets g seen_f.network seen_g keep (Node y) (Declared 0) was first)
      ∙ spots_same (Node y) (Declared 0) was first (begin_unmoved y m here unmoved) still)

  -- the node of a token that is believed after the edit
  record IsNodeOf (k : TokenRow Moment) : Type 0 where
    number : ℕ
    node : Member
    class : List ℕ
    here : member g number ≡ Some node
    of : node.class ≡ Some class
    same : token number node class ≡ k
    live : IsLive g number
    spot : moment_at g number ≡ k.spot
    is : token_of new (moment_at g number) ≡ Some k

  node_of : (k : TokenRow Moment) → In k (believed_tokens (built new)) → IsNodeOf k
  node_of k on =
      let (z, there, e) = In-filter_map (token_of new) (built new).believed k on in
      let (y, m, here, at) = holds_g.all z (Contains-from_In (built new).believed z there) in
      by y m here (moment_at-is g y m here) (ap (token_of new) at ∙ e) m.class refl
    where
      by : (y : ℕ) (m : Member) → member g y ≡ Some m → moment_at g y ≡ moment m → token_of new (moment m) ≡ Some k → (o : Option (List ℕ)) → m.class ≡ o → IsNodeOf k
      by y m here at is None of =
          let none : token_of new (moment m) ≡ None =
          token_is new net g seen_g y m here
          ∙ ap (λ (o : Option (List ℕ)). option_map (row_moment net.names g) (option_map (λ class. record { spot = Node y; end = option_map Declared m.end; fact = m.what; class = class }) o)) of in
          cc
      by y m here at is (Some c) of =
          let same : Some (token y m c) ≡ Some k = sym (made y m c here of) ∙ is in
          let one : token y m c ≡ k = cc in
          record {
            number = y;
            node = m;
            class = c;
            here = here;
            of = of;
            same = one;
            live = live_at g y m here;
            spot = ap (λ (z : TokenRow Moment). z.spot) one;
            is = ap (token_of new) at ∙ is;
          }

  -- ---- nodes that stand as before

  gaps_same : (y z : ℕ) (m n : Member) → member g y ≡ Some m → member g z ≡ Some n → StandsAsBefore before net moved f g y m → StandsAsBefore before net moved f g z n
      → gap (built old) (moment_at g y) (moment_at g z) ≡ gap (built new) (moment_at g y) (moment_at g z)
  gaps_same y z m n at_y at_z stands_y stands_z =
      let live_y = live_at g y m at_y in
      let live_z = live_at g z n at_z in
      sym (distance_was old edit nets g seen_f.network seen_g keep (Node y) (Node z) (was_there y stands_y.was live_y) (was_there z stands_z.was live_z))
      ∙ spots_same (Node y) (Node z) (was_there y stands_y.was live_y) (was_there z stands_z.was live_z)
      (begin_unmoved y m at_y stands_y.unmoved) (begin_unmoved z n at_z stands_z.unmoved)
      ∙ distance_is new net g seen_g (Node y) (Node z) live_y live_z

  date_same : (y : ℕ) (m : Member) → IsLive g y → StandsAsBefore before net moved f g y m
      → early old (far_in old.premises) (moment_at g y) ≡ early new (far_in new.premises) (moment_at g y)
  date_same y m live stands =
      sym (date_was y stands.was live) ∙ stands.date ∙ early_is new net g seen_g y live

  -- a node that stands as before is a token of the list before, as it is one of the list after
  token_before : (y : ℕ) (k : TokenRow Moment) → IsLive f y → IsLive g y → token_of new (moment_at g y) ≡ Some k → In k (believed_tokens (built old))
  token_before y k live_f live_g is =
      filter_map-In (token_of old) (built old).believed (moment_at g y) k
      (In-from_Contains (built old).believed (moment_at g y) (believed_before y live_f live_g)) (token_stays y live_f live_g ∙ is)

  -- ---- what clipped

  -- no node of the list before is `start`
  not_start : (c : Moment) → Contains (built old).believed c → c ≡ At Start → ⊥
  not_start c believed is =
      let (y, m, here, at) = holds_f.all c believed in
      let both : Begin m.root ≡ Start = sym (base-moment m) ∙ ap base (at ∙ is) in
      cc

  -- what clipped is under its number the same occurrence after the edit
  clipper_at : (x c : Moment) (y : ℕ) → clip (built old) x ≡ Some c → moment_at f y ≡ c → IsLive g y → moment_at g y ≡ c
  clipper_at x c y is at live = by (member f y) refl
    where
      by : (o : Option Member) → member f y ≡ o → moment_at g y ≡ c
      by None none = absurd (not_start c (clip_believed (built old) x c is) (sym at ∙ ap (λ (o : Option Member). option_map_or moment o (At Start)) none))
      by (Some m) here = sym (numbers y (live_at f y m here) live) ∙ at

  -- **What clipped an occurrence is named by its number still**, if it is there.
  pub same_clipper : (x : Moment) (clipper : Option ℕ) → option_map (moment_at f) clipper ≡ clip (built old) x → IfSome clipper (IsLive g) → option_map (moment_at g) clipper ≡ clip (built old) x
  same_clipper x None was stays = was
  same_clipper x (Some y) was stays = ap Some (clipper_at x (moment_at f y) y (sym was) refl stays) ∙ was

  -- ---- a node whose clip no other can come before

  module _ (x : ℕ) (m : Member) (class : List ℕ) (here : member g x ≡ Some m) (of : m.class ≡ Some class) (stands : StandsAsBefore before net moved f g x m)
      (clipper : Option ℕ) (was : option_map (moment_at f) clipper ≡ clip (built old) (moment_at f x))
      (there : (z : ℕ) → clipper ≡ Some z → (n : Member) × (member g z ≡ Some n) × StandsAsBefore before net moved f g z n)
      (same : (c : TokenRow Moment) → In c (believed_tokens (built old)) → In c (believed_tokens (built new)) → contradicts_in old (token x m class) c ≡ contradicts_in new (token x m class) c)
      (near : (y : ℕ) (n : Member) (c : List ℕ) → member g y ≡ Some n → n.class ≡ Some c → contradicts_in new (token x m class) (token y n c) ≡ true → node_early net g x <ℤ node_early net g y
      → ((z : ℕ) → clipper ≡ Some z → node_early net g y ≤ℤ node_early net g z) → StandsAsBefore before net moved f g y n) where
    abbrev k : TokenRow Moment
    k = token x m class

    live : IsLive g x
    live = live_at g x m here

    now : token_of new (moment_at g x) ≡ Some k
    now = ap (token_of new) (moment_at-is g x m here) ∙ made x m class here of

    clip_was : option_map (moment_at f) clipper ≡ clip (built old) (moment_at g x)
    clip_was = was ∙ ap (clip (built old)) (numbers x stands.was live)

    -- what clips k in a map
    abbrev clips_in : TimeMap → TokenRow Moment → Bool
    clips_in p = clips (contradicts_in p.list) (gap p) k

    abbrev clippers : TimeMap → List (TokenRow Moment)
    clippers p = filter (clips_in p) (believed_tokens p)

    -- the token c clips k in both maps or in none, where it is as far from it
    clips_alike : (c : TokenRow Moment) → In c (believed_tokens (built old)) → In c (believed_tokens (built new)) → gap (built old) c.spot k.spot ≡ gap (built new) c.spot k.spot
        → clips_in (built old) c ≡ clips_in (built new) c
    clips_alike c before after far = λ i. same c before after i && bound_at_most (far i) (negsuc 0)

    -- the clip of k in a map, where this is its end
    abbrev clip_by : TimeMap → Option Moment → Option Moment
    clip_by p o = elim o as (λ _. Option Moment) [ Some end ↦ None | None ↦ first_believed p (clips_in p) ]

    module _ (no_span : k.end ≡ None) where
      -- the node of what clipped k
      clipper_of : (c : TokenRow Moment) → first (by_begin (built old)) (clippers (built old)) ≡ Some c → (z : ℕ) × (clipper ≡ Some z) × (moment_at f z ≡ c.spot)
      clipper_of c is =
          by clipper refl (clip_was ∙ ap (option_and_then (clip_of (built old))) (token_stays x stands.was live ∙ now) ∙ ap (clip_by (built old)) no_span ∙ ap (option_map (λ (z : TokenRow Moment). z.spot)) is)
        where
          by : (o : Option ℕ) → clipper ≡ o → option_map (moment_at f) o ≡ Some c.spot → (z : ℕ) × (clipper ≡ Some z) × (moment_at f z ≡ c.spot)
          by None e same = cc
          by (Some z) e same = (z, e, cc)

      stays : (c : TokenRow Moment) → first (by_begin (built old)) (clippers (built old)) ≡ Some c → In c (clippers (built old)) → In c (clippers (built new)) × SameDate (built old) (built new) c
      stays c is at =
          let h = In-filter (clips_in (built old)) (believed_tokens (built old)) c at in
          let (z, own, spot) = clipper_of c is in
          let (n, at_z, stands_z) = there z own in
          let live_z = live_at g z n at_z in
          let word : moment_at g z ≡ c.spot = sym (numbers z stands_z.was live_z) ∙ spot in
          let (q, on, made_q) = In-filter_map (token_of old) (built old).believed c h.0 in
          let token_z : token_of new (moment_at g z) ≡ Some c = sym (token_stays z stands_z.was live_z) ∙ ap (token_of old) (word ∙ spot-token_of old q c made_q) ∙ made_q in
          let believed : Contains (built new).believed (moment_at g z) = subst (Contains (built new).believed) (sym (moment_at-is g z n at_z)) (holds_g.own z n at_z) in
          let after = filter_map-In (token_of new) (built new).believed (moment_at g z) c (In-from_Contains (built new).believed (moment_at g z) believed) token_z in
          let gaps = subst (λ w. gap (built old) w k.spot ≡ gap (built new) w k.spot) word (gaps_same z x n m at_z here stands_z stands) in (
            filter-In (clips_in (built new)) (believed_tokens (built new)) c after (sym (clips_alike c h.0 after gaps) ∙ h.1),
            subst (λ w. early old (far_in old.premises) w ≡ early new (far_in new.premises) w) word (date_same z n live_z stands_z),
          )

      back : (c : TokenRow Moment) → In c (clippers (built new)) → ((d : TokenRow Moment) → first (by_begin (built old)) (clippers (built old)) ≡ Some d → is_gt (order (built new) c.spot d.spot) ≡ false)
          → In c (clippers (built old)) × SameDate (built old) (built new) c
      back c at ahead =
          let h = In-filter (clips_in (built new)) (believed_tokens (built new)) c at in
          let (differ, before_c) = both (contradicts_in new k c) (is_before (gap (built new)) k.spot c.spot) h.1 in
          let n = node_of c h.0 in
          let y = n.number in
          let far = distance_is new net g seen_g (Node y) (Node x) n.live live ∙ ap (λ z. gap (built new) z k.spot) n.spot in
          let late = later_than net g new seen_g y x n.live live (ap (λ b. bound_at_most b (negsuc 0)) far ∙ before_c) in
          let stands_y = near y n.node n.class n.here n.of (subst (λ z. contradicts_in new k z ≡ true) (sym n.same) differ) late (λ z own. not_beyond c n ahead z own) in
          let before_y = token_before y c stands_y.was n.live n.is in
          let gaps = subst (λ w. gap (built old) w k.spot ≡ gap (built new) w k.spot) n.spot (gaps_same y x n.node m n.here here stands_y stands) in (
            filter-In (clips_in (built old)) (believed_tokens (built old)) c before_y (clips_alike c before_y h.0 gaps ∙ h.1),
            subst (λ w. early old (far_in old.premises) w ≡ early new (far_in new.premises) w) n.spot (date_same y n.node n.live stands_y),
          )
        where
          not_beyond : (c : TokenRow Moment) (n : IsNodeOf c) → ((d : TokenRow Moment) → first (by_begin (built old)) (clippers (built old)) ≡ Some d → is_gt (order (built new) c.spot d.spot) ≡ false)
              → (z : ℕ) → clipper ≡ Some z → node_early net g n.number ≤ℤ node_early net g z
          not_beyond c n ahead z own = by (first (by_begin (built old)) (clippers (built old))) refl
            where
              by : (o : Option (TokenRow Moment)) → first (by_begin (built old)) (clippers (built old)) ≡ o → node_early net g n.number ≤ℤ node_early net g z
              by None e =
                  let none : Some (moment_at f z) ≡ None =
                  ap (option_map (moment_at f)) (sym own) ∙ clip_was ∙ ap (option_and_then (clip_of (built old))) (token_stays x stands.was live ∙ now) ∙ ap (clip_by (built old)) no_span
                  ∙ ap (option_map (λ (z : TokenRow Moment). z.spot)) e in
                  absurd (cc none)
              by (Some d) e =
                  let (w, own_w, spot) = clipper_of d e in
                  let one : Some z ≡ Some w = sym own ∙ own_w in
                  let same : z ≡ w = cc in
                  let (m_z, at_z, stands_z) = there z own in
                  let live_z = live_at g z m_z at_z in
                  let word : moment_at g z ≡ d.spot = sym (numbers z stands_z.was live_z) ∙ ap (moment_at f) same ∙ spot in
                  no_later_than net g n.number z
                  (ap is_gt (order_is new net g seen_g n.number z n.live live_z ∙ (λ i. order (built new) (n.spot i) (word i))) ∙ ahead d e)

      first_stays : option_map (λ k. k.spot) (first (by_begin (built old)) (clippers (built old))) ≡ option_map (λ k. k.spot) (first (by_begin (built new)) (clippers (built new)))
      first_stays =
          one_near (built old) (built new) (clippers (built old)) (clippers (built new))
          (λ c at. all_spelt old seen_f.network.sound c (In-filter (clips_in (built old)) (believed_tokens (built old)) c at).0)
          (λ c at. all_spelt new seen_g.network.sound c (In-filter (clips_in (built new)) (believed_tokens (built new)) c at).0)
          stays back

    -- **The clip stays**, as nothing that stands otherwise than before comes before it.
    pub keeps_near : clip (built new) (moment_at g x) ≡ clip (built old) (moment_at f x)
    keeps_near =
        ap (option_and_then (clip_of (built new))) now ∙ by k.end refl
        ∙ sym (ap (option_and_then (clip_of (built old))) (token_stays x stands.was live ∙ now))
        ∙ ap (clip (built old)) (sym (numbers x stands.was live))
      where
        by : (o : Option Moment) → k.end ≡ o → clip_by (built new) o ≡ clip_by (built old) o
        by (Some end) is = refl
        by None is = sym (first_stays is)
