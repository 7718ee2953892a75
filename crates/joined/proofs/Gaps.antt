-- Points that moved, and decisions that depend on their distances.
use Rattle.std.proofs.Common.{◌≡◌, ◌≢◌, ◌∙◌, ℕ, Bool, true, false, List, [], ◌∷◌, refl, sym, ap, subst, inl, inr, arith}
use Rattle.std.proofs.lemmas.Bool.Decides.{eqb_tells}
use Rattle.std.proofs.lemmas.Int.{ints}
use Rattle.std.specs.Prelude.{◌⊎◌, ℤ, pos, ◌+ℤ◌, ◌-ℤ◌, Option, Some, None, MatchOption, map}
use Rattle.std.specs.List.{Contains, filter_map}
use Rattle.std.specs.Option.{option_map}
use Rattle.tmm_model.specs.declared.bound.Bound.{Bound}
use Rattle.tmm_model.specs.declared.bound.Bound.TheVariants.{Finite, Free}
use Rattle.tmm_model.specs.declared.point.PointName.{PointName}
use Rattle.tmm_model.specs.declared.point.PointName.TheVariants.{Start, Begin, End}
use Rattle.tmm_model.specs.declared.premise.Edit.{Edit}
use Rattle.tmm_model.specs.declared.token.Shape.TheVariants.{Span as ASpan}
use Rattle.tmm_model.specs.declared.token.TokenRow.{TokenRow}
use Rattle.tmm_model.specs.Beliefs.{is_of, roots, token_of, tokens}
use Rattle.tmm_model.specs.Bounds.{bound_plus, bound_less}
use Rattle.tmm_model.specs.Edits.{next_list}
use Rattle.tmm_model.specs.Maps.{built, gap}
use Rattle.tmm_model.specs.Moments.{Moment, At, After, base, rules, low, high, apart, distance, rule_of}
use Rattle.tmm_model.specs.Points.{same_name}
use Rattle.tmm_model.specs.Standing.{Standing, points_in, far_in}
use Rattle.list_theory.proofs.Elements.{In, In-from_Contains, Contains-from_In, In-cases, In-left, In-right, In-map, map-In, In-filter, filter-In, In-filter_map, filter_map-In}
use Rattle.belief_theory.specs.Right.{Occurs}
use Rattle.belief_theory.specs.Touched.{is_watched, watched, watched_points}
use Rattle.belief_theory.proofs.Rivals.{or_cases}
use Rattle.belief_theory.proofs.SoundBeliefs.{believed_occurs}
use Rattle.dist_net.specs.Net.{Nets}
use Rattle.net_theory.specs.Fits.{IsNetOf}
use Rattle.net_theory.specs.KeptNumbers.{PointsKeepNumbers}
use Rattle.net_theory.specs.Represents.{Names, IsNumberOf}
use Rattle.net_theory.proofs.Named.{name_at-is}
use Rattle.net_theory.proofs.Nets.{is_in_use}
use Rattle.net_theory.proofs.Numbers.{number_far, number_same}
use Rattle.spots.specs.declared.spot.Spot.{Spot}
use Rattle.spots.specs.declared.spot.Spot.TheVariants.{Declared, Node}
use Rattle.spots.specs.Forest.{Forest, Member, member, IsLive, moment, moment_at}
use Rattle.spots.specs.OfLists.{IsForestOf, HasOccurrences, map_of}
use Rattle.spots.specs.Spots.{IsSpot, spot_moment, spot_distance, base_of, links_of, links_low, links_high, net_far, row_moment}
use Rattle.spots.proofs.Distances.{distance-one_base, distance-two_bases}
use Rattle.spots.proofs.Links.{low_is, high_is, apart_is}
use Rattle.spots.proofs.Nodes.{node_at, live_at, moment_at-is, base-moment, point_is, links_are, rules_are}
use Rattle.spots.proofs.Seen.{distance_is, start_is, occurs_at, token_is}
use Rattle.revisions.specs.Maps.{watches}
use Rattle.revisions.proofs.Alike.{span_at}
use Rattle.revisions.proofs.Lawful.{text, token_watched}
use Rattle.revisions.proofs.StillEdits.{anchor_point, base_root}
use Rattle.revisions.proofs.Tokens.{is_of_stays}
use Rattle.joined.specs.Gaps.{SameGaps, reads_class, reads_rival, begin, an_end, IsReadSpot, start, read, rival, IsSpotAt, TellsMoves, MovesAt, MovedPointsTouch}
use Rattle.joined.proofs.Reading.{watched_either, class_watched, rival_watched}

-- ---- rules that say the same in two lists

module _ (s t : Standing) where
  abbrev pub Agree : List (List ℕ) → Type 0
  Agree rs = (r : List ℕ) → In r rs → rule_of s r ≡ rule_of t r

  low_on : (rs : List (List ℕ)) → Agree rs → low s rs ≡ low t rs
  low_on [] agree = refl
  low_on (r ∷ rs) agree = let first = agree r (inl refl) in let rest = low_on rs (λ q at. agree q (inr at)) in λ i. (first i).lo +ℤ rest i

  high_on : (rs : List (List ℕ)) → Agree rs → high s rs ≡ high t rs
  high_on [] agree = refl
  high_on (r ∷ rs) agree = let first = agree r (inl refl) in let rest = high_on rs (λ q at. agree q (inr at)) in λ i. bound_plus (first i).hi (rest i)

  apart_on : (u v : List (List ℕ)) → Agree u → Agree v → apart s u v ≡ apart t u v
  apart_on [] v agree_u agree_v = let most = high_on v agree_v in λ i. bound_less (most i) (pos 0)
  apart_on (r ∷ u) [] agree_u agree_v = let least = low_on (r ∷ u) agree_u in λ i. bound_less (Finite (pos 0)) (least i)
  apart_on (r ∷ u) (q ∷ v) agree_u agree_v =
      let rest = apart_on u v (λ p at. agree_u p (inr at)) (λ p at. agree_v p (inr at)) in
      let most = high_on (q ∷ v) agree_v in
      let least = low_on (r ∷ u) agree_u in
      λ i. elim (same_name r q) as (λ _. Bound) [ true ↦ rest i | false ↦ bound_less (most i) (least i) ]

-- ---- bounds

-- where rules take a bounded time, distances that lead to one by way of them are one
cancel : (d e h : Bound) (most least : ℤ) → h ≡ Finite most → bound_less (bound_plus d h) least ≡ bound_less (bound_plus e h) least → d ≡ e
cancel d e h most least bounded same = by d e (λ i. bound_less (bound_plus d (sym bounded i)) least) (λ i. bound_less (bound_plus e (sym bounded i)) least) same
  where
    by : (d e : Bound) → bound_less (bound_plus d (Finite most)) least ≡ bound_less (bound_plus d h) least → bound_less (bound_plus e (Finite most)) least ≡ bound_less (bound_plus e h) least
        → bound_less (bound_plus d h) least ≡ bound_less (bound_plus e h) least → d ≡ e
    by (Finite x) (Finite y) p q r =
        let both : Finite ((x +ℤ most) -ℤ least) ≡ Finite ((y +ℤ most) -ℤ least) = p ∙ r ∙ sym q in
        let one : (x +ℤ most) -ℤ least ≡ (y +ℤ most) -ℤ least = cc in
        let same : x ≡ y = omega (arith, ints, one) in
        ap Finite same
    by (Finite x) Free p q r = let both : Finite ((x +ℤ most) -ℤ least) ≡ Free = p ∙ r ∙ sym q in cc
    by Free (Finite y) p q r = let both : Free ≡ Finite ((y +ℤ most) -ℤ least) = p ∙ r ∙ sym q in cc
    by Free Free p q r = refl

-- where they take any time, there is no distance
plus_free : (d h : Bound) → h ≡ Free → bound_plus d h ≡ Free
plus_free (Finite x) h free = ap (bound_plus (Finite x)) free
plus_free Free h free = refl

-- ---- spots of both lists

module _ (old : Standing) (edit : Edit) (nets : Nets) (f : Forest) (net_old : IsNetOf old nets.committed) (seen : IsForestOf (next_list old edit) nets.present f)
    (keep : PointsKeepNumbers (points_in (next_list old edit).premises) nets.committed.names nets.present.names) where
  abbrev new : Standing
  new = next_list old edit

  abbrev names : Names
  names = nets.present.names

  abbrev pub at : Spot → Moment
  at p = spot_moment names f p

  -- the rules on the way to what occurs in both lists say the same in both
  ways : (x : Moment) → Occurs old x → Occurs new x → Agree old new (rules x)
  ways (At p) before now r on = absurd on
  ways (After t q) before now r on = elim (In-cases (rules t) (q ∷ []) r on) [
    | inl there ↦ ways t before.0 now.0 r there
    | inr here ↦ elim here [
      | inl is ↦ subst (λ z. rule_of old z ≡ rule_of new z) is (text old edit net_old.sound seen.network.sound t q before.1 now.1)
      | inr none ↦ absurd none
    ]
  ]

  -- the spot is of both lists: its declared point has the same number in both, and the rules that
  -- lead to it say the same
  pub record WasThere (p : Spot) : Type 0 where
    pub there : IsSpot names f p
    pub number : IsNumberOf nets.committed.names (base_of f p) (base (at p))
    pub agree : Agree old new (rules (at p))

  was_number : (p : PointName) (n : ℕ) → IsNumberOf names n p → In p (points_in old.premises) → IsNumberOf nets.committed.names n p
  was_number p n is known =
      let (k, numbered) = net_old.fits.stands.numbered p (Contains-from_In (points_in old.premises) p known) in
      let now = keep k p (seen.network.fits.stands.named n p is) numbered in
      subst (λ z. IsNumberOf nets.committed.names z p) (seen.network.distinct k n p now is) numbered

  pub start_was : WasThere (Declared 0)
  start_was = record {
    there = is_in_use names 0 Start seen.network.start;
    number = subst (λ (q : PointName). IsNumberOf nets.committed.names 0 q) (sym (name_at-is names 0 Start seen.network.start)) net_old.start;
    agree = λ r on. absurd on;
  }

  pub node_was : (x : ℕ) → IsLive f x → Occurs old (moment_at f x) → WasThere (Node x)
  node_was x live before =
      let (m, here) = node_at f x live in
      let begins : base (moment_at f x) ≡ Begin m.root = ap base (moment_at-is f x m here) ∙ base-moment m in
      let known = anchor_point old (Begin m.root) (subst (λ q. Contains (roots old) (At q)) begins (base_root old (moment_at f x) before)) in
      let is = subst (λ (q : PointName). IsNumberOf names (base_of f (Node x)) q) begins (point_is new nets.present f seen (Node x) live) in
      record {
        there = live;
        number = subst (λ (q : PointName). IsNumberOf nets.committed.names (base_of f (Node x)) q) (sym begins) (was_number (Begin m.root) (base_of f (Node x)) is known);
        agree = ways (moment_at f x) before (occurs_at new nets.present f seen x live);
      }

  end_was : (y : ℕ) (m : Member) (e : ℕ) → member f y ≡ Some m → m.end ≡ Some e → Occurs old (moment m) → WasThere (Declared e)
  end_was y m e here ends before =
      let own = seen.members y m here in
      let span : (m.shape ≡ ASpan) × IsNumberOf names e (End m.root) = subst (λ o. MatchOption o (m.shape ≢ ASpan) (λ k. (m.shape ≡ ASpan) × IsNumberOf names k (End m.root))) ends own.end in
      let was : is_of old (moment m) ≡ Some (ASpan, m.what) = is_of_stays old edit net_old.sound seen.network.sound (moment m) before own.occurs ∙ own.is ∙ ap (λ shape. Some (shape, m.what)) span.0 in
      let known = anchor_point old (End m.root) (m.what, span_at old (moment m) m.root m.what (base-moment m) was) in
      record {
        there = is_in_use names e (End m.root) span.1;
        number = subst (λ (q : PointName). IsNumberOf nets.committed.names e q) (sym (name_at-is names e (End m.root) span.1)) (was_number (End m.root) e span.1 known);
        agree = λ r on. absurd on;
      }

  -- **The distance that spots of both lists had is theirs in the first list.**
  pub distance_was : (p q : Spot) → WasThere p → WasThere q → spot_distance nets.committed f p q ≡ distance old (far_in old.premises) (at p) (at q)
  distance_was p q was_p was_q =
      let links_p = links_are new nets.present f seen p was_p.there in
      let links_q = links_are new nets.present f seen q was_q.there in
      let rules_p = sym (rules_are new nets.present f seen p was_p.there) in
      let rules_q = sym (rules_are new nets.present f seen q was_q.there) in
      let same = number_same old nets.committed net_old (base_of f p) (base_of f q) (base (at p)) (base (at q)) was_p.number was_q.number in
      let far = number_far old nets.committed net_old (base_of f p) (base_of f q) (base (at p)) (base (at q)) was_p.number was_q.number in
      let on_one = apart_is new (links_of f p) (links_of f q) links_p links_q ∙ (λ i. apart new (rules_p i) (rules_q i)) ∙ sym (apart_on old new (rules (at p)) (rules (at q)) was_p.agree was_q.agree) in
      let most = high_is new (links_of f q) links_q ∙ ap (high new) rules_q ∙ sym (high_on old new (rules (at q)) was_q.agree) in
      let least = low_is new (links_of f p) links_p ∙ ap (low new) rules_p ∙ sym (low_on old new (rules (at p)) was_p.agree) in
      λ i. elim (same i) [ true ↦ on_one i | false ↦ bound_less (bound_plus (far i) (most i)) (least i) ]

  -- **Spots of two declared points are as far apart as they were only where these are**, if rules
  -- lead to the second in bounded time.
  far_same : (p q : Spot) → base_of f p ≢ base_of f q → (most : ℤ) → links_high (links_of f q) ≡ Finite most → spot_distance nets.committed f p q ≡ spot_distance nets.present f p q
      → net_far nets.committed (base_of f p) (base_of f q) ≡ net_far nets.present (base_of f p) (base_of f q)
  far_same p q two most bounded same =
      cancel (net_far nets.committed (base_of f p) (base_of f q)) (net_far nets.present (base_of f p) (base_of f q)) (links_high (links_of f q)) most (links_low (links_of f p)) bounded
      (sym (distance-two_bases nets.committed f p q two) ∙ same ∙ distance-two_bases nets.present f p q two)

  pub one_base : (p q : Spot) → base_of f p ≡ base_of f q → spot_distance nets.committed f p q ≡ spot_distance nets.present f p q
  one_base p q one = distance-one_base nets.committed f p q one ∙ sym (distance-one_base nets.present f p q one)

  unbounded_same : (p q : Spot) → links_high (links_of f q) ≡ Free → spot_distance nets.committed f p q ≡ spot_distance nets.present f p q
  unbounded_same p q free = elim (eqb_tells (base_of f p) (base_of f q)) [
    | inl one ↦ one_base p q one.1
    | inr two ↦ distance-two_bases nets.committed f p q two.1
        ∙ ap (λ d. bound_less d (links_low (links_of f p)))
        (plus_free (net_far nets.committed (base_of f p) (base_of f q)) (links_high (links_of f q)) free ∙ sym (plus_free (net_far nets.present (base_of f p) (base_of f q)) (links_high (links_of f q)) free))
        ∙ sym (distance-two_bases nets.present f p q two.1)
  ]

  -- ---- what the rule reads at an event

  module _ (b : List Moment) (r : List ℕ) (x : ℕ) (holds : HasOccurrences b f) (live : IsLive f x) (was : Occurs old (moment_at f x))
      (entered : (y : Moment) → Contains b y → watches new r y ≡ true → Occurs old y) where
    abbrev pub tokens_read : List (TokenRow Moment)
    tokens_read = watched (map_of new b) r

    abbrev points : List Moment
    points = watched_points (map_of new b) (moment_at f x) r

    -- the token that a node is
    abbrev pub token : ℕ → Member → List ℕ → TokenRow Moment
    token y m class = row_moment names f (record { spot = Node y; end = option_map Declared m.end; fact = m.what; class = class })

    made : (y : ℕ) (m : Member) (class : List ℕ) → member f y ≡ Some m → m.class ≡ Some class → token_of new (moment m) ≡ Some (token y m class)
    made y m class here is =
        token_is new nets.present f seen y m here
        ∙ ap (λ (o : Option (List ℕ)). option_map (row_moment names f) (option_map (λ class. record { spot = Node y; end = option_map Declared m.end; fact = m.what; class = class }) o)) is

    pub is_read : (y : ℕ) (m : Member) (class : List ℕ) → member f y ≡ Some m → m.class ≡ Some class → is_watched new r (token y m class) ≡ true → In (token y m class) tokens_read
    is_read y m class here is reads =
        filter-In (is_watched new r) (tokens new b) (token y m class)
        (filter_map-In (token_of new) b (moment m) (token y m class) (In-from_Contains b (moment m) (holds.own y m here)) (made y m class here is)) reads

    was_token : (y : ℕ) (m : Member) (class : List ℕ) → member f y ≡ Some m → m.class ≡ Some class → is_watched new r (token y m class) ≡ true → Occurs old (moment m)
    was_token y m class here is reads =
        entered (moment m) (holds.own y m here) (token_watched new r (moment m) (token y m class) (made y m class here is) reads)

    -- the spot of a token that is watched
    record IsTokenSpot (p : Spot) : Type 0 where
      number : ℕ
      node : Member
      class : List ℕ
      here : member f number ≡ Some node
      of : node.class ≡ Some class
      reads : is_watched new r (token number node class) ≡ true
      is : (p ≡ Node number) ⊎ ((e : ℕ) × (node.end ≡ Some e) × (p ≡ Declared e))

    token_spot : (p : Spot) → IsReadSpot new f r p → (p ≡ Declared 0) ⊎ IsTokenSpot p
    token_spot p (start is) = inl is
    token_spot p (read class reads (begin y m here of is)) =
        inr (record { number = y; node = m; class = class; here = here; of = of; reads = class_watched new r (token y m class) reads; is = inl is })
    token_spot p (read class reads (an_end y m e here of ends is)) =
        inr (record { number = y; node = m; class = class; here = here; of = of; reads = class_watched new r (token y m class) reads; is = inr (e, ends, is) })
    token_spot p (rival fact reads spot) =
        inr (record {
          number = spot.number;
          node = spot.node;
          class = spot.class;
          here = spot.here;
          of = spot.of;
          reads = rival_watched new r (token spot.number spot.node spot.class) (ap (reads_rival new r) spot.fact_is ∙ reads);
          is = spot.is;
        })

    pub spot_was : (p : Spot) → IsSpotAt new f r x p → WasThere p
    spot_was p (inr is) = subst WasThere (sym is) (node_was x live was)
    spot_was p (inl of) = elim (token_spot p of) [
      | inl is ↦ subst WasThere (sym is) start_was
      | inr t ↦ (
          let before = was_token t.number t.node t.class t.here t.of t.reads in
          elim t.is [
            | inl is ↦ subst WasThere (sym is) (node_was t.number (live_at f t.number t.node t.here) (subst (Occurs old) (sym (moment_at-is f t.number t.node t.here)) before))
            | inr (e, ends, is) ↦ subst WasThere (sym is) (end_was t.number t.node e t.here ends before)
          ])
    ]

    spot_watched : (p : Spot) → IsSpotAt new f r x p → In (at p) points
    spot_watched p (inr is) = subst (λ z. In (at z) points) (sym is) (inr (inl refl))
    spot_watched p (inl of) = elim (token_spot p of) [
      | inl is ↦ subst (λ z. In (at z) points) (sym is) (inl (sym (start_is new nets.present f seen)))
      | inr t ↦ (
          let on = is_read t.number t.node t.class t.here t.of t.reads in
          elim t.is [
            | inl is ↦
                subst (λ z. In (at z) points) (sym is)
                (inr (inr (In-left (map (λ k. k.spot) tokens_read) (filter_map (λ k. k.end) tokens_read) (moment_at f t.number) (map-In (λ k. k.spot) tokens_read (token t.number t.node t.class) on))))
            | inr (e, ends, is) ↦
                subst (λ z. In (at z) points) (sym is)
                (inr (inr (In-right (map (λ k. k.spot) tokens_read) (filter_map (λ k. k.end) tokens_read) (at (Declared e))
                (filter_map-In (λ k. k.end) tokens_read (token t.number t.node t.class) (at (Declared e)) on (ap (λ o. option_map at (option_map Declared o)) ends)))))
          ])
    ]

    -- the node of a token that is watched
    pub record IsTokenAt (k : TokenRow Moment) : Type 0 where
      pub number : ℕ
      pub node : Member
      pub class : List ℕ
      pub here : member f number ≡ Some node
      pub of : node.class ≡ Some class
      pub reads : is_watched new r (token number node class) ≡ true
      pub is : token number node class ≡ k

    pub token_at : (k : TokenRow Moment) → In k tokens_read → IsTokenAt k
    token_at k on =
        let h = In-filter (is_watched new r) (tokens new b) k on in
        let (z, there, e) = In-filter_map (token_of new) b k h.0 in
        let (y, m, here, is) = holds.all z (Contains-from_In b z there) in
        by y m here h.1 m.class refl (sym (token_is new nets.present f seen y m here) ∙ ap (token_of new) is ∙ e)
      where
        by : (y : ℕ) (m : Member) → member f y ≡ Some m → is_watched new r k ≡ true → (o : Option (List ℕ)) → m.class ≡ o
            → option_map (row_moment names f) (option_map (λ class. record { spot = Node y; end = option_map Declared m.end; fact = m.what; class = class }) o) ≡ Some k → IsTokenAt k
        by y m here reads None of e = cc
        by y m here reads (Some class) of e =
            let same : token y m class ≡ k = cc in
            record { number = y; node = m; class = class; here = here; of = of; reads = subst (λ z. is_watched new r z ≡ true) (sym same) reads; is = same }

    -- its begin and its end are spots that the rule reads
    pub read_spot : (k : TokenRow Moment) (t : IsTokenAt k) (p : Spot) → (p ≡ Node t.number) ⊎ ((e : ℕ) × (t.node.end ≡ Some e) × (p ≡ Declared e)) → IsReadSpot new f r p
    read_spot k t p how =
        elim (or_cases (reads_class new r t.class) (reads_rival new r t.node.what) (sym (watched_either new r (token t.number t.node t.class)) ∙ t.reads)) [
          | inl by_class ↦ read t.class by_class (elim how [
            | inl is ↦ begin t.number t.node t.here t.of is
            | inr (e, ends, is) ↦ an_end t.number t.node e t.here t.of ends is
          ])
          | inr by_fact ↦ rival t.node.what by_fact (record { number = t.number; node = t.node; class = t.class; here = t.here; of = t.of; fact_is = refl; is = how })
        ]

    watched_spot : (w : Moment) → In w points → (p : Spot) × IsSpotAt new f r x p × (at p ≡ w)
    watched_spot w (inl is) = (Declared 0, inl (start refl), start_is new nets.present f seen ∙ is)
    watched_spot w (inr (inl is)) = (Node x, inr refl, is)
    watched_spot w (inr (inr on)) = elim (In-cases (map (λ k. k.spot) tokens_read) (filter_map (λ k. k.end) tokens_read) w on) [
      | inl spots ↦ (
          let (k, there, is) = In-map (λ (k : TokenRow Moment). k.spot) tokens_read w spots in
          let t = token_at k there in (Node t.number, inl (read_spot k t (Node t.number) (inl refl)), ap (λ (z : TokenRow Moment). z.spot) t.is ∙ is))
      | inr ends ↦ (
          let (k, there, is) = In-filter_map (λ (k : TokenRow Moment). k.end) tokens_read w ends in
          let t = token_at k there in
          by k t t.node.end refl (ap (λ (z : TokenRow Moment). z.end) t.is ∙ is))
    ]
      where
        by : (k : TokenRow Moment) (t : IsTokenAt k) (o : Option ℕ) → t.node.end ≡ o → option_map at (option_map Declared o) ≡ Some w → (p : Spot) × IsSpotAt new f r x p × (at p ≡ w)
        by k t None ends is = cc
        by k t (Some e) ends is = (Declared e, inl (read_spot k t (Declared e) (inr (e, ends, refl))), cc)

    -- ---- the law

    module _ (moves : ℕ → ℕ → Bool) (tells : TellsMoves nets moves) where
      now_number : (p : Spot) → WasThere p → IsNumberOf names (base_of f p) (base (at p))
      now_number p was_p = point_is new nets.present f seen p was_p.there

      moved_apart : SameGaps old new b (moment_at f x) r → MovesAt moves new f r x → ⊥
      moved_apart same m =
          let was_p = spot_was m.from m.from_is in
          let was_q = spot_was m.to m.to_is in
          let equal : spot_distance nets.committed f m.from m.to ≡ spot_distance nets.present f m.from m.to =
          distance_was m.from m.to was_p was_q ∙ same (at m.from) (at m.to) (spot_watched m.from m.from_is) (spot_watched m.to m.to_is)
          ∙ sym (distance_is new nets.present f seen m.from m.to was_p.there was_q.there) in
          elim (eqb_tells (base_of f m.from) (base_of f m.to)) [
            | inl one ↦ (let both : true ≡ false = sym m.moved ∙ ap (λ k. moves (base_of f m.from) k) (sym one.1) ∙ tells.itself (base_of f m.from) in cc)
            | inr two ↦ tells.apart (base_of f m.from) (base_of f m.to) (base (at m.from)) (base (at m.to)) was_p.number (now_number m.from was_p) was_q.number (now_number m.to was_q) m.moved
                (far_same m.from m.to two.1 m.most m.bounded equal)
          ]

      -- what did not move is as far apart as it was
      pub unmoved_same : (p q : Spot) → WasThere p → WasThere q
          → ((most : ℤ) → links_high (links_of f q) ≡ Finite most → moves (base_of f p) (base_of f q) ≡ false)
          → spot_distance nets.committed f p q ≡ spot_distance nets.present f p q
      unmoved_same p q was_p was_q unmoved = by (links_high (links_of f q)) refl
        where
          by : (h : Bound) → links_high (links_of f q) ≡ h → spot_distance nets.committed f p q ≡ spot_distance nets.present f p q
          by Free free = unbounded_same p q free
          by (Finite most) bounded = elim (eqb_tells (base_of f p) (base_of f q)) [
            | inl one ↦ one_base p q one.1
            | inr two ↦ (
                let far = tells.same (base_of f p) (base_of f q) (base (at p)) (base (at q)) was_p.number (now_number p was_p) was_q.number (now_number q was_q) two.1 (unmoved most bounded) in
                distance-two_bases nets.committed f p q two.1
                ∙ ap (λ d. bound_less (bound_plus d (links_high (links_of f q))) (links_low (links_of f p))) far
                ∙ sym (distance-two_bases nets.present f p q two.1))
          ]

      spots_same : (MovesAt moves new f r x → ⊥) → (p q : Spot) → IsSpotAt new f r x p → IsSpotAt new f r x q → spot_distance nets.committed f p q ≡ spot_distance nets.present f p q
      spots_same none p q at_p at_q = unmoved_same p q (spot_was p at_p) (spot_was q at_q) (λ most bounded. by most bounded (moves (base_of f p) (base_of f q)) refl)
        where
          by : (most : ℤ) → links_high (links_of f q) ≡ Finite most → (v : Bool) → moves (base_of f p) (base_of f q) ≡ v → moves (base_of f p) (base_of f q) ≡ false
          by most bounded true moved = absurd (none (record { from = p; to = q; from_is = at_p; to_is = at_q; most = most; bounded = bounded; moved = moved }))
          by most bounded false unmoved = unmoved

      none_same : (MovesAt moves new f r x → ⊥) → SameGaps old new b (moment_at f x) r
      none_same none w v on_w on_v =
          let (p, at_p, is_w) = watched_spot w on_w in
          let (q, at_q, is_v) = watched_spot v on_v in
          let was_p = spot_was p at_p in
          let was_q = spot_was q at_q in
          let same : gap (built old) (at p) (at q) ≡ gap (map_of new b) (at p) (at q) =
          sym (distance_was p q was_p was_q) ∙ spots_same none p q at_p at_q ∙ distance_is new nets.present f seen p q was_p.there was_q.there in
          subst (λ z. gap (built old) z v ≡ gap (map_of new b) z v) is_w (subst (λ z. gap (built old) (at p) z ≡ gap (map_of new b) (at p) z) is_v same)

pub moved_points_touch : MovedPointsTouch
moved_points_touch old edit nets moves f b r x net_old seen keep tells holds live was entered =
    let occurs = believed_occurs old net_old.sound in
    let was_there = occurs (moment_at f x) was in
    let were_there : (y : Moment) → Contains b y → watches (next_list old edit) r y ≡ true → Occurs old y = λ y at reads. occurs y (entered y at reads) in (
      moved_apart old edit nets f net_old seen keep b r x holds live was_there were_there moves tells,
      none_same old edit nets f net_old seen keep b r x holds live was_there were_there moves tells,
    )
