-- Decisions keep their outcomes where what moved of the tokens that they read is spared.
use Rattle.std.proofs.Common.{◌≡◌, ◌≢◌, ◌∙◌, ℕ, Bool, true, false, not, ◌&&◌, ◌||◌, List, [], ◌∷◌, refl, sym, ap, subst, inl, inr, arith}
use Rattle.std.proofs.lemmas.Bool.{cases_Bool, not-true}
use Rattle.std.proofs.lemmas.Int.{ints}
use Rattle.std.specs.Prelude.{◌⊎◌, ℤ, pos, negsuc, Option, Some, None}
use Rattle.std.specs.List.{Contains}
use Rattle.std.specs.Option.{option_map, option_map_or}
use Rattle.std.specs.Cmp.Lexicographic.{bytes_decides}
use Rattle.tmm_model.specs.declared.bound.Bound.{Bound}
use Rattle.tmm_model.specs.declared.bound.Bound.TheVariants.{Finite, Free}
use Rattle.tmm_model.specs.declared.point.PointName.TheVariants.{Start}
use Rattle.tmm_model.specs.declared.premise.Edit.{Edit}
use Rattle.tmm_model.specs.declared.token.TokenRow.{TokenRow}
use Rattle.tmm_model.specs.Beliefs.{contradicts_in, rules_at, token_of}
use Rattle.tmm_model.specs.Bounds.{bound_at_most}
use Rattle.tmm_model.specs.Edits.{next_list}
use Rattle.tmm_model.specs.Maps.{TimeMap, gap, believed_tokens}
use Rattle.tmm_model.specs.Moments.{Moment, At, read_by, rule_of}
use Rattle.tmm_model.specs.Points.{same_name}
use Rattle.tmm_model.specs.Standing.{Standing, points_in}
use Rattle.tmm_model.specs.Tokens.{of_one_class, is_by, is_before, cuts, lasts_to}
use Rattle.list_theory.proofs.Elements.{In, In-from_Contains, Contains-from_In, In-filter, filter-In, In-filter_map, filter_map-In, both}
use Rattle.belief_theory.specs.Right.{Occurs}
use Rattle.belief_theory.specs.Touched.{is_watched, watched}
use Rattle.belief_theory.proofs.Rivals.{HaveSameRivals, contradicts_plain}
use Rattle.belief_theory.proofs.Watched.{class-token_of}
use Rattle.dist_net.specs.Net.{Net, Nets}
use Rattle.net_theory.specs.Fits.{IsNetOf}
use Rattle.net_theory.specs.KeptNumbers.{PointsKeepNumbers}
use Rattle.spots.specs.declared.spot.Spot.{Spot}
use Rattle.spots.specs.declared.spot.Spot.TheVariants.{Declared, Node}
use Rattle.spots.specs.Forest.{Forest, Member, member, IsLive, moment_at}
use Rattle.spots.specs.OfLists.{IsForestOf, HasOccurrences, map_of}
use Rattle.spots.specs.Spots.{spot_moment, spot_distance, base_of, links_of, links_high}
use Rattle.spots.proofs.Nodes.{moment_at-is}
use Rattle.spots.proofs.Seen.{distance_is, start_is}
use Rattle.revisions.specs.Maps.{watches}
use Rattle.revisions.specs.Shifts.{IsShifted}
use Rattle.revisions.specs.Walls.{IsSpared, IsPlain, IsAside, AllOccur}
use Rattle.revisions.proofs.Lawful.{text, token_watched, watched_back}
use Rattle.revisions.proofs.Shifts.{shifts_keep}
use Rattle.revisions.proofs.Tokens.{tokens_stay}
use Rattle.joined.specs.Gaps.{reads_class, ReadsNoRival, begin, an_end, start, read, IsSpotAt, TellsMoves}
use Rattle.joined.specs.Shifting.{IsSpotOf, MovesAmong, AreLoose, IsFast, IsWallAt, IsSparedAt, SparesClass, MayRest, RestingKeep}
use Rattle.joined.proofs.Deciding.{not_both}
use Rattle.joined.proofs.Gaps.{WasThere, distance_was, token, is_read, IsTokenAt, token_at, spot_was, unmoved_same}
use Rattle.joined.proofs.Reading.{class_watched, watched_plain, none_rival, plain_have}
use Rattle.joined.proofs.Touching.{watched_on}

-- ---- a list in two parts

-- those of a list for which the first of two facts is known
record Parts {X : Type 0} (P Q : X → Type 0) (xs : List X) : Type 0 where
  part : List X
  own : (x : X) → In x part → P x
  all : (x : X) → In x xs → In x part ⊎ Q x

parted : {X : Type 0} (P Q : X → Type 0) (xs : List X) → ((x : X) → In x xs → P x ⊎ Q x) → Parts P Q xs
parted P Q [] h = record { part = []; own = λ x at. absurd at; all = λ x at. absurd at }
parted {X} P Q (y ∷ ys) h = by (h y (inl refl)) (parted P Q ys (λ x at. h x (inr at)))
  where
    by : P y ⊎ Q y → Parts P Q ys → Parts P Q (y ∷ ys)
    by (inl first) rest = record {
      part = y ∷ rest.part;
      own = λ x at. elim at [ inl is ↦ subst P is first | inr there ↦ rest.own x there ];
      all = λ x at. elim at [ inl is ↦ inl (inl is) | inr there ↦ elim (rest.all x there) [ inl on ↦ inl (inr on) | inr off ↦ inr off ] ];
    }
    by (inr first) rest = record {
      part = rest.part;
      own = rest.own;
      all = λ x at. elim at [ inl is ↦ inr (subst Q is first) | inr there ↦ rest.all x there ];
    }

-- ---- fast tokens

is_fast : (ℕ → Bool) → Member → Bool
is_fast loose m = not (loose m.begin) && option_map_or (λ e. not (loose e)) m.end true

fast_is : (loose : ℕ → Bool) (m : Member) → is_fast loose m ≡ true → IsFast loose m
unfolding is_fast
fast_is loose m e =
    let h = both (not (loose m.begin)) (option_map_or (λ e. not (loose e)) m.end true) e in
    record { begin = not-true (loose m.begin) h.0; «end» = λ n ends. not-true (loose n) (sym (ap (λ o. option_map_or (λ e. not (loose e)) o true) ends) ∙ h.1) }

is_fast_of : (loose : ℕ → Bool) (m : Member) → IsFast loose m → is_fast loose m ≡ true
unfolding is_fast
is_fast_of loose m h = let rest : option_map_or (λ e. not (loose e)) m.end true ≡ true = by m.end h.end in λ i. not (h.begin i) && rest i
  where
    by : (o : Option ℕ) → ((e : ℕ) → o ≡ Some e → loose e ≡ false) → option_map_or (λ e. not (loose e)) o true ≡ true
    by None ends = refl
    by (Some e) ends = ap not (ends e refl)

-- ---- walls

before_is_by : (b : Bound) → bound_at_most b (negsuc 0) ≡ true → bound_at_most b (pos 0) ≡ true
before_is_by (Finite x) e = grind (arith, ints)
before_is_by Free e = cc

-- of two that differ one has another name
one_differs : (k v w : List ℕ) → v ≢ w → (same_name k v ≡ false) ⊎ (same_name k w ≡ false)
one_differs k v w differ = elim (cases_Bool (same_name k v)) [
  | inr other ↦ inl other
  | inl same ↦ elim (cases_Bool (same_name k w)) [
    | inr other ↦ inr other
    | inl too ↦ absurd (differ (sym ((bytes_decides k v).0 same) ∙ (bytes_decides k w).0 too))
  ]
]

-- a token without an end does not last where one of two walls of different facts clips it
walls_over : (m : TimeMap) (t : Moment) (k v w : TokenRow Moment) → v.class ≡ k.class → w.class ≡ k.class → v.fact ≢ w.fact
    → is_before (gap m) k.spot v.spot ≡ true → is_before (gap m) k.spot w.spot ≡ true → is_by (gap m) v.spot t ≡ true → is_by (gap m) w.spot t ≡ true
    → (o : Option Moment) → o ≡ None → lasts_to of_one_class (gap m) (v ∷ w ∷ []) k t o ≡ false
walls_over m t k v w class_v class_w differ after_v after_w by_v by_w (Some e) is = cc
walls_over m t k v w class_v class_w differ after_v after_w by_v by_w None is =
    elim (one_differs k.fact v.fact w.fact differ) [
      | inl other ↦ first (cuts of_one_class (gap m) k t v) (cuts of_one_class (gap m) k t w) (cut v class_v other after_v by_v)
      | inr other ↦ second (cuts of_one_class (gap m) k t v) (cuts of_one_class (gap m) k t w) (cut w class_w other after_w by_w)
    ]
  where
    cut : (c : TokenRow Moment) → c.class ≡ k.class → same_name k.fact c.fact ≡ false → is_before (gap m) k.spot c.spot ≡ true → is_by (gap m) c.spot t ≡ true
        → cuts of_one_class (gap m) k t c ≡ true
    cut c class other after by_t =
        let one : same_name k.class c.class ≡ true = (bytes_decides k.class c.class).1 (sym class) in
        λ i. (one i && not (other i)) && after i && by_t i

    first : (p q : Bool) → p ≡ true → not (p || (q || false)) ≡ false
    first true q e = refl
    first false q e = cc

    second : (p q : Bool) → q ≡ true → not (p || (q || false)) ≡ false
    second true true e = refl
    second false true e = refl
    second p false e = cc

-- ---- nodes and tokens

module _ (old : Standing) (edit : Edit) (nets : Nets) (moves : ℕ → ℕ → Bool) (loose : ℕ → Bool) (f : Forest) (before b : List Moment) (r : List ℕ) (x : ℕ)
    (net_old : IsNetOf old nets.committed) (seen : IsForestOf (next_list old edit) nets.present f)
    (keep : PointsKeepNumbers (points_in (next_list old edit).premises) nets.committed.names nets.present.names)
    (tells : TellsMoves nets moves) (cover : AreLoose moves loose) (in_old : AllOccur old before) (holds : HasOccurrences b f) (live : IsLive f x)
    (was : Contains before (moment_at f x)) (stood : Contains (rules_at old (moment_at f x)) r) (stands : Contains (rules_at (next_list old edit) (moment_at f x)) r)
    (same_horizon : old.horizon ≡ (next_list old edit).horizon) (was_plain : ReadsNoRival old r)
    (left : (y : Moment) → Contains before y → watches old r y ≡ true → Contains b y)
    (entered : (y : Moment) → Contains b y → watches (next_list old edit) r y ≡ true → Contains before y)
    (rest : MayRest moves loose (next_list old edit) nets f r x) where
  abbrev new : Standing
  new = next_list old edit

  abbrev t : Moment
  t = moment_at f x

  abbrev at : Spot → Moment
  at p = spot_moment nets.present.names f p

  abbrev m : TimeMap
  m = map_of old before

  abbrev n : TimeMap
  n = map_of new b

  was_event : Occurs old (moment_at f x)
  was_event = in_old (moment_at f x) was

  were : (y : Moment) → Contains b y → watches (next_list old edit) r y ≡ true → Occurs old y
  were y there reads = in_old y (entered y there reads)

  in_new : AllOccur (next_list old edit) b
  in_new y there = let (z, k, here, is) = holds.all y there in subst (Occurs new) is (seen.members z k here).occurs

  abbrev the_token : ℕ → Member → List ℕ → TokenRow Moment
  the_token = token old edit nets f net_old seen keep b r x holds live was_event were

  abbrev read_here : List (TokenRow Moment)
  read_here = watched (map_of new b) r

  abbrev TokenAt : TokenRow Moment → Type 0
  TokenAt = IsTokenAt old edit nets f net_old seen keep b r x holds live was_event were

  abbrev SpotWas : Spot → Type 0
  SpotWas = WasThere old edit nets f net_old seen keep

  -- the class of a token that is read is one that the rule reads
  class_read : (k : TokenRow Moment) (a : TokenAt k) → reads_class new r a.class ≡ true
  class_read k a = sym (watched_plain new r (the_token a.number a.node a.class) (rest.plain a.node.what)) ∙ a.reads

  was_at : (p : Spot) → IsSpotAt new f r x p → SpotWas p
  was_at = spot_was old edit nets f net_old seen keep b r x holds live was_event were

  same_text : rule_of old r ≡ rule_of new r
  same_text = text old edit net_old.sound seen.network.sound t r stood stands

  -- no premise of either list says that a fact contradicts what the rule reads
  have : (f : List ℕ) → In f (read_by (rule_of new r)) → HaveSameRivals old new f
  have = plain_have old new r same_text was_plain rest.plain

  plain_before : (k : TokenRow Moment) → IsPlain old r k
  plain_before k = none_rival old r k.fact (was_plain k.fact)

  plain_after : (k : TokenRow Moment) → IsPlain new r k
  plain_after k = none_rival new r k.fact (rest.plain k.fact)

  -- ---- distances before and after

  gap_was : (p q : Spot) → SpotWas p → SpotWas q → spot_distance nets.committed f p q ≡ gap m (at p) (at q)
  gap_was = distance_was old edit nets f net_old seen keep

  gap_is : (p q : Spot) → SpotWas p → SpotWas q → spot_distance nets.present f p q ≡ gap n (at p) (at q)
  gap_is p q was_p was_q = distance_is new nets.present f seen p q was_p.there was_q.there

  same_gap : (p q : Spot) → SpotWas p → SpotWas q → ((most : ℤ) → links_high (links_of f q) ≡ Finite most → moves (base_of f p) (base_of f q) ≡ false)
      → gap m (at p) (at q) ≡ gap n (at p) (at q)
  same_gap p q was_p was_q unmoved =
      sym (gap_was p q was_p was_q)
      ∙ unmoved_same old edit nets f net_old seen keep b r x holds live was_event were moves tells p q was_p was_q unmoved
      ∙ gap_is p q was_p was_q

  -- ---- of each class nothing moved, or what moved is spared

  abbrev Choice : List ℕ → Type 0
  Choice class = (reads_class new r class ≡ false) ⊎ ((MovesAmong moves f (IsSpotOf f class) x → ⊥) ⊎ SparesClass nets f loose class x)

  choice : (class : List ℕ) → Choice class
  choice class = elim (cases_Bool (reads_class new r class)) [ inl reads ↦ inr (rest.each class reads) | inr none ↦ inl none ]

  -- the tokens that stay
  stays_by : (class : List ℕ) → Choice class → Member → Bool
  stays_by class (inl none) k = false
  stays_by class (inr (inl still)) k = true
  stays_by class (inr (inr spares)) k = is_fast loose k

  -- spots among which nothing moved
  Good : (class : List ℕ) → Choice class → Spot → Type 0
  Good class (inl none) p = ⊥
  Good class (inr (inl still)) p = IsSpotOf f class p ⊎ (p ≡ Node x)
  Good class (inr (inr spares)) p = loose (base_of f p) ≡ false

  good_unmoved : (class : List ℕ) (c : Choice class) (p q : Spot) → Good class c p → Good class c q
      → (most : ℤ) → links_high (links_of f q) ≡ Finite most → moves (base_of f p) (base_of f q) ≡ false
  unfolding Good
  good_unmoved class (inl none) p q good_p good_q most bounded = absurd good_p
  good_unmoved class (inr (inl still)) p q good_p good_q most bounded = elim (cases_Bool (moves (base_of f p) (base_of f q))) [
    | inl moved ↦ absurd (still (record { from = p; to = q; from_is = good_p; to_is = good_q; most = most; bounded = bounded; moved = moved }))
    | inr unmoved ↦ unmoved
  ]
  good_unmoved class (inr (inr spares)) p q good_p good_q most bounded = elim (cases_Bool (moves (base_of f p) (base_of f q))) [
    | inl moved ↦ elim (cover.each (base_of f p) (base_of f q) moved) [
      | inl lost ↦ not_both (loose (base_of f p)) lost good_p
      | inr lost ↦ not_both (loose (base_of f q)) lost good_q
    ]
    | inr unmoved ↦ unmoved
  ]

  good_begin : (class : List ℕ) (c : Choice class) (y : ℕ) (k : Member) → member f y ≡ Some k → k.class ≡ Some class → stays_by class c k ≡ true → Good class c (Node y)
  unfolding Good stays_by
  good_begin class (inl none) y k here of stays = cc
  good_begin class (inr (inl still)) y k here of stays = inl (inr (begin y k here of refl))
  good_begin class (inr (inr spares)) y k here of stays =
      ap (λ (o : Option Member). loose (option_map_or (λ (k : Member). k.begin) o 0)) here ∙ (fast_is loose k stays).begin

  good_end : (class : List ℕ) (c : Choice class) (y : ℕ) (k : Member) (e : ℕ) → member f y ≡ Some k → k.class ≡ Some class → stays_by class c k ≡ true → k.end ≡ Some e
      → Good class c (Declared e)
  unfolding Good stays_by
  good_end class (inl none) y k e here of stays ends = cc
  good_end class (inr (inl still)) y k e here of stays ends = inl (inr (an_end y k e here of ends refl))
  good_end class (inr (inr spares)) y k e here of stays ends = (fast_is loose k stays).end e ends

  good_event : (class : List ℕ) (c : Choice class) (k : Member) → stays_by class c k ≡ true → Good class c (Node x)
  unfolding Good stays_by
  good_event class (inl none) k stays = cc
  good_event class (inr (inl still)) k stays = inr refl
  good_event class (inr (inr spares)) k stays = spares.event

  good_start : (class : List ℕ) (c : Choice class) (k : Member) → stays_by class c k ≡ true → Good class c (Declared 0)
  unfolding Good stays_by
  good_start class (inl none) k stays = cc
  good_start class (inr (inl still)) k stays = inl (inl refl)
  good_start class (inr (inr spares)) k stays = cover.start

  -- ---- the tokens that stay

  -- the token of a node that stays, or of one that does not
  record IsOne (v : Bool) (k : TokenRow Moment) : Type 0 where
    token : TokenAt k
    is : stays_by token.class (choice token.class) token.node ≡ v

  one_of : (k : TokenRow Moment) → In k read_here → IsOne true k ⊎ IsOne false k
  one_of k on =
      let a = token_at old edit nets f net_old seen keep b r x holds live was_event were k on in
      elim (cases_Bool (stays_by a.class (choice a.class) a.node)) [
        | inl stays ↦ inl (record { token = a; is = stays })
        | inr goes ↦ inr (record { token = a; is = goes })
      ]

  parts : Parts (IsOne true) (IsOne false) read_here
  parts = parted (IsOne true) (IsOne false) read_here one_of

  stay : List (TokenRow Moment)
  stay = parts.part

  stays_own : (k : TokenRow Moment) → In k stay → IsOne true k
  unfolding stay
  stays_own = parts.own

  stays_or : (k : TokenRow Moment) → In k read_here → In k stay ⊎ IsOne false k
  unfolding stay
  stays_or = parts.all

  -- a token of a node that stays is on the list
  stays_in : (y : ℕ) (k : Member) (class : List ℕ) → member f y ≡ Some k → k.class ≡ Some class → reads_class new r class ≡ true → stays_by class (choice class) k ≡ true
      → In (the_token y k class) stay
  stays_in y k class here of reads stays =
      elim (stays_or (the_token y k class) (is_read old edit nets f net_old seen keep b r x holds live was_event were y k class here of (class_watched new r (the_token y k class) reads))) [
        | inl on ↦ on
        | inr off ↦
            let a = off.token in
            let spot : moment_at f a.number ≡ moment_at f y = ap (λ (z : TokenRow Moment). z.spot) a.is in
            let one : a.number ≡ y = holds.once a.number y a.node k a.here here (sym (moment_at-is f a.number a.node a.here) ∙ spot ∙ moment_at-is f y k here) in
            let both_are : Some a.node ≡ Some k = sym a.here ∙ ap (member f) one ∙ here in
            let node : a.node ≡ k = cc in
            let class_is : a.class ≡ class = ap (λ (z : TokenRow Moment). z.class) a.is in
            let goes : stays_by class (choice class) k ≡ false = subst (λ z. stays_by z (choice z) k ≡ false) class_is (subst (λ (z : Member). stays_by a.class (choice a.class) z ≡ false) node off.is) in
            not_both (stays_by class (choice class) k) stays goes
      ]

  abbrev Stays : TokenRow Moment → Type 0
  Stays k = In k stay

  -- the spots of a token that is read
  begin_was : (k : TokenRow Moment) (a : TokenAt k) → SpotWas (Node a.number)
  begin_was k a = was_at (Node a.number) (inl (read a.class (class_read k a) (begin a.number a.node a.here a.of refl)))

  event_was : SpotWas (Node x)
  event_was = was_at (Node x) (inr refl)

  start_spot : SpotWas (Declared 0)
  start_spot = was_at (Declared 0) (inl (start refl))

  is_start : at (Declared 0) ≡ At Start
  is_start = start_is new nets.present f seen

  to_start : (p : Spot) → gap m (at p) (at (Declared 0)) ≡ gap n (at p) (at (Declared 0)) → gap m (at p) (At Start) ≡ gap n (at p) (At Start)
  to_start p same = subst (λ z. gap m (at p) z ≡ gap n (at p) z) is_start same

  same_date : gap m t (At Start) ≡ gap n t (At Start)
  same_date = to_start (Node x) (same_gap (Node x) (Declared 0) event_was start_spot (λ most bounded. rest.date))

  same_dates : (k : TokenRow Moment) → In k stay → gap m k.spot (At Start) ≡ gap n k.spot (At Start)
  same_dates k on =
      let o = stays_own k on in
      let a = o.token in
      let c = choice a.class in
      subst (λ (z : TokenRow Moment). gap m z.spot (At Start) ≡ gap n z.spot (At Start)) a.is
      (to_start (Node a.number) (same_gap (Node a.number) (Declared 0) (begin_was k a) start_spot
      (good_unmoved a.class c (Node a.number) (Declared 0) (good_begin a.class c a.number a.node a.here a.of o.is) (good_start a.class c a.node o.is))))

  same_begins : (k : TokenRow Moment) → In k stay → gap m t k.spot ≡ gap n t k.spot
  same_begins k on =
      let o = stays_own k on in
      let a = o.token in
      let c = choice a.class in
      subst (λ (z : TokenRow Moment). gap m t z.spot ≡ gap n t z.spot) a.is
      (same_gap (Node x) (Node a.number) event_was (begin_was k a)
      (good_unmoved a.class c (Node x) (Node a.number) (good_event a.class c a.node o.is) (good_begin a.class c a.number a.node a.here a.of o.is)))

  same_ends : (k : TokenRow Moment) (e : Moment) → In k stay → k.end ≡ Some e → gap m e t ≡ gap n e t
  same_ends k e on ends =
      let o = stays_own k on in
      by o.token.node.end refl (ap (λ (z : TokenRow Moment). z.end) o.token.is ∙ ends)
    where
      by : (d : Option ℕ) → (stays_own k on).token.node.end ≡ d → option_map at (option_map Declared d) ≡ Some e → gap m e t ≡ gap n e t
      by None is same = cc
      by (Some z) is same =
          let o = stays_own k on in
          let a = o.token in
          let c = choice a.class in
          let one : at (Declared z) ≡ e = cc in
          subst (λ w. gap m w t ≡ gap n w t) one
          (same_gap (Declared z) (Node x) (was_at (Declared z) (inl (read a.class (class_read k a) (an_end a.number a.node z a.here a.of is refl)))) event_was
          (good_unmoved a.class c (Declared z) (Node x) (good_end a.class c a.number a.node z a.here a.of o.is is) (good_event a.class c a.node o.is)))

  same_among : (k l : TokenRow Moment) → In k stay → In l stay → k.class ≡ l.class → gap m l.spot k.spot ≡ gap n l.spot k.spot
  same_among k l on_k on_l class =
      let o = stays_own k on_k in
      let p = stays_own l on_l in
      let a = o.token in
      let d = p.token in
      let c = choice a.class in
      let class_is : d.class ≡ a.class = ap (λ (z : TokenRow Moment). z.class) d.is ∙ sym class ∙ sym (ap (λ (z : TokenRow Moment). z.class) a.is) in
      let good_l : Good a.class (choice a.class) (Node d.number) =
      subst (λ z. Good z (choice z) (Node d.number)) class_is (good_begin d.class (choice d.class) d.number d.node d.here d.of p.is) in
      let same = same_gap (Node d.number) (Node a.number) (begin_was l d) (begin_was k a)
      (good_unmoved a.class c (Node d.number) (Node a.number) good_l (good_begin a.class c a.number a.node a.here a.of o.is)) in
      subst (λ (z : TokenRow Moment). gap m z.spot k.spot ≡ gap n z.spot k.spot) d.is
      (subst (λ (z : TokenRow Moment). gap m (moment_at f d.number) z.spot ≡ gap n (moment_at f d.number) z.spot) a.is same)

  -- ---- what is spared

  module _ (net : Net) (h : TimeMap) (are : (p q : Spot) → SpotWas p → SpotWas q → spot_distance net f p q ≡ gap h (at p) (at q)) where
    -- a node that is spared is a token that is
    spared_at : (y : ℕ) (k : Member) (class : List ℕ) → member f y ≡ Some k → k.class ≡ Some class → (reads : reads_class new r class ≡ true)
        → ((v : ℕ) (w : Member) → member f v ≡ Some w → w.class ≡ Some class → IsFast loose w → In (the_token v w class) stay)
        → IsSparedAt net f loose class x y k → IsSpared (λ w. In w stay) h t (the_token y k class)
    spared_at y k class here of reads fast_stays (inl not_yet) =
        inl (ap (λ g. bound_at_most g (pos 0)) (sym (are (Node x) (Node y) event_was (was_at (Node y) (inl (read class reads (begin y k here of refl)))))) ∙ not_yet)
    spared_at y k class here of reads fast_stays (inr (no_span, w)) = inr (record {
      one = the_token w.one w.first class;
      other = the_token w.other w.second class;
      one_stays = fast_stays w.one w.first w.first_is.here w.first_is.of w.first_is.fast;
      other_stays = fast_stays w.other w.second w.second_is.here w.second_is.of w.second_is.fast;
      walls = record {
        one = record { class = refl; after = before_is_by (gap h (moment_at f w.one) (moment_at f y)) after_one; begun = begun_one };
        other = record { class = refl; after = before_is_by (gap h (moment_at f w.other) (moment_at f y)) after_other; begun = begun_other };
        differ = w.differ;
        over = walls_over h t (the_token y k class) (the_token w.one w.first class) (the_token w.other w.second class) refl refl w.differ
            after_one after_other begun_one begun_other (the_token y k class).end (ap (λ o. option_map at (option_map Declared o)) no_span);
      };
    })
      where
        spot_of : (v : ℕ) (z : Member) → member f v ≡ Some z → z.class ≡ Some class → SpotWas (Node v)
        spot_of v z there is = was_at (Node v) (inl (read class reads (begin v z there is refl)))

        after : (v : ℕ) (z : Member) → IsWallAt net f loose class x y v z → is_before (gap h) (moment_at f y) (moment_at f v) ≡ true
        after v z wall = ap (λ g. bound_at_most g (negsuc 0)) (sym (are (Node v) (Node y) (spot_of v z wall.here wall.of) (spot_of y k here of))) ∙ wall.after

        begun : (v : ℕ) (z : Member) → IsWallAt net f loose class x y v z → is_by (gap h) (moment_at f v) t ≡ true
        begun v z wall = ap (λ g. bound_at_most g (pos 0)) (sym (are (Node x) (Node v) event_was (spot_of v z wall.here wall.of))) ∙ wall.begun

        after_one : is_before (gap h) (moment_at f y) (moment_at f w.one) ≡ true
        after_one = after w.one w.first w.first_is

        after_other : is_before (gap h) (moment_at f y) (moment_at f w.other) ≡ true
        after_other = after w.other w.second w.second_is

        begun_one : is_by (gap h) (moment_at f w.one) t ≡ true
        begun_one = begun w.one w.first w.first_is

        begun_other : is_by (gap h) (moment_at f w.other) t ≡ true
        begun_other = begun w.other w.second w.second_is

  spared_by : (k : TokenRow Moment) (a : TokenAt k) (c : Choice a.class) → choice a.class ≡ c → stays_by a.class c a.node ≡ false
      → IsSpared (λ w. In w stay) m t k × IsSpared (λ w. In w stay) n t k
  unfolding stays_by
  spared_by k a (inl none) is goes = not_both (reads_class new r a.class) (class_read k a) none
  spared_by k a (inr (inl still)) is goes = cc
  spared_by k a (inr (inr spares)) is goes = elim (spares.each a.number a.node a.here a.of) [
    | inl fast ↦ not_both (is_fast loose a.node) (is_fast_of loose a.node fast) goes
    | inr spared ↦
        let fast_stays : (v : ℕ) (w : Member) → member f v ≡ Some w → w.class ≡ Some a.class → IsFast loose w → In (the_token v w a.class) stay =
        λ v w there of fast. stays_in v w a.class there of (class_read k a) (subst (λ c. stays_by a.class c w ≡ true) (sym is) (is_fast_of loose w fast)) in
        subst (λ z. IsSpared (λ w. In w stay) m t z × IsSpared (λ w. In w stay) n t z) a.is (
          spared_at nets.committed m gap_was a.number a.node a.class a.here a.of (class_read k a) fast_stays spared.0,
          spared_at nets.present n gap_is a.number a.node a.class a.here a.of (class_read k a) fast_stays spared.1,
        )
  ]

  spared_both : (k : TokenRow Moment) → IsOne false k → IsSpared (λ w. In w stay) m t k × IsSpared (λ w. In w stay) n t k
  spared_both k o = spared_by k o.token (choice o.token.class) refl o.is

  -- ---- tokens are the same

  into : (k : TokenRow Moment) → In k (watched (map_of old before) r) → In k (watched (map_of new b) r)
  into k on =
      let h = In-filter (is_watched old r) (believed_tokens m) k on in
      let (z, there, e) = In-filter_map (token_of old) before k h.0 in
      let known = Contains-from_In before z there in
      let stayed = left z known (token_watched old r z k e h.1) in
      let is = sym (tokens_stay old edit net_old.sound seen.network.sound z (in_old z known) (in_new z stayed)) ∙ e in
      filter-In (is_watched new r) (believed_tokens n) k (filter_map-In (token_of new) b z k (In-from_Contains b z stayed) is)
      (watched_on old edit net_old.sound seen.network.sound t r k stood stands same_text have (class-token_of new z k is) h.1)

  back : (k : TokenRow Moment) → In k (watched (map_of new b) r) → In k (watched (map_of old before) r)
  back k on =
      let h = In-filter (is_watched new r) (believed_tokens n) k on in
      let (z, there, e) = In-filter_map (token_of new) b k h.0 in
      let known = Contains-from_In b z there in
      let came = entered z known (token_watched new r z k e h.1) in
      let is = tokens_stay old edit net_old.sound seen.network.sound z (in_old z came) (in_new z known) ∙ e in
      filter-In (is_watched old r) (believed_tokens m) k (filter_map-In (token_of old) before z k (In-from_Contains before z came) is)
      (watched_back old edit net_old.sound seen.network.sound t r k stood stands same_text have (class-token_of old z k is) h.1)

  -- what contradicts a token of a fact that the rule reads is of its class
  one_class : (k c : TokenRow Moment) → In k.fact (read_by (rule_of new r)) → contradicts_in new k c ≡ true → k.class ≡ c.class
  one_class k c given contradict =
      let by_class : of_one_class k c ≡ true = sym (contradicts_plain new k c (plain_after c k.fact given)) ∙ contradict in
      (bytes_decides k.class c.class).0 (both (same_name k.class c.class) (not (same_name k.fact c.fact)) by_class).0

  aside : (h : TimeMap) (k : TokenRow Moment) → IsPlain h.list r k → IsSpared (λ w. In w stay) h t k → IsAside (λ w. In w stay) h t r k
  aside h k plain (inl not_begun) = inl not_begun
  aside h k plain (inr past) = inr (past, plain)

  shifted : IsShifted (λ k. In k stay) (map_of old before) (map_of new b) (moment_at f x) r
  shifted = record {
    text = same_text;
    horizon = same_horizon;
    rivals = have;
    into = into;
    back = back;
    date = same_date;
    reads = λ k on. (let a = (stays_own k on).token in
        subst (λ z. In z read_here) a.is (is_read old edit nets f net_old seen keep b r x holds live was_event were a.number a.node a.class a.here a.of a.reads));
    dates = same_dates;
    begins = same_begins;
    ends = same_ends;
    among = λ k c on_k on_c given contradict. same_among k c on_k on_c (one_class k c given contradict);
    spared = λ k on. elim (stays_or k on) [ inl stays ↦ inl stays | inr goes ↦ inr (let h = spared_both k goes in (aside m k (plain_before k) h.0, aside n k (plain_after k) h.1)) ];
  }

pub resting_keep : RestingKeep
resting_keep old edit nets moves loose f before b r x net_old seen keep tells cover in_old holds live was stood stands same_horizon was_plain left entered rest =
    shifts_keep old (next_list old edit) before b (moment_at f x) r
    (stay old edit nets moves loose f before b r x net_old seen keep tells cover in_old holds live was stood stands same_horizon was_plain left entered rest)
    net_old.sound seen.network.sound in_old
    (in_new old edit nets moves loose f before b r x net_old seen keep tells cover in_old holds live was stood stands same_horizon was_plain left entered rest)
    (shifted old edit nets moves loose f before b r x net_old seen keep tells cover in_old holds live was stood stands same_horizon was_plain left entered rest)
