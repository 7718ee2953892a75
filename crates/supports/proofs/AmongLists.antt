-- What clipping answers over the lists of a fact is what the list answers of its tokens, where
-- facts of other classes contradict it too.
use Rattle.std.proofs.Common.{◌≡◌, ◌∙◌, ℕ, zero, suc, ◌<◌, Bool, true, false, not, ◌&&◌, List, [], map, length, inl, inr, refl, sym, ap, subst, arith}
use Rattle.std.proofs.lemmas.Bool.{or_cases, not-true}
use Rattle.std.specs.Prelude.{◌≢◌, ◌⊎◌, Option, Some, None, IsNone, IsSome, MatchOption, slice_index_or}
use Rattle.std.specs.List.{list_any, Contains}
use Rattle.std.specs.Option.{option_map, option_map_or, option_and_then, ForSome}
use Rattle.std.specs.Ordering.{on}
use Rattle.std.specs.declared.cmp.Ordering.{Ordering}
use Rattle.std.proofs.lemmas.List.{get_or-map, length-map}
use Rattle.tmm_model.specs.declared.bound.Bound.{Bound}
use Rattle.tmm_model.specs.declared.premise.Premise.{Premise}
use Rattle.tmm_model.specs.declared.premise.Premise.TheVariants.{Class, Kind, Point, Event, Token, Span, Dist, Rule, Protect, Against}
use Rattle.tmm_model.specs.declared.token.TokenRow.{TokenRow}
use Rattle.tmm_model.specs.Answers.{fault, first_believed, late, clipped, ends}
use Rattle.tmm_model.specs.Beliefs.{tokens, token_of, class_of, says_against, are_rivals, contradicts_in, first_token, has_support, holder}
use Rattle.tmm_model.specs.Moments.{Moment, distance, occ_cmp}
use Rattle.tmm_model.specs.Points.{same_name}
use Rattle.tmm_model.specs.Sorts.{class_in, fact_use, uses_of}
use Rattle.tmm_model.specs.Standing.{Standing, far_in}
use Rattle.tmm_model.specs.Tokens.{of_one_class, supports, clips, cuts, is_by, is_before, lasts_to}
use Rattle.belief_theory.specs.FirstPlaces.{IsFirstPlace}
use Rattle.belief_theory.proofs.Order.{ordered}
use Rattle.belief_theory.proofs.Rivals.{known_class}
use Rattle.belief_theory.proofs.Outcomes.{no_first_token}
use Rattle.belief_theory.proofs.Watched.{class-token_of}
use Rattle.list_theory.proofs.Elements.{In, both, list_any-In, In-list_any, In-filter_map, filter_map-In, In-flat_map, flat_map-In, In-left, In-right, In-map, map-In}
use Rattle.walk_theory.proofs.Points.{same_name-is, same_name-self}
use Rattle.premise_list.specs.Rivalries.{rivalry_of, rivalries}
use Rattle.clipping.specs.declared.across.Place.{Place}
use Rattle.clipping.specs.Across.{list_at, all_of, at_place, IsClassList, IsFirstInLists}
use Rattle.clipping.specs.Rivals.{of_rivals}
use Rattle.dist_net.specs.Net.{Net}
use Rattle.spots.proofs.Nodes.{live_at}
use Rattle.spots.proofs.Seen.{distance_is, order_is}
use Rattle.spots.specs.declared.spot.Spot.{Spot}
use Rattle.spots.specs.Forest.{Forest}
use Rattle.spots.specs.OfLists.{IsForestOf, HasOccurrences, map_of}
use Rattle.spots.specs.Spots.{IsSpot, spot_moment, spot_distance, spot_cmp, AreTokens, row_moment}
use Rattle.supports.specs.ClassTokens.{other_in, class_against, of_other, class_lists}
use Rattle.supports.proofs.Answered.{first_is, same_rows}
use Rattle.premise_list.proofs.Facts.{fact_known}
use Rattle.supports.proofs.FirstRows.{IsSame, first_of_rows, some_of_rows}
use Rattle.clipping.proofs.Moved.{by_alike, before_alike}
use Rattle.premise_list.proofs.Unrivalled.{differ_back}
use Rattle.supports.proofs.SeveralLists.{first_of_all}
use Rattle.supports.proofs.TokenRows.{node_of, spots_there, row_there, row_of, tokens_spelt}

-- a value that is read of what was found is that which was read of the place
mapped : {A B C : Type 0} (h : A → B) (g : B → C) (o : Option A) → option_map (λ x. g (h x)) o ≡ option_map g (option_map h o)
mapped h g None = refl
mapped h g (Some x) = refl

-- ---- which lists there are

module _ (s : Standing) (rows_in : List ℕ → List (TokenRow Spot)) (fact class : List ℕ) where
  abbrev lists : List (List (TokenRow Spot))
  lists = class_lists s rows_in fact class

  abbrev against_fact : List ℕ × List ℕ → List (TokenRow Spot)
  against_fact pair = of_other rows_in class (class_against s fact pair)

  -- what a list is that is not the first: no tokens, or those of another class
  abbrev pub IsOther : List (TokenRow Spot) → Type 0
  IsOther list = (list ≡ []) ⊎ ((c : List ℕ) × (list ≡ rows_in c) × (same_name c class ≡ false))

  other_list : (o : Option (List ℕ)) → IsOther (of_other rows_in class o)
  other_list None = inl refl
  other_list (Some c) = by (same_name c class) refl
    where
      by : (v : Bool) → same_name c class ≡ v → IsOther (elim v [ true ↦ [] | false ↦ rows_in c ])
      by true e = inl refl
      by false e = inr (c, refl, e)

  -- each list but the first is of another class
  pub others : (i : ℕ) → suc i < length lists → IsOther (list_at lists (suc i))
  others i lt =
      let pairs = rivalries s.premises in
      let short : i < length pairs = omega (arith, lt, length-map pairs against_fact) in
      subst IsOther (sym (get_or-map against_fact pairs i ([], []) [] short)) (other_list (class_against s fact (slice_index_or pairs i ([], []))))

  module _ (f : Forest) (are : (class : List ℕ) → AreTokens f class (rows_in class)) where
    class_of_row : (c : List ℕ) (row : TokenRow Spot) → Contains (rows_in c) row → row.class ≡ c
    class_of_row c row at = let (_, _, _, _, own) = (are c).own row at in own

    -- no list but the first has a token of the class
    pub is_class_list : IsClassList lists 0
    is_class_list = record { same = same; apart = apart }
      where
        same : (k c : TokenRow Spot) → Contains (list_at lists 0) k → Contains (list_at lists 0) c → k.class ≡ c.class
        same k c at_k at_c = class_of_row class k at_k ∙ sym (class_of_row class c at_c)

        none_in : (row : TokenRow Spot) (list : List (TokenRow Spot)) → list ≡ [] → Contains list row → ⊥
        none_in row list is at = let (j, lt, _) = at in let short : j < 0 = subst (λ l. j < length l) is lt in omega (arith, short)

        differs : (k c : TokenRow Spot) → k.class ≡ class → (list : List (TokenRow Spot)) → IsOther list → Contains list c → k.class ≢ c.class
        differs k c own list (inl none) at e = none_in c list none at
        differs k c own list (inr (other, is, unlike)) at e =
            let one : other ≡ class = sym (class_of_row other c (subst (λ l. Contains l c) is at)) ∙ sym e ∙ own in
            let like : same_name other class ≡ true = ap (same_name other) (sym one) ∙ same_name-self other in
            cc

        apart : (i : ℕ) (k c : TokenRow Spot) → i < length lists → i ≢ 0 → Contains (list_at lists 0) k → Contains (list_at lists i) c → k.class ≢ c.class
        apart zero k c lt other at_k at_c = absurd (other refl)
        apart (suc i) k c lt other at_k at_c = differs k c (class_of_row class k at_k) (list_at lists (suc i)) (others i lt) at_c

  -- what holds of no tokens and of those of each class holds of each list
  pub of_each : (P : List (TokenRow Spot) → Type 0) → P [] → ((c : List ℕ) → P (rows_in c)) → (i : ℕ) → i < length lists → P (list_at lists i)
  of_each P none each zero lt = each class
  of_each P none each (suc i) lt = by (list_at lists (suc i)) (others i lt)
    where
      by : (list : List (TokenRow Spot)) → IsOther list → P list
      by list (inl is) = subst P (sym is) none
      by list (inr (c, is, _)) = subst P (sym is) (each c)

-- ---- tokens at moments

module _ {s : Standing} {net : Net} {f : Forest} (seen : IsForestOf s net f) {b : List Moment} (holds : HasOccurrences b f)
    (rows_in : List ℕ → List (TokenRow Spot)) (are : (class : List ℕ) → AreTokens f class (rows_in class)) (fact class : List ℕ) where
  abbrev mom : Spot → Moment
  mom = spot_moment net.names f

  abbrev go : TokenRow Spot → TokenRow Moment
  go = row_moment net.names f

  abbrev far : Spot → Spot → Bound
  far = spot_distance net f

  abbrev gap : Moment → Moment → Bound
  gap = distance s (far_in s.premises)

  abbrev order : Spot → Spot → Ordering
  order = spot_cmp net f

  abbrev moment_order : Moment → Moment → Ordering
  moment_order = occ_cmp s (far_in s.premises)

  abbrev IsThere : Spot → Type 0
  IsThere = IsSpot net.names f

  same_far : (p q : Spot) → IsThere p → IsThere q → far p q ≡ gap (mom p) (mom q)
  same_far = distance_is s net f seen

  abbrev spot_contradicts : TokenRow Spot → TokenRow Spot → Bool
  spot_contradicts = of_rivals (are_rivals s)

  abbrev own : List (TokenRow Spot)
  own = rows_in class

  abbrev every : List (TokenRow Spot)
  every = all_of (lists s rows_in fact class)

  abbrev rest : List (List (TokenRow Spot))
  rest = map (against_fact s rows_in fact class) (rivalries s.premises)

  -- each is of some class
  of_some_class : (a : TokenRow Spot) → In a every → (c : List ℕ) × In a (rows_in c)
  of_some_class a at = let (l, among, here) = In-flat_map (λ l. l) (lists s rows_in fact class) a at in by l among here
    where
      by_other : (o : Option (List ℕ)) → In a (of_other rows_in class o) → (c : List ℕ) × In a (rows_in c)
      by_other None here = absurd here
      by_other (Some c) here = same (same_name c class) here
        where
          same : (v : Bool) → In a (elim v [ true ↦ [] | false ↦ rows_in c ]) → (d : List ℕ) × In a (rows_in d)
          same true here = absurd here
          same false here = (c, here)

      by : (l : List (TokenRow Spot)) → In l (lists s rows_in fact class) → In a l → (c : List ℕ) × In a (rows_in c)
      by l (inl is) here = (class, subst (In a) (sym is) here)
      by l (inr among) here =
          let (pair, _, is) = In-map (against_fact s rows_in fact class) (rivalries s.premises) l among in
          by_other (class_against s fact pair) (subst (In a) (sym is) here)

  begin_there : (a : TokenRow Spot) → In a every → IsThere a.spot
  begin_there a at = let (c, here) = of_some_class a at in (spots_there seen (are c) a here).begin

  there : (a : TokenRow Spot) → In a every → In (go a) (tokens s b)
  there a at = let (c, here) = of_some_class a at in row_there seen (are c) holds a here

  ranked : (a c : TokenRow Spot) → In a every → In c every → order a.spot c.spot ≡ moment_order (go a).spot (go c).spot
  ranked a c at_a at_c =
      let (class_a, here_a) = of_some_class a at_a in
      let (class_c, here_c) = of_some_class c at_c in
      let (x, m, one, _) = node_of seen (are class_a) a here_a in
      let (y, n, other, _) = node_of seen (are class_c) c here_c in
      let spot = one.spot in
      let end_spot = other.spot in
      (λ i. order (spot i) (end_spot i)) ∙ order_is s net f seen x y (live_at f x m one.here) (live_at f y n other.here) ∙ sym (λ i. moment_order (mom (spot i)) (mom (end_spot i)))

  in_own : (a : TokenRow Spot) → In a own → In a every
  in_own a at = In-left own (all_of rest) a at

  -- ---- what contradicts a token of the fact stands in one of the lists

  module _ (k : TokenRow Spot) (of_class : k.class ≡ class) (of_fact : k.fact ≡ fact) (t : TokenRow Moment) (at_t : In t (tokens s b)) where
    token_class : t.class ≡ class_of s t.fact
    token_class = let (y, _, is) = In-filter_map (token_of s) b t at_t in class-token_of s y t is

    -- the class of a fact that is declared is the token's
    declared_class : IsSome (class_in s.premises t.fact) → class_in s.premises t.fact ≡ Some t.class
    declared_class some = known_class s t.fact some ∙ ap Some (sym token_class)

    module _ (a : TokenRow Spot) (here : In a (rows_in t.class)) where
      by_own : t.class ≡ class → In a every
      by_own same = in_own a (subst (λ c. In a (rows_in c)) same here)

      by_pair : (pair : List ℕ × List ℕ) → In pair (rivalries s.premises) → other_in fact pair ≡ Some t.fact → IsSome (class_in s.premises t.fact) → In a every
      by_pair pair among other some = by (same_name t.class class) refl
        where
          against : class_against s fact pair ≡ Some t.class
          against = ap (option_and_then (class_in s.premises)) other ∙ declared_class some

          by : (v : Bool) → same_name t.class class ≡ v → In a every
          by true e = by_own (same_name-is t.class class e)
          by false e =
              let list : against_fact s rows_in fact class pair ≡ rows_in t.class = ap (of_other rows_in class) against ∙ ap (λ v. elim v as (λ _. List (TokenRow Spot)) [ true ↦ [] | false ↦ rows_in t.class ]) e in
              In-right own (all_of rest) a
              (flat_map-In (λ l. l) rest (against_fact s rows_in fact class pair) a (map-In (against_fact s rows_in fact class) (rivalries s.premises) pair among) (subst (In a) (sym list) here))

      by_premise : same_name k.fact t.fact ≡ false → (p : Premise) → In p s.premises → says_against k.fact t.fact p ≡ true → In a every
      by_premise differ (Class name facts) among says = cc
      by_premise differ (Kind name) among says = cc
      by_premise differ (Point name) among says = cc
      by_premise differ (Event name kind) among says = cc
      by_premise differ (Token name fact) among says = cc
      by_premise differ (Span name fact) among says = cc
      by_premise differ (Dist name from to lo hi) among says = cc
      by_premise differ (Rule name trigger lo hi effect given unless_facts) among says = cc
      by_premise differ (Protect name fact from to) among says = cc
      by_premise differ (Against name one other) among says = elim (or_cases (same_name one k.fact && same_name other t.fact) (same_name one t.fact && same_name other k.fact) says) [
        | inl forth ↦
            (let (first, second) = both (same_name one k.fact) (same_name other t.fact) forth in
            let is : other ≡ t.fact = same_name-is other t.fact second in
            let start : same_name one fact ≡ true = ap (same_name one) (sym of_fact) ∙ first in
            by_pair (one, other) pair
            (ap (λ v. elim v as (λ _. Option (List ℕ)) [ true ↦ Some other | false ↦ elim (same_name other fact) [ true ↦ Some one | false ↦ None ] ]) start ∙ ap Some is)
            (known t.fact (inr (inl (ap fact_use is)))))
        | inr back ↦
            (let (first, second) = both (same_name one t.fact) (same_name other k.fact) back in
            let is : one ≡ t.fact = same_name-is one t.fact first in
            let start : same_name one fact ≡ false = (λ i. same_name (is i) (sym of_fact i)) ∙ differ_back k.fact t.fact differ in
            let end_ : same_name other fact ≡ true = ap (same_name other) (sym of_fact) ∙ second in
            by_pair (one, other) pair
            (ap (λ v. elim v as (λ _. Option (List ℕ)) [ true ↦ Some other | false ↦ elim (same_name other fact) [ true ↦ Some one | false ↦ None ] ]) start
            ∙ ap (λ v. elim v as (λ _. Option (List ℕ)) [ true ↦ Some one | false ↦ None ]) end_ ∙ ap Some is)
            (known t.fact (inl (ap fact_use is))))
      ]
        where
          pair : In (one, other) (rivalries s.premises)
          pair = filter_map-In rivalry_of s.premises (Against name one other) (one, other) among refl

          known : (g : List ℕ) → In (fact_use g) (uses_of (Against name one other)) → IsSome (class_in s.premises g)
          known g at = fact_known s.premises seen.network.sound.well_named (Against name one other) among g at

      stands : contradicts_in s (go k) t ≡ true → In a every
      stands clash = elim (or_cases (of_one_class (go k) t) (are_rivals s k.fact t.fact) clash) [
        | inl one ↦ by_own (sym (same_name-is k.class t.class (both (same_name k.class t.class) (not (same_name k.fact t.fact)) one).0) ∙ of_class)
        | inr rivals ↦
            (let (differ, says) = both (not (same_name k.fact t.fact)) (list_any (says_against k.fact t.fact) s.premises) rivals in
            let (p, among, said) = list_any-In (says_against k.fact t.fact) s.premises says in
            by_premise (not-true (same_name k.fact t.fact) differ) p among said)
      ]

    complete : contradicts_in s (go k) t ≡ true → (a : TokenRow Spot) × In a every × (go a ≡ t)
    complete clash = let (a, here, same) = row_of seen (are t.class) holds t at_t refl in (a, stands a here clash, same)

  -- ---- tests of what contradicts a token of the fact

  clips_same : (k a : TokenRow Spot) → IsThere k.spot → IsThere a.spot → clips spot_contradicts far k a ≡ clips (contradicts_in s) gap (go k) (go a)
  clips_same k a lk la = ap (λ v. contradicts_in s (go k) (go a) && v) (before_alike mom far gap IsThere same_far k.spot a.spot lk la)

  cuts_same : (k : TokenRow Spot) (q : Spot) (a : TokenRow Spot) → IsThere k.spot → IsThere q → IsThere a.spot → cuts spot_contradicts far k q a ≡ cuts (contradicts_in s) gap (go k) (mom q) (go a)
  cuts_same k q a lk lq la = λ i. clips_same k a lk la i && by_alike mom far gap IsThere same_far a.spot q la lq i

  module _ (k : TokenRow Spot) (at_k : In k own) (of_fact : k.fact ≡ fact) where
    of_class : k.class ≡ class
    of_class = (node_of seen (are class) k at_k).3

    k_there : IsThere k.spot
    k_there = (spots_there seen (are class) k at_k).begin

    module _ (test : TokenRow Spot → Bool) (passes : TokenRow Moment → Bool) (tested : (a : TokenRow Spot) → In a every → test a ≡ passes (go a))
        (contradict : (t : TokenRow Moment) → passes t ≡ true → contradicts_in s (go k) t ≡ true) where
      same_all : IsSame order moment_order go every (tokens s b) test passes
      same_all = record { ranked = ranked; tested = tested; there = there; own = λ t at passed. complete k of_class of_fact t at (contradict t passed) }

      any_is : list_any test every ≡ list_any passes (tokens s b)
      any_is = some_of_rows order moment_order go every (tokens s b) test passes same_all

      first_believed_is : (found : Option ℕ) → IsFirstPlace (on (λ k. k.spot) order) test every found
          → (d : TokenRow Spot) → option_map (λ i. mom (slice_index_or every i d).spot) found ≡ first_token s (far_in s.premises) b passes
      first_believed_is found h d = sym (first_of_rows order moment_order go every (tokens s b) test passes (ordered s (far_in s.premises)) (tokens_spelt seen holds) same_all found h d)

    lasts_same : (q : Spot) → IsThere q → (o : Option Spot) → ForSome o IsThere → lasts_to spot_contradicts far every k q o ≡ lasts_to (contradicts_in s) gap (tokens s b) (go k) (mom q) (option_map mom o)
    lasts_same q lq None le =
        ap not (any_is (cuts spot_contradicts far k q) (cuts (contradicts_in s) gap (go k) (mom q)) (λ a at. cuts_same k q a k_there lq (begin_there a at))
        (λ t passed. (both (contradicts_in s (go k) t) (is_before gap (go k).spot t.spot) (both (clips (contradicts_in s) gap (go k) t) (is_by gap t.spot (mom q)) passed).0).0))
    lasts_same q lq (Some e) le = before_alike mom far gap IsThere same_far q e lq (le e refl)

  -- ---- support

  supports_same : (p q : Spot) → IsThere p → IsThere q → (a : TokenRow Spot) → In a own
      → supports spot_contradicts far every fact p q a ≡ supports (contradicts_in s) gap (tokens s b) fact (mom p) (mom q) (go a)
  supports_same p q at_p at_q a at = by (same_name a.fact fact) refl
    where
      begins : is_by far a.spot p ≡ is_by gap (mom a.spot) (mom p)
      begins = by_alike mom far gap IsThere same_far a.spot p (spots_there seen (are class) a at).begin at_p

      by : (v : Bool) → same_name a.fact fact ≡ v → supports spot_contradicts far every fact p q a ≡ supports (contradicts_in s) gap (tokens s b) fact (mom p) (mom q) (go a)
      by false e =
          ap (λ v. (v && is_by far a.spot p) && lasts_to spot_contradicts far every a q a.end) e
          ∙ sym (ap (λ v. (v && is_by gap (mom a.spot) (mom p)) && lasts_to (contradicts_in s) gap (tokens s b) (go a) (mom q) (option_map mom a.end)) e)
      by true e = λ i. (same_name a.fact fact && begins i) && lasts_same a at (same_name-is a.fact fact e) q at_q a.end (spots_there seen (are class) a at).«end» i

  module _ (in_class : class_in s.premises fact ≡ Some class) (p q : Spot) (at_p : IsThere p) (at_q : IsThere q) where
    support_class : (k : TokenRow Moment) → In k (tokens s b) → supports (contradicts_in s) gap (tokens s b) fact (mom p) (mom q) k ≡ true → k.class ≡ class
    support_class k at passed =
        let begins = (both (same_name k.fact fact && is_by gap k.spot (mom p)) (lasts_to (contradicts_in s) gap (tokens s b) k (mom q) k.end) passed).0 in
        let same = (both (same_name k.fact fact) (is_by gap k.spot (mom p)) begins).0 in
        let one : class_of s fact ≡ class = rw (in_class, class_of) refl in
        let (y, _, is) = In-filter_map (token_of s) b k at in
        class-token_of s y k is ∙ ap (class_of s) (same_name-is k.fact fact same) ∙ one

    -- **The first row that supports a fact** is its first supporter.
    pub holder_among : (place : Option ℕ) → IsFirstPlace (on (λ k. k.spot) order) (supports spot_contradicts far every fact p q) own place
        → (d : TokenRow Spot) → option_map (λ i. mom (slice_index_or own i d).spot) place ≡ holder s (far_in s.premises) b fact (mom p) (mom q)
    holder_among =
        first_is seen (are class) holds (supports spot_contradicts far every fact p q) (supports (contradicts_in s) gap (tokens s b) fact (mom p) (mom q)) (supports_same p q at_p at_q) support_class

    -- **Some row supports a fact** exactly where some token does.
    pub support_among : list_any (supports spot_contradicts far every fact p q) own ≡ has_support s (far_in s.premises) b fact (mom p) (mom q)
    support_among =
        some_of_rows order moment_order go own (tokens s b) (supports spot_contradicts far every fact p q) (supports (contradicts_in s) gap (tokens s b) fact (mom p) (mom q))
        (same_rows seen (are class) holds (supports spot_contradicts far every fact p q) (supports (contradicts_in s) gap (tokens s b) fact (mom p) (mom q)) (supports_same p q at_p at_q) support_class)

  -- where no token of the fact supports it, a row is no supporter
  pub no_support_among : (p q : Spot) → IsThere p → IsThere q → (row : TokenRow Spot) → In row own → holder s (far_in s.premises) b fact (mom p) (mom q) ≡ None → supports spot_contradicts far every fact p q row ≡ false
  no_support_among p q at_p at_q row at none = by (passes (go row)) refl
    where
      passes : TokenRow Moment → Bool
      passes = supports (contradicts_in s) gap (tokens s b) fact (mom p) (mom q)

      by : (v : Bool) → passes (go row) ≡ v → supports spot_contradicts far every fact p q row ≡ false
      by false e = supports_same p q at_p at_q row at ∙ e
      by true e =
          let nowhere : list_any passes (tokens s b) ≡ false = (no_first_token s (far_in s.premises) b passes).0 none in
          let somewhere : list_any passes (tokens s b) ≡ true = In-list_any passes (tokens s b) (go row) (row_there seen (are class) holds row at) e in
          cc

  -- ---- faults

  module _ (row : TokenRow Spot) (at : In row own) (of_fact : row.fact ≡ fact) where
    -- what is first in the lists is first of the tokens
    first_place : (test : TokenRow Spot → Bool) (passes : TokenRow Moment → Bool) → ((a : TokenRow Spot) → In a every → test a ≡ passes (go a)) → ((t : TokenRow Moment) → passes t ≡ true → contradicts_in s (go row) t ≡ true)
        → (place : Option Place) → MatchOption place ((i j : ℕ) (d : TokenRow Spot) → i < length (lists s rows_in fact class) → j < length (list_at (lists s rows_in fact class) i) → test (slice_index_or (list_at (lists s rows_in fact class) i) j d) ≡ false)
        (IsFirstInLists (on (λ k. k.spot) order) test (lists s rows_in fact class) (length (lists s rows_in fact class)))
        → (d : TokenRow Spot) → option_map (λ p. mom (at_place (lists s rows_in fact class) p d).spot) place ≡ first_token s (far_in s.premises) b passes
    first_place test passes tested contradict place h d =
        let (found, first, same) = first_of_all (lists s rows_in fact class) (on (λ k. k.spot) order) test d place h in
        mapped (λ p. at_place (lists s rows_in fact class) p d) (λ a. mom a.spot) place ∙ ap (option_map (λ a. mom a.spot)) same
        ∙ sym (mapped (λ i. slice_index_or every i d) (λ a. mom a.spot) found) ∙ first_believed_is row at of_fact test passes tested contradict found first d

    module _ (p q : Spot) (at_p : IsThere p) (at_q : IsThere q) where
      begins : is_by far row.spot p ≡ is_by gap (go row).spot (mom p)
      begins = by_alike mom far gap IsThere same_far row.spot p (k_there row at of_fact) at_p

      -- **The faults of a row** are those of its token.
      pub late_among : is_by far row.spot p ≡ false → fault (map_of s b) (mom p) (mom q) (go row) ≡ late
      late_among h = let no : is_by gap (go row).spot (mom p) ≡ false = sym begins ∙ h in rw (no, fault) refl

      pub ends_among : is_by far row.spot p ≡ true → IsSome row.end → fault (map_of s b) (mom p) (mom q) (go row) ≡ ends
      ends_among h e = let sure : is_by gap (go row).spot (mom p) ≡ true = sym begins ∙ h in rw (sure, fault) (by row.end e)
        where
          by : (o : Option Spot) → IsSome o → elim (option_map mom o) [ Some e ↦ ends | None ↦ option_map_or clipped (first_believed (map_of s b) (cuts (contradicts_in s) gap (go row) (mom q))) ends ] ≡ ends
          by None e = cc
          by (Some z) e = refl

      pub clipped_among : is_by far row.spot p ≡ true → IsNone row.end → (c : Place)
          → IsFirstInLists (on (λ k. k.spot) order) (cuts spot_contradicts far row q) (lists s rows_in fact class) (length (lists s rows_in fact class)) c
          → (d : TokenRow Spot) → fault (map_of s b) (mom p) (mom q) (go row) ≡ clipped (mom (at_place (lists s rows_in fact class) c d).spot)
      clipped_among h e c first d = let sure : is_by gap (go row).spot (mom p) ≡ true = sym begins ∙ h in rw (sure, fault) (by row.end e)
        where
          cut : Some (mom (at_place (lists s rows_in fact class) c d).spot) ≡ first_believed (map_of s b) (cuts (contradicts_in s) gap (go row) (mom q))
          cut =
              first_place (cuts spot_contradicts far row q) (cuts (contradicts_in s) gap (go row) (mom q)) (λ a there. cuts_same row q a (k_there row at of_fact) at_q (begin_there a there))
              (λ t passed. (both (contradicts_in s (go row) t) (is_before gap (go row).spot t.spot) (both (clips (contradicts_in s) gap (go row) t) (is_by gap t.spot (mom q)) passed).0).0) (Some c) first d

          by : (o : Option Spot) → IsNone o → elim (option_map mom o) [ Some e ↦ ends | None ↦ option_map_or clipped (first_believed (map_of s b) (cuts (contradicts_in s) gap (go row) (mom q))) ends ] ≡ clipped (mom (at_place (lists s rows_in fact class) c d).spot)
          by None e = sym (ap (λ o. option_map_or clipped o ends) cut)
          by (Some z) e = cc
