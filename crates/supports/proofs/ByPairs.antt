-- What clips a token, pair by pair of the facts that premises set against its own.
use Rattle.std.proofs.Common.{◌≡◌, ◌∙◌, ℕ, Bool, true, false, not, ◌&&◌, ◌||◌, List, [], ◌∷◌, ◌++◌, refl, sym, ap, subst, inl, inr}
use Rattle.std.proofs.lemmas.Bool.{or_cases, or_left, or_right, or_from, and_right, false_from_ne_true, both_ways}
use Rattle.std.proofs.lemmas.List.Folds.{list_any-append}
use Rattle.std.specs.Prelude.{Option, Some, None, IsSome, MatchOption, filter, is_some, slice_index_or}
use Rattle.std.specs.List.{list_any}
use Rattle.std.specs.Option.{option_map, option_map_or, option_and_then}
use Rattle.std.specs.Ordering.{is_lt, is_gt, on, ordering_reverse}
use Rattle.std.specs.declared.cmp.Ordering.{Ordering}
use Rattle.std.specs.declared.cmp.Ordering.TheVariants.{Less, Equal, Greater}
use Rattle.tmm_model.specs.declared.bound.Bound.{Bound}
use Rattle.tmm_model.specs.declared.token.TokenRow.{TokenRow}
use Rattle.tmm_model.specs.Answers.{first_believed}
use Rattle.tmm_model.specs.Beliefs.{tokens, token_of, class_of, contradicts_in, first_token}
use Rattle.tmm_model.specs.Firsts.{earliest, first}
use Rattle.tmm_model.specs.Moments.{Moment, distance, occ_cmp}
use Rattle.tmm_model.specs.Points.{same_name}
use Rattle.tmm_model.specs.Sorts.{class_in}
use Rattle.tmm_model.specs.Standing.{Standing, far_in}
use Rattle.tmm_model.specs.Tokens.{of_one_class, clips, is_before}
use Rattle.tmm_model.specs.Types.{IsOrderOn}
use Rattle.belief_theory.specs.FirstPlaces.{IsFirstPlace}
use Rattle.belief_theory.proofs.Firsts.{upto, one_spot, least_is}
use Rattle.belief_theory.proofs.Order.{IsSpelt, ordered}
use Rattle.belief_theory.proofs.Rivals.{or_false}
use Rattle.belief_theory.proofs.Watched.{class-token_of}
use Rattle.list_theory.proofs.Elements.{In, both, In-filter, filter-In, In-filter_map, In-list_any}
use Rattle.walk_theory.proofs.Points.{same_name-is, same_name-self}
use Rattle.clipping.specs.Cutters.{is_between}
use Rattle.premise_list.specs.Rivalries.{rivalries, is_pair_of}
use Rattle.premise_list.proofs.PairsOfFacts.{any_pair}
use Rattle.dist_net.specs.Net.{Net}
use Rattle.spots.proofs.Nodes.{live_at}
use Rattle.spots.proofs.Seen.{distance_is, order_is}
use Rattle.spots.specs.declared.spot.Spot.{Spot}
use Rattle.spots.specs.declared.spot.Spot.TheVariants.{Node}
use Rattle.spots.specs.Forest.{Forest, IsLive, moment_at}
use Rattle.spots.specs.OfLists.{IsForestOf, HasOccurrences, map_of}
use Rattle.spots.specs.Spots.{IsSpot, AreTokens, spot_moment, spot_distance, spot_cmp, row_moment}
use Rattle.supports.specs.Behind.{token_at}
use Rattle.supports.specs.Clips.{rival_in, of_pairs, clip_by}
use Rattle.supports.proofs.Answered.{first_is}
use Rattle.premise_list.proofs.Facts.{rival_known}
use Rattle.clipping.proofs.Moved.{before_alike}
use Rattle.supports.proofs.Nearest.{token_there, there_token}
use Rattle.premise_list.proofs.Unrivalled.{differ_back}
use Rattle.supports.proofs.TokenRows.{node_of, spots_there, tokens_spelt}

-- ---- the facts of a pair

-- the fact is that of an element, where there is one
abbrev pub names : Option (List ℕ) → List ℕ → Bool
names o f = option_map_or (λ g. same_name f g) o false

name-swap : (f g : List ℕ) → same_name f g ≡ same_name g f
name-swap f g = by (same_name f g) refl (same_name g f) refl
  where
    by : (a : Bool) → same_name f g ≡ a → (c : Bool) → same_name g f ≡ c → same_name f g ≡ same_name g f
    by true e true d = e ∙ sym d
    by false e false d = e ∙ sym d
    by true e false d = let turned = differ_back g f d in e ∙ sym e ∙ turned ∙ sym d
    by false e true d = let turned = differ_back f g e in e ∙ sym turned

and_true : (v : Bool) → (v && true) ≡ v
and_true true = refl
and_true false = refl

module _ (fact one other f : List ℕ) where
  -- what the two sides are by whether one or the other is the fact
  abbrev left : Bool → Bool → Bool
  left a c = not (same_name fact f) && ((a && same_name other f) || (same_name one f && c))

  abbrev unlike : List ℕ → Option (List ℕ)
  unlike z = elim (same_name z fact) as (λ _. Option (List ℕ)) [ true ↦ None | false ↦ Some z ]

  abbrev right : Bool → Bool → Bool
  right a c = names (option_and_then unlike (elim a as (λ _. Option (List ℕ)) [ true ↦ Some other | false ↦ elim c as (λ _. Option (List ℕ)) [ true ↦ Some one | false ↦ None ] ])) f

  itself : (z : List ℕ) → same_name z fact ≡ true → names (unlike z) f ≡ false
  itself z e = ap (λ u. names (elim u as (λ _. Option (List ℕ)) [ true ↦ None | false ↦ Some z ]) f) e

  another : (z : List ℕ) → same_name z fact ≡ false → names (unlike z) f ≡ same_name f z
  another z e = ap (λ u. names (elim u as (λ _. Option (List ℕ)) [ true ↦ None | false ↦ Some z ]) f) e

  never : (v : Bool) → (not v && ((true && v) || (v && true))) ≡ false
  never true = refl
  never false = refl

  -- where another differs from the fact, it is the one that is set against it
  differs : (g : List ℕ) → same_name g fact ≡ false → (not (same_name fact f) && same_name g f) ≡ same_name f g
  differs g e = by (same_name g f) refl ∙ name-swap g f
    where
      by : (v : Bool) → same_name g f ≡ v → (not (same_name fact f) && same_name g f) ≡ same_name g f
      by false d = ap (λ v. not (same_name fact f) && v) d ∙ and_right (not (same_name fact f)) false refl ∙ sym d
      by true d = let apart : same_name fact f ≡ false = ap (same_name fact) (sym (same_name-is g f d)) ∙ differ_back g fact e in λ i. not (apart i) && same_name g f

  cases : (a : Bool) → same_name one fact ≡ a → (c : Bool) → same_name other fact ≡ c → left a c ≡ right a c
  cases true e true d =
      (λ i. not (same_name fact f) && ((true && same_name (same_name-is other fact d i) f) || (same_name (same_name-is one fact e i) f && true)))
      ∙ never (same_name fact f) ∙ sym (itself other d)
  cases true e false d =
      ap (λ u. not (same_name fact f) && (same_name other f || u)) (and_right (same_name one f) false refl)
      ∙ ap (λ u. not (same_name fact f) && u) (or_false (same_name other f)) ∙ differs other d ∙ sym (another other d)
  cases false e true d = ap (λ u. not (same_name fact f) && u) (and_true (same_name one f)) ∙ differs one e ∙ sym (another one e)
  cases false e false d = ap (λ u. not (same_name fact f) && u) (and_right (same_name one f) false refl) ∙ and_right (not (same_name fact f)) false refl

-- **A pair sets a fact against another one** exactly where that is the other one in it.
pub of_pair : (fact : List ℕ) (pair : List ℕ × List ℕ) (f : List ℕ) → (not (same_name fact f) && is_pair_of fact f pair) ≡ names (rival_in fact pair) f
of_pair fact pair f = cases fact pair.0 pair.1 f (same_name pair.0 fact) refl (same_name pair.1 fact) refl

-- ---- one pair more

spread : (o n l p z : Bool) → ((o || (n && (l || p))) && z) ≡ (((o || (n && l)) && z) || ((n && p) && z))
spread o n l p false =
    and_right (o || (n && (l || p))) false refl
    ∙ sym (or_from ((o || (n && l)) && false) ((n && p) && false) (and_right (o || (n && l)) false refl) (and_right (n && p) false refl))
spread true n l p true = refl
spread false true true p true = refl
spread false true false p true = refl
spread false false l p true = refl

-- what clips a token by one pair more
pub added : {P : Type 0} (pairs : List (List ℕ × List ℕ)) (pair : List ℕ × List ℕ) (far : P → P → Bound) (k t : TokenRow P)
    → clips (of_pairs (pairs ++ pair ∷ [])) far k t ≡ (clips (of_pairs pairs) far k t || (names (rival_in k.fact pair) t.fact && is_before far k.spot t.spot))
added pairs pair far k t =
    let q = is_pair_of k.fact t.fact in
    let n = not (same_name k.fact t.fact) in
    let more : list_any q (pairs ++ pair ∷ []) ≡ (list_any q pairs || q pair) = list_any-append q pairs (pair ∷ []) ∙ ap (λ v. list_any q pairs || v) (or_false (q pair)) in
    ap (λ v. (of_one_class k t || (n && v)) && is_before far k.spot t.spot) more
    ∙ spread (of_one_class k t) n (list_any q pairs) (q pair) (is_before far k.spot t.spot)
    ∙ ap (λ v. clips (of_pairs pairs) far k t || (v && is_before far k.spot t.spot)) (of_pair k.fact pair t.fact)

-- by no pairs, the facts of one class contradict each other
pub none_yet : {P : Type 0} → of_pairs {P = P} [] ≡ of_one_class
none_yet = λ i k t. (ap (λ v. of_one_class k t || v) (and_right (not (same_name k.fact t.fact)) false refl) ∙ or_false (of_one_class k t)) i

-- by all pairs, those that premises set against each other too
pub all_pairs : (s : Standing) → of_pairs (rivalries s.premises) ≡ contradicts_in s
all_pairs s = λ i k t. of_one_class k t || (not (same_name k.fact t.fact) && sym (any_pair k.fact t.fact s.premises) i)

-- ---- the first of the tokens that pass

-- the sooner of what was found before another and that
abbrev pub sooner : Option Moment → Option Moment → Option Moment
sooner (Some m) best = Some m
sooner None best = best

module _ {s : Standing} {net : Net} {f : Forest} (seen : IsForestOf s net f) {b : List Moment} (holds : HasOccurrences b f) where
  abbrev mom : Spot → Moment
  mom = spot_moment net.names f

  abbrev go : TokenRow Spot → TokenRow Moment
  go = row_moment net.names f

  abbrev far : Spot → Spot → Bound
  far = spot_distance net f

  abbrev gap : Moment → Moment → Bound
  gap = distance s (far_in s.premises)

  abbrev order : Spot → Spot → Ordering
  order = spot_cmp net f

  abbrev moment_order : Moment → Moment → Ordering
  moment_order = occ_cmp s (far_in s.premises)

  abbrev IsThere : Spot → Type 0
  IsThere = IsSpot net.names f

  abbrev by_spot : TokenRow Moment → TokenRow Moment → Ordering
  by_spot = on (λ k. k.spot) moment_order

  law : IsOrderOn IsSpelt moment_order
  law = ordered s (far_in s.premises)

  live : (t : TokenRow Moment) → In t (tokens s b) → IsSpelt t.spot
  live = tokens_spelt seen holds

  not_less : (x y : Moment) → IsSpelt x → IsSpelt y → is_lt (moment_order x y) ≡ false → is_gt (moment_order y x) ≡ false
  not_less x y lx ly h = ap is_gt (law.antisymm y x ly lx) ∙ by (moment_order x y) h
    where
      by : (r : Ordering) → is_lt r ≡ false → is_gt (ordering_reverse r) ≡ false
      by Less e = cc
      by Equal e = refl
      by Greater e = refl

  less : (r : Ordering) → is_lt r ≡ true → is_gt r ≡ false
  less Less e = refl
  less Equal e = refl
  less Greater e = cc

  -- it is the spot of the first token that passes
  record IsFirstAt (test : TokenRow Moment → Bool) (m : Moment) : Type 0 where
    token : TokenRow Moment
    member : In token (tokens s b)
    spot : token.spot ≡ m
    passes : test token ≡ true
    least : (u : TokenRow Moment) → In u (tokens s b) → test u ≡ true → is_gt (moment_order m u.spot) ≡ false

  -- the same, none exactly where none passes
  abbrev IsFirstSpot : (TokenRow Moment → Bool) → Option Moment → Type 0
  IsFirstSpot test found = MatchOption found ((t : TokenRow Moment) → In t (tokens s b) → test t ≡ false) (IsFirstAt test)

  to_first : (test : TokenRow Moment → Bool) (found : Option Moment) → first_token s (far_in s.premises) b test ≡ found → IsFirstSpot test found
  to_first test found is = subst (IsFirstSpot test) is (by (filter test (tokens s b)) refl)
    where
      by : (ys : List (TokenRow Moment)) → filter test (tokens s b) ≡ ys → IsFirstSpot test (option_map (λ k. k.spot) (first by_spot ys))
      by [] e = λ t at. false_from_ne_true (test t) (λ passed. subst (In t) e (filter-In test (tokens s b) t at passed))
      by (y ∷ ys) e =
          let l = least_is law y ys (λ k at. live k (In-filter test (tokens s b) k (subst (In k) (sym e) at)).0) in
          let m : TokenRow Moment = earliest by_spot y ys in
          let (there, pass) = In-filter test (tokens s b) m (subst (In m) (sym e) l.member) in
          record { token = m; member = there; spot = refl; passes = pass; least = λ u at passed. l.below u (subst (In u) e (filter-In test (tokens s b) u at passed)) }

  from_first : (test : TokenRow Moment → Bool) (found : Option Moment) → IsFirstSpot test found → first_token s (far_in s.premises) b test ≡ found
  from_first test None none = by (filter test (tokens s b)) refl
    where
      by : (ys : List (TokenRow Moment)) → filter test (tokens s b) ≡ ys → option_map (λ k. k.spot) (first by_spot ys) ≡ None
      by [] e = refl
      by (y ∷ ys) e = let (at, passed) = In-filter test (tokens s b) y (subst (In y) (sym e) (inl refl)) in absurd (both_ways (test y) (none y at) passed)
  from_first test (Some m) h = by (filter test (tokens s b)) refl
    where
      kept : In h.token (filter test (tokens s b))
      kept = filter-In test (tokens s b) h.token h.member h.passes

      by : (ys : List (TokenRow Moment)) → filter test (tokens s b) ≡ ys → option_map (λ k. k.spot) (first by_spot ys) ≡ Some m
      by [] e = absurd (subst (In h.token) e kept)
      by (y ∷ ys) e =
          let l = least_is law y ys (λ k at. live k (In-filter test (tokens s b) k (subst (In k) (sym e) at)).0) in
          let n : TokenRow Moment = earliest by_spot y ys in
          let (there, passed) = In-filter test (tokens s b) n (subst (In n) (sym e) l.member) in
          ap Some (one_spot law n.spot m (live n there) (subst IsSpelt h.spot (live h.token h.member)) (subst (λ z. is_gt (moment_order n.spot z) ≡ false) h.spot (l.below h.token (subst (In h.token) e kept))) (h.least n there passed))

  -- what passes, before a moment where one is given
  abbrev ahead : (TokenRow Moment → Bool) → Option Moment → TokenRow Moment → Bool
  ahead test None t = test t
  ahead test (Some z) t = test t && is_lt (moment_order t.spot z)

  -- **The first that passes one of two tests** is the first of the one, or what passes the other
  -- before it.
  either : (one other : TokenRow Moment → Bool) (best found : Option Moment) → IsFirstSpot one best → IsFirstSpot (ahead other best) found → IsFirstSpot (λ t. one t || other t) (sooner found best)
  either one other None None h g = λ t at. or_from (one t) (other t) (h t at) (g t at)
  either one other None (Some m) h g = record {
    token = g.token;
    member = g.member;
    spot = g.spot;
    passes = or_right (one g.token) (other g.token) g.passes;
    least = λ u at either_way. elim (or_cases (one u) (other u) either_way) [ inl a ↦ absurd (both_ways (one u) (h u at) a) | inr c ↦ g.least u at c ];
  }
  either one other (Some z) None h g = record {
    token = h.token;
    member = h.member;
    spot = h.spot;
    passes = or_left (one h.token) (other h.token) h.passes;
    least = λ u at either_way. elim (or_cases (one u) (other u) either_way) [
      | inl a ↦ h.least u at a
      | inr c ↦ not_less u.spot z (live u at) (subst IsSpelt h.spot (live h.token h.member)) (sym (ap (λ v. v && is_lt (moment_order u.spot z)) c) ∙ g u at)
    ];
  }
  either one other (Some z) (Some m) h g =
      let lz : IsSpelt z = subst IsSpelt h.spot (live h.token h.member) in
      let lm : IsSpelt m = subst IsSpelt g.spot (live g.token g.member) in
      let (passed, before) = both (other g.token) (is_lt (moment_order g.token.spot z)) g.passes in
      let up : is_gt (moment_order m z) ≡ false = subst (λ y. is_gt (moment_order y z) ≡ false) g.spot (less (moment_order g.token.spot z) before) in
      record {
        token = g.token;
        member = g.member;
        spot = g.spot;
        passes = or_right (one g.token) (other g.token) passed;
        least = λ u at either_way. elim (or_cases (one u) (other u) either_way) [ inl a ↦ upto law m z u.spot lm lz (live u at) up (h.least u at a) | inr c ↦ by u at c lm lz up (is_lt (moment_order u.spot z)) refl ];
      }
    where
      by : (u : TokenRow Moment) → In u (tokens s b) → other u ≡ true → IsSpelt m → IsSpelt z → is_gt (moment_order m z) ≡ false → (v : Bool) → is_lt (moment_order u.spot z) ≡ v → is_gt (moment_order m u.spot) ≡ false
      by u at c lm lz up true e = g.least u at (λ i. c i && e i)
      by u at c lm lz up false e = upto law m z u.spot lm lz (live u at) up (not_less u.spot z (live u at) lz e)

  -- ---- the token of a node

  module _ (x : ℕ) (k : TokenRow Spot) (is : token_at f x ≡ Some k) where
    abbrev clip_so : (TokenRow Moment → TokenRow Moment → Bool) → Option Moment
    clip_so contradicts = option_and_then (clip_by contradicts (map_of s b)) (token_of s (moment_at f x))

    -- the clip of a token with this end
    ended : (contradicts : TokenRow Moment → TokenRow Moment → Bool) (o : Option Spot) → k.end ≡ o → clip_so contradicts ≡ elim (option_map mom o) as (λ _. Option Moment) [ Some e ↦ None | None ↦ first_believed (map_of s b) (clips contradicts gap (go k)) ]
    ended contradicts o end =
        ap (option_and_then (clip_by contradicts (map_of s b))) (token_there seen holds x k is)
        ∙ ap (λ o. elim (option_map mom o) as (λ _. Option Moment) [ Some e ↦ None | None ↦ first_believed (map_of s b) (clips contradicts gap (go k)) ]) end

    -- nothing clips a span, whatever contradicts what
    pub span_unclipped : (one other : TokenRow Moment → TokenRow Moment → Bool) → is_some k.end ≡ true → clip_so one ≡ clip_so other
    span_unclipped one other some = by k.end refl some
      where
        by : (o : Option Spot) → k.end ≡ o → is_some o ≡ true → clip_so one ≡ clip_so other
        by None end some = cc
        by (Some e) end some = ended one (Some e) end ∙ sym (ended other (Some e) end)

    -- begins after the token, and is of the fact where there is one
    abbrev rival : Option (List ℕ) → TokenRow Moment → Bool
    rival o t = names o t.fact && is_before gap (mom k.spot) t.spot

    module _ (pairs : List (List ℕ × List ℕ)) (pair : List ℕ × List ℕ) (no_end : k.end ≡ None) (clip : Option ℕ) (known : option_map (moment_at f) clip ≡ clip_so (of_pairs pairs)) where
      -- what was found of the other fact of the pair is the clip, and else that of before
      by_found : (found : Option Moment) → IsFirstSpot (ahead (rival (rival_in k.fact pair)) (option_map (moment_at f) clip)) found → sooner found (option_map (moment_at f) clip) ≡ clip_so (of_pairs (pairs ++ pair ∷ []))
      by_found found g =
          let test : TokenRow Moment → Bool = clips (of_pairs pairs) gap (go k) in
          let first = to_first test (option_map (moment_at f) clip) (sym (known ∙ ended (of_pairs pairs) None no_end)) in
          sym (from_first (λ t. test t || rival (rival_in k.fact pair) t) (sooner found (option_map (moment_at f) clip)) (either test (rival (rival_in k.fact pair)) (option_map (moment_at f) clip) found first g))
          ∙ ap (first_token s (far_in s.premises) b) (λ i t. sym (added pairs pair gap (go k) t) i)
          ∙ sym (ended (of_pairs (pairs ++ pair ∷ [])) None no_end)

      -- where the pair sets no fact against that of the token, the clip stays
      pub no_rival_more : rival_in k.fact pair ≡ None → option_map (moment_at f) clip ≡ clip_so (of_pairs (pairs ++ pair ∷ []))
      no_rival_more none = by_found None (subst (λ o. IsFirstSpot (ahead (rival o) (option_map (moment_at f) clip)) None) (sym none) (by (option_map (moment_at f) clip)))
        where
          by : (o : Option Moment) → IsFirstSpot (ahead (rival None) o) None
          by None = λ t at. refl
          by (Some z) = λ t at. refl

      module _ (g : List ℕ) (other : rival_in k.fact pair ≡ Some g) where
        -- the other fact is declared
        pub rival_declared : In pair (rivalries s.premises) → IsSome (class_in s.premises g)
        rival_declared at =
            let said : (not (same_name k.fact g) && is_pair_of k.fact g pair) ≡ true = of_pair k.fact pair g ∙ ap (λ o. names o g) other ∙ same_name-self g in
            let (differ, of_them) = both (not (same_name k.fact g)) (is_pair_of k.fact g pair) said in
            rival_known s seen.network.sound.well_named k.fact g (λ i. differ i && (any_pair k.fact g s.premises ∙ In-list_any (is_pair_of k.fact g) (rivalries s.premises) pair at of_them) i)

        module _ (class : List ℕ) (in_class : class_in s.premises g ≡ Some class) (rows : List (TokenRow Spot)) (are : AreTokens f class rows) (there : (c : ℕ) → clip ≡ Some c → IsLive f c) where
          -- **The first row of the other fact** that comes before the clip is the clip from then on.
          pub rival_found : (place : Option ℕ) → IsFirstPlace (on (λ r. r.spot) order) (is_between g far order k.spot (option_map Node clip)) rows place
              → (d : TokenRow Spot) → sooner (option_map (λ i. mom (slice_index_or rows i d).spot) place) (option_map (moment_at f) clip) ≡ clip_so (of_pairs (pairs ++ pair ∷ []))
          rival_found place h d =
              by_found (option_map (λ i. mom (slice_index_or rows i d).spot) place)
              (subst (λ o. IsFirstSpot (ahead (rival o) (option_map (moment_at f) clip)) (option_map (λ i. mom (slice_index_or rows i d).spot) place)) (sym other)
              (to_first passes (option_map (λ i. mom (slice_index_or rows i d).spot) place)
              (sym (first_is seen are holds (is_between g far order k.spot (option_map Node clip)) passes (tested clip there) (own (option_map (moment_at f) clip)) place h d))))
            where
              passes : TokenRow Moment → Bool
              passes = ahead (rival (Some g)) (option_map (moment_at f) clip)

              before : (a : TokenRow Spot) → In a rows → is_before far k.spot a.spot ≡ is_before gap (mom k.spot) (mom a.spot)
              before a at = before_alike mom far gap IsThere (distance_is s net f seen) k.spot a.spot (there_token seen holds x k is) (spots_there seen are a at).begin

              tested : (o : Option ℕ) → ((c : ℕ) → o ≡ Some c → IsLive f c) → (a : TokenRow Spot) → In a rows → is_between g far order k.spot (option_map Node o) a ≡ ahead (rival (Some g)) (option_map (moment_at f) o) (go a)
              tested None l a at = ap (λ v. same_name a.fact g && v) (before a at)
              tested (Some c) l a at =
                  let (y, m, one, _) = node_of seen are a at in
                  let spot = one.spot in
                  let ranked : order a.spot (Node c) ≡ moment_order (mom a.spot) (moment_at f c) =
                  (λ i. order (spot i) (Node c)) ∙ order_is s net f seen y c (live_at f y m one.here) (l c refl) ∙ sym (λ i. moment_order (mom (spot i)) (moment_at f c)) in
                  λ i. (same_name a.fact g && before a at i) && is_lt (ranked i)

              of_class : (t : TokenRow Moment) → In t (tokens s b) → rival (Some g) t ≡ true → t.class ≡ class
              of_class t at passed =
                  let (same, _) = both (same_name t.fact g) (is_before gap (mom k.spot) t.spot) passed in
                  let one : class_of s g ≡ class = rw (in_class, class_of) refl in
                  let (y, _, token) = In-filter_map (token_of s) b t at in
                  class-token_of s y t token ∙ ap (class_of s) (same_name-is t.fact g same) ∙ one

              own : (o : Option Moment) → (t : TokenRow Moment) → In t (tokens s b) → ahead (rival (Some g)) o t ≡ true → t.class ≡ class
              own None t at passed = of_class t at passed
              own (Some z) t at passed = of_class t at (both (rival (Some g) t) (is_lt (moment_order t.spot z)) passed).0
