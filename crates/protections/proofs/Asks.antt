-- What is found of a fact rests on the tokens that bear on it alone, and on how far they are apart
-- and from the points.
use Rattle.std.proofs.Common.{◌≡◌, ◌∙◌, ℕ, Bool, true, false, not, ◌&&◌, List, [], ◌∷◌, map, take, length, ◌-◌, refl, sym, ap, subst, inl, inr, pos}
use Rattle.std.specs.Prelude.{Option, Some, None, negsuc, filter}
use Rattle.std.specs.List.{list_any}
use Rattle.std.specs.Option.{option_map, option_map_or}
use Rattle.std.specs.Ordering.{on, is_gt, int_cmp, nat_cmp, ordering_then, ordering_reverse}
use Rattle.std.specs.Cmp.{both_ways}
use Rattle.std.specs.Cmp.Lexicographic.{slice_cmp, bytes_decides}
use Rattle.std.specs.declared.cmp.Ordering.{Ordering}
use Rattle.std.specs.declared.cmp.Ordering.TheVariants.{Less, Greater}
use Rattle.tmm_model.specs.declared.token.TokenRow.{TokenRow}
use Rattle.tmm_model.specs.Answers.{Fault, Finding, late, clipped, ends, holds, fails, unordered, first_believed, fault, fault_before, tokens_for, failing, most_blames, ask}
use Rattle.tmm_model.specs.Beliefs.{class_of, token_of, contradicts_in, holder}
use Rattle.tmm_model.specs.Bounds.{bound_at_most}
use Rattle.tmm_model.specs.Firsts.{earliest, first, sorted}
use Rattle.tmm_model.specs.Maps.{TimeMap, built, gap, order, believed_tokens}
use Rattle.tmm_model.specs.Moments.{Moment, negated, printed}
use Rattle.tmm_model.specs.Points.{same_name}
use Rattle.tmm_model.specs.Standing.{Standing, far_in}
use Rattle.tmm_model.specs.Tokens.{is_by, is_before, clips, cuts, lasts_to, supports}
use Rattle.tmm_model.specs.Types.{IsOrderOn}
use Rattle.list_theory.specs.WellNamed.{IsSound}
use Rattle.list_theory.proofs.Distinct.{Distinct, Distinct-filter, one_order}
use Rattle.list_theory.proofs.Elements.{In, both, list_any-In, In-list_any, In-filter, filter-In, In-filter_map}
use Rattle.belief_theory.proofs.Firsts.{least_is, one_spot}
use Rattle.belief_theory.proofs.NextLists.{all_spelt}
use Rattle.belief_theory.proofs.OneRight.{spot-token_of}
use Rattle.belief_theory.proofs.Order.{IsSpelt, ordered, total}
use Rattle.belief_theory.proofs.Rivals.{class_bears, contradicts_bears}
use Rattle.belief_theory.proofs.Sorts.{sorted_in, sorted_rising}
use Rattle.belief_theory.proofs.Watched.{class-token_of}
use Rattle.spots.proofs.Seen.{believed_once}
use Rattle.list_theory.proofs.Pointwise.{map_same, sorted_same}
use Rattle.tt_query.proofs.FirstPlaces.{In-take, Distinct-filter_map, sorted-In}
use Rattle.protections.specs.Asks.{BearsOn, SameForPoints, AsksStay}

abbrev by_begin : TimeMap → TokenRow Moment → TokenRow Moment → Ordering
by_begin m = on (λ k. k.spot) (order m)

-- two lists with the same members, which two maps order alike, have one first
one_first : (m n : TimeMap) (xs ys : List (TokenRow Moment)) → ((k : TokenRow Moment) → In k xs → IsSpelt k.spot)
    → ((k : TokenRow Moment) → In k xs → In k ys) → ((k : TokenRow Moment) → In k ys → In k xs)
    → ((k c : TokenRow Moment) → In k xs → In c xs → order m k.spot c.spot ≡ order n k.spot c.spot)
    → option_map (λ k. k.spot) (first (by_begin m) xs) ≡ option_map (λ k. k.spot) (first (by_begin n) ys)
one_first m n [] [] spelt into back alike = refl
one_first m n [] (y ∷ ys) spelt into back alike = absurd (back y (inl refl))
one_first m n (x ∷ xs) [] spelt into back alike = absurd (into x (inl refl))
one_first m n (x ∷ xs) (y ∷ ys) spelt into back alike =
    let one = least_is (ordered m.list m.far) x xs spelt in
    let two = least_is (ordered n.list n.far) y ys (λ k at. spelt k (back k at)) in
    let k : TokenRow Moment = earliest (by_begin m) x xs in
    let c : TokenRow Moment = earliest (by_begin n) y ys in
    let k_in = into k one.member in
    let c_in = back c two.member in
    ap Some (one_spot (ordered m.list m.far) k.spot c.spot (spelt k one.member) (spelt c c_in) (one.below c c_in) (ap is_gt (alike c k c_in one.member) ∙ two.below k k_in))

-- ---- tokens of a list

module _ (s : Standing) (sound : IsSound s) where
  -- a token of the list, at a moment whose word tells it
  abbrev IsOwn : TokenRow Moment → Type 0
  IsOwn k = IsSpelt k.spot × (token_of s k.spot ≡ Some k)

  own_token : (k : TokenRow Moment) → In k (believed_tokens (built s)) → IsOwn k
  own_token k at =
      let (x, there, made) = In-filter_map (token_of s) (built s).believed k at in
      (all_spelt s sound k at, subst (λ z. token_of s z ≡ Some k) (sym (spot-token_of s x k made)) made)

  own_class : (fact : List ℕ) (k : TokenRow Moment) → In k (believed_tokens (built s)) → k.fact ≡ fact → k.class ≡ class_of s fact
  own_class fact k at is =
      let (x, there, made) = In-filter_map (token_of s) (built s).believed k at in
      class-token_of s x k made ∙ ap (class_of s) is

  tokens_once : Distinct (believed_tokens (built s))
  tokens_once = Distinct-filter_map (token_of s) (λ x z k made also. sym (spot-token_of s x k made) ∙ spot-token_of s z k also) (built s).believed (believed_once s sound)

  by_begin_orders : IsOrderOn IsOwn (by_begin (built s))
  by_begin_orders = record {
    antisymm = λ x y _ _. (total s (far_in s.premises)).antisymm x.spot y.spot;
    trans = λ x y z _ _ _. (total s (far_in s.premises)).trans x.spot y.spot z.spot;
    strict = λ x y lx ly e.
        (let same : x.spot ≡ y.spot = (ordered s (far_in s.premises)).strict x.spot y.spot lx.0 ly.0 e in
        let tokens : Some x ≡ Some y = sym lx.1 ∙ ap (token_of s) same ∙ ly.1 in
        cc);
  }

  one_way : (x y : TokenRow Moment) → by_begin (built s) x y ≡ Less → by_begin (built s) y x ≡ Less → ⊥
  one_way x y e g =
      let wrong : Less ≡ Greater = sym e ∙ (total s (far_in s.premises)).antisymm x.spot y.spot ∙ ap ordering_reverse g in
      cc

  -- two lists of tokens with the same members and no repeats are sorted alike
  sorted_alike : (xs ys : List (TokenRow Moment)) → ((k : TokenRow Moment) → In k ys → IsOwn k) → Distinct xs → Distinct ys
      → ((k : TokenRow Moment) → In k xs → In k ys) → ((k : TokenRow Moment) → In k ys → In k xs) → sorted (by_begin (built s)) xs ≡ sorted (by_begin (built s)) ys
  sorted_alike xs ys own once_xs once_ys into back =
      one_order (by_begin (built s)) one_way (sorted (by_begin (built s)) xs) (sorted (by_begin (built s)) ys)
      (sorted_rising by_begin_orders xs (λ k at. own k (into k at)) once_xs)
      (sorted_rising by_begin_orders ys own once_ys)
      (λ k at. (sorted_in by_begin_orders ys k).1 (into k ((sorted_in by_begin_orders xs k).0 at)))
      (λ k at. (sorted_in by_begin_orders xs k).1 (back k ((sorted_in by_begin_orders ys k).0 at)))

-- ---- two lists with the same tokens that bear on a fact

module _ (s t : Standing) (sound_s : IsSound s) (sound_t : IsSound t) (fact : List ℕ) (p q : Moment) (same : SameForPoints (built s) (built t) fact p q) where
  abbrev m : TimeMap
  m = built s

  abbrev n : TimeMap
  n = built t

  abbrev Bears : TokenRow Moment → Type 0
  Bears = BearsOn m n fact

  -- a token of the fact bears on it
  own_bears : (k : TokenRow Moment) → In k (believed_tokens m) → k.fact ≡ fact → Bears k
  own_bears k at is = inl (class_bears s fact k (own_class s sound_s fact k at is))

  own_there : (k : TokenRow Moment) → In k (believed_tokens n) → k.fact ≡ fact → Bears k
  own_there k at is = inr (class_bears t fact k (own_class t sound_t fact k at is))

  order_alike : (k c : TokenRow Moment) → Bears k → Bears c → In k (believed_tokens m) → In c (believed_tokens m) → order m k.spot c.spot ≡ order n k.spot c.spot
  order_alike k c bears_k bears_c at_k at_c =
      let date_k = ap negated (same.dates k bears_k at_k) in
      let date_c = ap negated (same.dates c bears_c at_c) in
      λ i. ordering_then (int_cmp (date_k i) (date_c i)) (slice_cmp nat_cmp (printed k.spot) (printed c.spot))

  -- tests that only tokens pass that bear on the fact, and these alike, have one first that passes
  first_alike : (one two : TokenRow Moment → Bool)
      → ((k : TokenRow Moment) → In k (believed_tokens m) → one k ≡ true → Bears k)
      → ((k : TokenRow Moment) → In k (believed_tokens n) → two k ≡ true → Bears k)
      → ((k : TokenRow Moment) → Bears k → In k (believed_tokens m) → In k (believed_tokens n) → one k ≡ two k)
      → first_believed m one ≡ first_believed n two
  first_alike one two of_one of_two alike =
      one_first m n (filter one (believed_tokens m)) (filter two (believed_tokens n))
      (λ k at. all_spelt s sound_s k (In-filter one (believed_tokens m) k at).0)
      (λ k at.
      (let h = In-filter one (believed_tokens m) k at in
      let bears = of_one k h.0 h.1 in
      let there = same.into k bears h.0 in
      filter-In two (believed_tokens n) k there (sym (alike k bears h.0 there) ∙ h.1)))
      (λ k at.
      (let h = In-filter two (believed_tokens n) k at in
      let bears = of_two k h.0 h.1 in
      let here = same.back k bears h.0 in
      filter-In one (believed_tokens m) k here (alike k bears here h.0 ∙ h.1)))
      (λ k c at_k at_c.
      (let h = In-filter one (believed_tokens m) k at_k in
      let g = In-filter one (believed_tokens m) c at_c in
      order_alike k c (of_one k h.0 h.1) (of_one c g.0 g.1) h.0 g.0))

  -- ---- a token of the fact

  module _ (k : TokenRow Moment) (own : k.fact ≡ fact) (at : In k (believed_tokens m)) where
    bears : Bears k
    bears = own_bears k at own

    there : In k (believed_tokens n)
    there = same.into k bears at

    -- what cuts it in a map before q
    abbrev cuts_in : TimeMap → TokenRow Moment → Bool
    cuts_in z = cuts (contradicts_in z.list) (gap z) k q

    cuts_alike : (c : TokenRow Moment) → Bears c → In c (believed_tokens m) → In c (believed_tokens n) → cuts_in m c ≡ cuts_in n c
    cuts_alike c bears_c at_m at_n =
        λ i. (same.rivals k c own at at_m at_n i && bound_at_most (same.gaps c k bears_c bears at_m at i) (negsuc 0)) && bound_at_most (same.last c bears_c at_m i) (pos 0)

    -- what cuts it contradicts it
    cutter : (z : TimeMap) (c : TokenRow Moment) → cuts_in z c ≡ true → contradicts_in z.list k c ≡ true
    cutter z c h =
        let clip = (both (clips (contradicts_in z.list) (gap z) k c) (is_by (gap z) c.spot q) h).0 in
        (both (contradicts_in z.list k c) (is_before (gap z) k.spot c.spot) clip).0

    -- so it bears on the fact
    cutter_here : (c : TokenRow Moment) → cuts_in m c ≡ true → Bears c
    cutter_here c h = inl (contradicts_bears s fact k c own (own_class s sound_s fact k at own) (cutter m c h))

    cutter_there : (c : TokenRow Moment) → cuts_in n c ≡ true → Bears c
    cutter_there c h = inr (contradicts_bears t fact k c own (own_class t sound_t fact k there own) (cutter n c h))

    any_alike : list_any (cuts_in m) (believed_tokens m) ≡ list_any (cuts_in n) (believed_tokens n)
    any_alike =
        both_ways (list_any (cuts_in m) (believed_tokens m)) (list_any (cuts_in n) (believed_tokens n))
        (λ h.
        (let (c, at_m, cut) = list_any-In (cuts_in m) (believed_tokens m) h in
        let bears_c = cutter_here c cut in
        let at_n = same.into c bears_c at_m in
        In-list_any (cuts_in n) (believed_tokens n) c at_n (sym (cuts_alike c bears_c at_m at_n) ∙ cut)))
        (λ h.
        (let (c, at_n, cut) = list_any-In (cuts_in n) (believed_tokens n) h in
        let bears_c = cutter_there c cut in
        let at_m = same.back c bears_c at_n in
        In-list_any (cuts_in m) (believed_tokens m) c at_m (cuts_alike c bears_c at_m at_n ∙ cut)))

    cut_alike : first_believed m (cuts_in m) ≡ first_believed n (cuts_in n)
    cut_alike = first_alike (cuts_in m) (cuts_in n) (λ c at_m cut. cutter_here c cut) (λ c at_n cut. cutter_there c cut) cuts_alike

    lasts_alike : (o : Option Moment) → k.end ≡ o → lasts_to (contradicts_in m.list) (gap m) (believed_tokens m) k q o ≡ lasts_to (contradicts_in n.list) (gap n) (believed_tokens n) k q o
    lasts_alike None is = ap not any_alike
    lasts_alike (Some e) is = ap (λ d. bound_at_most d (negsuc 0)) (same.ends k e bears at is)

    by_first : is_by (gap m) k.spot p ≡ is_by (gap n) k.spot p
    by_first = ap (λ d. bound_at_most d (pos 0)) (same.first k bears at)

    fault_alike : fault m p q k ≡ fault n p q k
    fault_alike = λ i. elim (by_first i) as (λ _. Fault) [ false ↦ late | true ↦ lasting k.end i ]
      where
        lasting : (o : Option Moment) → fault_before m k q o ≡ fault_before n k q o
        lasting (Some e) = refl
        lasting None = ap (λ c. option_map_or clipped c ends) cut_alike

  -- ---- the first supporter

  abbrev supports_in : TimeMap → TokenRow Moment → Bool
  supports_in z = supports (contradicts_in z.list) (gap z) (believed_tokens z) fact p q

  supports_alike : (k : TokenRow Moment) → Bears k → In k (believed_tokens m) → In k (believed_tokens n) → supports_in m k ≡ supports_in n k
  supports_alike k bears_k at at_n = by (same_name k.fact fact) refl
    where
      by : (b : Bool) → same_name k.fact fact ≡ b → supports_in m k ≡ supports_in n k
      by true e =
          let own : k.fact ≡ fact = (bytes_decides k.fact fact).0 e in
          λ i. (same_name k.fact fact && by_first k own at i) && lasts_alike k own at k.end refl i
      by false e =
          ap (λ b. (b && is_by (gap m) k.spot p) && lasts_to (contradicts_in m.list) (gap m) (believed_tokens m) k q k.end) e
          ∙ sym (ap (λ b. (b && is_by (gap n) k.spot p) && lasts_to (contradicts_in n.list) (gap n) (believed_tokens n) k q k.end) e)

  -- what supports the fact is a token of it
  of_fact : (z : TimeMap) (k : TokenRow Moment) → supports_in z k ≡ true → k.fact ≡ fact
  of_fact z k h =
      let outer = both (same_name k.fact fact && is_by (gap z) k.spot p) (lasts_to (contradicts_in z.list) (gap z) (believed_tokens z) k q k.end) h in
      (bytes_decides k.fact fact).0 (both (same_name k.fact fact) (is_by (gap z) k.spot p) outer.0).0

  holder_alike : holder m.list m.far m.believed fact p q ≡ holder n.list n.far n.believed fact p q
  holder_alike = first_alike (supports_in m) (supports_in n) (λ k at h. own_bears k at (of_fact m k h)) (λ k at h. own_there k at (of_fact n k h)) supports_alike

  -- ---- why there is none

  abbrev is_token : TokenRow Moment → Bool
  is_token k = same_name k.fact fact

  of_token : (k : TokenRow Moment) → In k (filter is_token (believed_tokens m)) → In k (believed_tokens m) × (k.fact ≡ fact)
  of_token k at = let h = In-filter is_token (believed_tokens m) k at in (h.0, (bytes_decides k.fact fact).0 h.1)

  -- **The tokens of the fact are the same, in the same order.**
  tokens_alike : tokens_for m fact ≡ tokens_for n fact
  tokens_alike =
      sorted_same (by_begin m) (by_begin n) (filter is_token (believed_tokens m))
      (λ k c at_k at_c.
      (let h = of_token k at_k in
      let g = of_token c at_c in
      order_alike k c (own_bears k h.0 h.1) (own_bears c g.0 g.1) h.0 g.0))
      ∙ sorted_alike t sound_t (filter is_token (believed_tokens m)) (filter is_token (believed_tokens n))
      (λ k at. own_token t sound_t k (In-filter is_token (believed_tokens n) k at).0)
      (Distinct-filter is_token (believed_tokens m) (tokens_once s sound_s))
      (Distinct-filter is_token (believed_tokens n) (tokens_once t sound_t))
      (λ k at.
      (let h = of_token k at in
      filter-In is_token (believed_tokens n) k (same.into k (own_bears k h.0 h.1) h.0) (In-filter is_token (believed_tokens m) k at).1))
      (λ k at.
      (let h = In-filter is_token (believed_tokens n) k at in
      filter-In is_token (believed_tokens m) k (same.back k (own_there k h.0 ((bytes_decides k.fact fact).0 h.1)) h.0) h.1))

  -- a token with its fault
  abbrev blame : TimeMap → TokenRow Moment → Moment × Fault
  blame z k = (k.spot, fault z p q k)

  failing_alike : failing m p q (tokens_for m fact) ≡ failing n p q (tokens_for n fact)
  failing_alike =
      (λ i. fails (blames i) (length (tokens_for m fact) - most_blames))
      ∙ ap (failing n p q) tokens_alike
    where
      blames : map (blame m) (take most_blames (tokens_for m fact)) ≡ map (blame n) (take most_blames (tokens_for m fact))
      blames =
          map_same (blame m) (blame n) (take most_blames (tokens_for m fact))
          (λ k at.
          (let h = of_token k (sorted-In (by_begin m) (filter is_token (believed_tokens m)) k (In-take most_blames (tokens_for m fact) k at)) in
          λ i. (k.spot, fault_alike k h.1 h.0 i)))

  found_alike : ask m fact p q ≡ ask n fact p q
  found_alike =
      λ i. elim (bound_at_most (same.points i) (pos 0)) as (λ _. Finding) [
        | false ↦ unordered
        | true ↦ elim (holder_alike i) as (λ _. Finding) [ Some k ↦ holds k | None ↦ failing_alike i ]
      ]

pub asks_stay : AsksStay
asks_stay s t sound_s sound_t fact p q same = found_alike s t sound_s sound_t fact p q same
