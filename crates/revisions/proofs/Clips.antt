-- Clips stay where what contradicts a token does, but for some that is gone.
use Rattle.std.proofs.Common.{◌≡◌, ◌∙◌, Bool, true, false, ◌&&◌, List, [], ◌∷◌, refl, sym, ap, subst, inl}
use Rattle.std.specs.Prelude.{Option, Some, None, negsuc, filter}
use Rattle.std.specs.List.{Contains}
use Rattle.std.specs.Option.{option_map, option_and_then}
use Rattle.std.specs.Ordering.{on, is_gt, int_cmp, nat_cmp, ordering_then}
use Rattle.std.specs.Cmp.Lexicographic.{slice_cmp}
use Rattle.std.specs.declared.cmp.Ordering.{Ordering}
use Rattle.tmm_model.specs.declared.premise.Edit.{Edit}
use Rattle.tmm_model.specs.declared.token.TokenRow.{TokenRow}
use Rattle.tmm_model.specs.Answers.{clip, clip_of, first_believed}
use Rattle.tmm_model.specs.Beliefs.{token_of, contradicts_in}
use Rattle.tmm_model.specs.Bounds.{bound_at_most}
use Rattle.tmm_model.specs.Edits.{next_list}
use Rattle.tmm_model.specs.Firsts.{earliest, first}
use Rattle.tmm_model.specs.Maps.{TimeMap, built, gap, order, believed_tokens}
use Rattle.tmm_model.specs.Moments.{Moment, printed}
use Rattle.tmm_model.specs.Standing.{Standing}
use Rattle.tmm_model.specs.Tokens.{is_before, clips}
use Rattle.list_theory.specs.WellNamed.{IsSound}
use Rattle.list_theory.proofs.Elements.{In, both, In-filter, filter-In, In-filter_map, filter_map-In, In-from_Contains, Contains-from_In}
use Rattle.belief_theory.proofs.Firsts.{least_is, one_spot}
use Rattle.belief_theory.proofs.NextLists.{all_spelt}
use Rattle.belief_theory.proofs.OneRight.{spot-token_of}
use Rattle.belief_theory.proofs.Order.{IsSpelt, ordered}
use Rattle.belief_theory.proofs.Outcomes.{first_token_in}
use Rattle.belief_theory.proofs.SoundBeliefs.{believed_occurs}
use Rattle.revisions.specs.Clips.{FewerAround, ClipsStay, ClipsStayOn}
use Rattle.revisions.proofs.Tokens.{tokens_stay}

abbrev by_begin : TimeMap → TokenRow Moment → TokenRow Moment → Ordering
by_begin m = on (λ k. k.spot) (order m)

-- what clips an occurrence is believed
pub clip_believed : (m : TimeMap) (x c : Moment) → clip m x ≡ Some c → Contains m.believed c
clip_believed m x c e = by (token_of m.list x) e
  where
    by_end : (k : TokenRow Moment) (o : Option Moment) → (elim o as (λ _. Option Moment) [ Some end ↦ None | None ↦ first_believed m (clips (contradicts_in m.list) (gap m) k) ]) ≡ Some c → Contains m.believed c
    by_end k (Some end) e = cc
    by_end k None e =
        let (d, there, passes, spot) = first_token_in m.list m.far m.believed (clips (contradicts_in m.list) (gap m) k) c e in
        let (y, on, made) = In-filter_map (token_of m.list) m.believed d there in
        subst (Contains m.believed) (sym (spot-token_of m.list y d made) ∙ spot) (Contains-from_In m.believed y on)

    by : (o : Option (TokenRow Moment)) → option_and_then (clip_of m) o ≡ Some c → Contains m.believed c
    by None e = cc
    by (Some k) e = by_end k k.end e

-- if the second of two lists has some members of the first, that one of them which is first by one
-- map, and two maps order all these alike, they have one first
one_first : (m n : TimeMap) (xs ys : List (TokenRow Moment)) → ((k : TokenRow Moment) → In k xs → IsSpelt k.spot)
    → ((k : TokenRow Moment) → In k ys → In k xs) → ((k : TokenRow Moment) → In k xs → first (by_begin m) xs ≡ Some k → In k ys)
    → ((k c : TokenRow Moment) → In k ys → In c ys → order m k.spot c.spot ≡ order n k.spot c.spot)
    → option_map (λ k. k.spot) (first (by_begin m) xs) ≡ option_map (λ k. k.spot) (first (by_begin n) ys)
one_first m n [] [] live back stays alike = refl
one_first m n [] (y ∷ ys) live back stays alike = absurd (back y (inl refl))
one_first m n (x ∷ xs) [] live back stays alike = absurd (stays (earliest (by_begin m) x xs) (least_is (ordered m.list m.far) x xs live).member refl)
one_first m n (x ∷ xs) (y ∷ ys) live back stays alike =
    let one = least_is (ordered m.list m.far) x xs live in
    let two = least_is (ordered n.list n.far) y ys (λ k at. live k (back k at)) in
    let k : TokenRow Moment = earliest (by_begin m) x xs in
    let c : TokenRow Moment = earliest (by_begin n) y ys in
    let k_in = stays k one.member refl in
    let c_in = back c two.member in
    ap Some (one_spot (ordered m.list m.far) k.spot c.spot (live k one.member) (live c c_in) (one.below c c_in) (ap is_gt (alike c k two.member k_in) ∙ two.below k k_in))

module _ (m n : TimeMap) (spelt : (k : TokenRow Moment) → In k (believed_tokens m) → IsSpelt k.spot) (k : TokenRow Moment) (fewer : FewerAround m n k) where
  abbrev clips_in : TimeMap → TokenRow Moment → Bool
  clips_in p = clips (contradicts_in p.list) (gap p) k

  -- what clips k contradicts it
  against : (p : TimeMap) (c : TokenRow Moment) → clips_in p c ≡ true → contradicts_in p.list k c ≡ true
  against p c h = (both (contradicts_in p.list k c) (is_before (gap p) k.spot c.spot) h).0

  clips_alike : (c : TokenRow Moment) → In c (believed_tokens m) → In c (believed_tokens n) → clips_in m c ≡ clips_in n c
  clips_alike c here there = ap (λ b. b && is_before (gap m) k.spot c.spot) (fewer.rivals c here there) ∙ by (contradicts_in n.list k c) refl
    where
      by : (b : Bool) → contradicts_in n.list k c ≡ b → (contradicts_in n.list k c && is_before (gap m) k.spot c.spot) ≡ (contradicts_in n.list k c && is_before (gap n) k.spot c.spot)
      by true e = ap (λ g. contradicts_in n.list k c && bound_at_most g (negsuc 0)) (fewer.gaps c e there)
      by false e = ap (λ b. b && is_before (gap m) k.spot c.spot) e ∙ sym (ap (λ b. b && is_before (gap n) k.spot c.spot) e)

  -- what clips k in a map
  abbrev clippers : TimeMap → List (TokenRow Moment)
  clippers p = filter (clips_in p) (believed_tokens p)

  -- the clip of k in a map, where this is its end
  abbrev clip_by : TimeMap → Option Moment → Option Moment
  clip_by p o = elim o as (λ _. Option Moment) [ Some end ↦ None | None ↦ first_believed p (clips_in p) ]

  clip_is : (p : TimeMap) (x : Moment) → token_of p.list x ≡ Some k → clip p x ≡ clip_by p k.end
  clip_is p x is = ap (option_and_then (clip_of p)) is

  first_alike : ((c : TokenRow Moment) → In c (believed_tokens m) → contradicts_in m.list k c ≡ true → first (by_begin m) (clippers m) ≡ Some c → In c (believed_tokens n))
      → clip_by m None ≡ clip_by n None
  first_alike stays = one_first m n (clippers m) (clippers n)
      (λ c at. spelt c (In-filter (clips_in m) (believed_tokens m) c at).0)
      (λ c at.
      (let h = In-filter (clips_in n) (believed_tokens n) c at in
      let here = fewer.back c (against n c h.1) h.0 in
      filter-In (clips_in m) (believed_tokens m) c here (clips_alike c here h.0 ∙ h.1)))
      (λ c at is.
      (let h = In-filter (clips_in m) (believed_tokens m) c at in
      let there = stays c h.0 (against m c h.1) is in
      filter-In (clips_in n) (believed_tokens n) c there (sym (clips_alike c h.0 there) ∙ h.1)))
      (λ c d at_c at_d.
      (let h = In-filter (clips_in n) (believed_tokens n) c at_c in
      let g = In-filter (clips_in n) (believed_tokens n) d at_d in
      let date_c = fewer.dates c (against n c h.1) h.0 in
      let date_d = fewer.dates d (against n d g.1) g.0 in
      λ i. ordering_then (int_cmp (date_c i) (date_d i)) (slice_cmp nat_cmp (printed c.spot) (printed d.spot))))

  -- **The clip stays** if the token that is the clip is among those of the second map.
  pub clip_stays : (x : Moment) → token_of m.list x ≡ Some k → token_of n.list x ≡ Some k
      → ((c : TokenRow Moment) → In c (believed_tokens m) → contradicts_in m.list k c ≡ true → clip m x ≡ Some c.spot → In c (believed_tokens n))
      → clip m x ≡ clip n x
  clip_stays x one two stays = clip_is m x one ∙ by k.end refl ∙ sym (clip_is n x two)
    where
      by : (o : Option Moment) → k.end ≡ o → clip_by m o ≡ clip_by n o
      by (Some end) is = refl
      by None is = first_alike (λ c at contradicts e. stays c at contradicts (clip_is m x one ∙ ap (clip_by m) is ∙ ap (option_map (λ (z : TokenRow Moment). z.spot)) e))

-- a token of the list before that is believed after an edit is one of the list after
token_there : (old : Standing) (edit : Edit) → IsSound old → IsSound (next_list old edit) → (c : TokenRow Moment) → In c (believed_tokens (built old))
    → Contains (built (next_list old edit)).believed c.spot → In c (believed_tokens (built (next_list old edit)))
token_there old edit sound_old sound_new c at believed =
    let (y, on, made) = In-filter_map (token_of old) (built old).believed c at in
    let spot : c.spot ≡ y = spot-token_of old y c made in
    let before = believed_occurs old sound_old c.spot (subst (Contains (built old).believed) (sym spot) (Contains-from_In (built old).believed y on)) in
    let now = believed_occurs (next_list old edit) sound_new c.spot believed in
    filter_map-In (token_of (next_list old edit)) (built (next_list old edit)).believed c.spot c (In-from_Contains (built (next_list old edit)).believed c.spot believed)
    (sym (tokens_stay old edit sound_old sound_new c.spot before now) ∙ ap (token_of old) spot ∙ made)

pub clips_stay_on : ClipsStayOn
clips_stay_on old edit sound_old sound_new x k one two fewer stays =
    clip_stays (built old) (built (next_list old edit)) (all_spelt old sound_old) k fewer x one two
    (λ c at contradicts is. token_there old edit sound_old sound_new c at (stays c.spot is))

pub clips_stay : ClipsStay
clips_stay old edit sound_old sound_new x k one two same =
    clip_stays (built old) (built (next_list old edit)) (all_spelt old sound_old) k same.fewer x one two (λ c at contradicts is. same.into c contradicts at)
