-- What is touched as the nodes are at the beginning is touched in the end.
use Rattle.std.proofs.Common.{◌≡◌, ◌∙◌, ℕ, Bool, true, false, not, ◌&&◌, ◌||◌, ◌==◌, List, [], ◌∷◌, ◌++◌, map, refl, sym, ap, subst, inl, inr}
use Rattle.std.specs.Prelude.{◌⊎◌, Option, Some, None}
use Rattle.std.specs.List.{Contains, list_any, list_all, filter_map}
use Rattle.std.specs.Option.{option_eq}
use Rattle.std.specs.Cmp.Lexicographic.{nat_list_eq_equiv}
use Rattle.std.proofs.lemmas.Bool.{eq-eqb}
use Rattle.std.proofs.lemmas.Bool.Decides.{Decides-int_eq}
use Rattle.tmm_model.specs.declared.bound.Bound.{Bound}
use Rattle.tmm_model.specs.declared.bound.Bound.TheVariants.{Finite, Free}
use Rattle.tmm_model.specs.declared.point.PointName.TheVariants.{Start}
use Rattle.tmm_model.specs.declared.premise.Edit.{Edit}
use Rattle.tmm_model.specs.declared.token.TokenRow.{TokenRow}
use Rattle.tmm_model.specs.Beliefs.{rules_at, token_of}
use Rattle.belief_theory.specs.Outcomes.{outcome}
use Rattle.tmm_model.specs.Edits.{next_list}
use Rattle.tmm_model.specs.Maps.{TimeMap, built, gap, believed_tokens}
use Rattle.tmm_model.specs.Moments.{Moment, At, After, same_moment, read_by, rule_of}
use Rattle.list_theory.specs.WellNamed.{IsSound}
use Rattle.belief_theory.specs.Right.{Occurs}
use Rattle.tmm_model.specs.Standing.{Standing, far_in}
use Rattle.belief_theory.specs.Touched.{is_watched, same_bound, same_token, are_within, same_tokens, watched, watched_points, same_rivals, same_gaps, is_decision, is_touched}
use Rattle.list_theory.proofs.Elements.{In, list_all-In, In-from_Contains, Contains-from_In, In-filter, filter-In, In-filter_map, filter_map-In, In-list_any, In-map, map-In, In-left, In-right, In-cases}
use Rattle.belief_theory.proofs.Moments.{Decides-same_moment}
use Rattle.belief_theory.proofs.OneRight.{spot-token_of}
use Rattle.belief_theory.proofs.Order.{IsSpelt}
use Rattle.belief_theory.proofs.SoundBeliefs.{believed_right, believed_occurs}
use Rattle.belief_theory.proofs.Spelt.{spelt}
use Rattle.belief_theory.proofs.NextLists.{all_spelt}
use Rattle.belief_theory.proofs.Untouched.{Alike, is_untouched, untouched_rivals, untouched_alike, untouched_stood, outcome_alike}
use Rattle.belief_theory.proofs.Watched.{class-token_of}
use Rattle.spots.specs.OfLists.{map_of}
use Rattle.revisions.specs.Counted.{AreSeeds}
use Rattle.revisions.proofs.Lawful.{text, watched_back, decided}
use Rattle.revisions.proofs.Tokens.{tokens_stay}

In-list_all : {X : Type 0} (p : X → Bool) (xs : List X) → ((x : X) → In x xs → p x ≡ true) → list_all p xs ≡ true
In-list_all p [] h = refl
In-list_all p (x ∷ xs) h = λ i. h x (inl refl) i && In-list_all p xs (λ y at. h y (inr at)) i

bound_itself : (x : Bound) → same_bound x x ≡ true
bound_itself (Finite x) = (Decides-int_eq x x).1 refl
bound_itself Free = refl

end_itself : (o : Option Moment) → option_eq same_moment o o ≡ true
end_itself None = refl
end_itself (Some x) = (Decides-same_moment x x).1 refl

token_itself : (k : TokenRow Moment) → same_token k k ≡ true
token_itself k = λ i. (Decides-same_moment k.spot k.spot).1 refl i && end_itself k.end i && nat_list_eq_equiv.refl k.fact i && nat_list_eq_equiv.refl k.class i

within_from : (xs ys : List (TokenRow Moment)) → ((k : TokenRow Moment) → In k xs → In k ys) → are_within xs ys ≡ true
within_from xs ys sub = In-list_all (λ k. list_any (same_token k) ys) xs (λ k at. In-list_any (same_token k) ys k (sub k at) (token_itself k))

-- where two maps are alike for a decision that the first has, it is not touched
pub untouched_from : (m n : TimeMap) (t : Moment) (r : List ℕ) → is_decision m (t, r) ≡ true → m.list.horizon ≡ n.list.horizon
    → ((f : List ℕ) → In f (read_by (rule_of n.list r)) → same_rivals m.list n.list f ≡ true)
    → ((k : TokenRow Moment) → In k (watched m r) → In k (watched n r)) → ((k : TokenRow Moment) → In k (watched n r) → In k (watched m r))
    → ((p q : Moment) → In p (watched_points n t r) → In q (watched_points n t r) → gap m p q ≡ gap n p q)
    → is_touched m n (t, r) ≡ false
untouched_from m n t r was horizon rivals into back gaps =
    all_true (is_decision m (t, r)) (m.list.horizon == n.list.horizon) (list_all (same_rivals m.list n.list) (read_by (rule_of n.list r)))
    (same_tokens (watched m r) (watched n r)) (same_gaps m n (watched_points n t r))
    was
    (ap (λ h. m.list.horizon == h) (sym horizon) ∙ eq-eqb m.list.horizon m.list.horizon refl)
    (In-list_all (same_rivals m.list n.list) (read_by (rule_of n.list r)) rivals)
    (λ i. within_from (watched m r) (watched n r) into i && within_from (watched n r) (watched m r) back i)
    (In-list_all (λ p. list_all (λ q. same_bound (gap m p q) (gap n p q)) (watched_points n t r)) (watched_points n t r)
    (λ p at_p. In-list_all (λ q. same_bound (gap m p q) (gap n p q)) (watched_points n t r)
    (λ q at_q. ap (λ x. same_bound x (gap n p q)) (gaps p q at_p at_q) ∙ bound_itself (gap n p q))))
  where
    all_true : (a b c d e : Bool) → a ≡ true → b ≡ true → c ≡ true → d ≡ true → e ≡ true → (not a || not b || not c || not d || not e) ≡ false
    all_true a b c d e p q u v w = λ i. not (p i) || not (q i) || not (u i) || not (v i) || not (w i)

abbrev pub points_among : Moment → List (TokenRow Moment) → List Moment
points_among t ks = At Start ∷ t ∷ map (λ k. k.spot) ks ++ filter_map (λ k. k.end) ks

pub among_more : (t : Moment) (ks ls : List (TokenRow Moment)) → ((k : TokenRow Moment) → In k ks → In k ls) → (p : Moment) → In p (points_among t ks) → In p (points_among t ls)
among_more t ks ls sub p (inl is) = inl is
among_more t ks ls sub p (inr (inl is)) = inr (inl is)
among_more t ks ls sub p (inr (inr at)) =
    elim (In-cases (map (λ k. k.spot) ks) (filter_map (λ k. k.end) ks) p at) [
      | inl h ↦ let (k, there, is) = In-map (λ k. k.spot) ks p h in inr (inr (In-left (map (λ k. k.spot) ls) (filter_map (λ k. k.end) ls) p (subst (λ z. In z (map (λ k. k.spot) ls)) is (map-In (λ k. k.spot) ls k (sub k there)))))
      | inr h ↦ let (k, there, is) = In-filter_map (λ k. k.end) ks p h in inr (inr (In-right (map (λ k. k.spot) ls) (filter_map (λ k. k.end) ls) p (filter_map-In (λ k. k.end) ls k p (sub k there) is)))
    ]

module _ (old : Standing) (edit : Edit) (sound_old : IsSound old) (sound_new : IsSound (next_list old edit)) (b : List Moment) (seeds : AreSeeds old (next_list old edit) b) where
  abbrev new : Standing
  new = next_list old edit

  pub seed_occurs : (x : Moment) → Contains b x → Occurs (next_list old edit) x
  seed_occurs (At p) at = (seeds.root p).0 at
  seed_occurs (After t r) at = ((seeds.derived t r).0 at).1

  -- a seed is believed before or after
  seed_known : (x : Moment) → Contains b x → Contains (built old).believed x ⊎ Contains (built new).believed x
  seed_known (At p) at = inr ((believed_right new sound_new (At p)).1 ((seeds.root p).0 at))
  seed_known (After t r) at = inl ((seeds.derived t r).0 at).0

  -- what is believed before and after is a seed
  seed_of : (x : Moment) → Contains (built old).believed x → Contains (built new).believed x → Contains b x
  seed_of (At p) before now = (seeds.root p).1 ((believed_right new sound_new (At p)).0 now)
  seed_of (After t r) before now = (seeds.derived t r).1 (before, believed_occurs new sound_new (After t r) now)

  among_spelt : (k : TokenRow Moment) → In k (believed_tokens (map_of new b)) → IsSpelt k.spot
  among_spelt k at =
      let (x, in_b, e) = In-filter_map (token_of new) b k at in
      subst IsSpelt (sym (spot-token_of new x k e)) (spelt new sound_new.well_formed x (seed_occurs x (Contains-from_In b x in_b)))

  module _ (t : Moment) (r : List ℕ) (stands : Contains (rules_at (next_list old edit) t) r) where
    pub keeps : is_touched (built old) (map_of new b) (t, r) ≡ false → outcome old (far_in old.premises) (built old).believed t r ≡ outcome new (far_in new.premises) b t r
    keeps h =
        let stood = untouched_stood (built old) (map_of new b) t r h in
        let same = text old edit sound_old sound_new t r stood.1 stands in
        outcome_alike (built old) (map_of new b) t r (untouched_alike (built old) (map_of new b) t r same h) (all_spelt old sound_old) among_spelt

    -- what is untouched in the end is untouched at the beginning
    untouched_first : is_touched (built old) (built new) (t, r) ≡ false → is_touched (built old) (map_of new b) (t, r) ≡ false
    untouched_first h =
        untouched_from (built old) (map_of new b) t r was alike.horizon
        (λ f given. list_all-In (same_rivals old new) (read_by (rule_of new r)) (is_untouched (built old) (built new) t r h).rivals f given) into back
        (λ p q at_p at_q. alike.gaps p q (among_more t (watched (map_of new b) r) (watched (built old) r) back p at_p) (among_more t (watched (map_of new b) r) (watched (built old) r) back q at_q))
      where
        stood : Contains (built old).believed t × Contains (rules_at old t) r
        stood = untouched_stood (built old) (built new) t r h

        same : rule_of old r ≡ rule_of new r
        same = text old edit sound_old sound_new t r stood.1 stands

        was : is_decision (built old) (t, r) ≡ true
        was = decided old edit sound_old sound_new (built old) t r stood.0 stood.1

        alike : Alike (built old) (built new) t r
        alike = untouched_alike (built old) (built new) t r same h

        into : (k : TokenRow Moment) → In k (watched (built old) r) → In k (watched (map_of new b) r)
        into k at =
            let now = In-filter (is_watched new r) (believed_tokens (built new)) k (alike.into k at) in
            let (x, in_new, e) = In-filter_map (token_of new) (built new).believed k now.0 in
            let (y, in_old, f) = In-filter_map (token_of old) (built old).believed k (In-filter (is_watched old r) (believed_tokens (built old)) k at).0 in
            let one : y ≡ x = sym (spot-token_of old y k f) ∙ spot-token_of new x k e in
            let here = seed_of x (subst (Contains (built old).believed) one (Contains-from_In (built old).believed y in_old)) (Contains-from_In (built new).believed x in_new) in
            filter-In (is_watched new r) (believed_tokens (map_of new b)) k (filter_map-In (token_of new) b x k (In-from_Contains b x here) e) now.1

        back : (k : TokenRow Moment) → In k (watched (map_of new b) r) → In k (watched (built old) r)
        back k at =
            let seed = In-filter (is_watched new r) (believed_tokens (map_of new b)) k at in
            let (x, in_b, e) = In-filter_map (token_of new) b k seed.0 in
            let here = Contains-from_In b x in_b in
            elim (seed_known x here) [
              | inl before ↦
                  let of_old = tokens_stay old edit sound_old sound_new x (believed_occurs old sound_old x before) (seed_occurs x here) ∙ e in
                  filter-In (is_watched old r) (believed_tokens (built old)) k (filter_map-In (token_of old) (built old).believed x k (In-from_Contains (built old).believed x before) of_old)
                  (watched_back old edit sound_old sound_new t r k stood.1 stands same (untouched_rivals (built old) (built new) t r h)
                  (class-token_of old x k of_old) seed.1)
              | inr now ↦ alike.back k (filter-In (is_watched new r) (believed_tokens (built new)) k (filter_map-In (token_of new) (built new).believed x k (In-from_Contains (built new).believed x now) e) seed.1)
            ]

    pub stays_touched : is_touched (built old) (map_of new b) (t, r) ≡ true → is_touched (built old) (built new) (t, r) ≡ true
    stays_touched h = by (is_touched (built old) (built new) (t, r)) refl
      where
        by : (v : Bool) → is_touched (built old) (built new) (t, r) ≡ v → is_touched (built old) (built new) (t, r) ≡ true
        by true e = e
        by false e = let f : is_touched (built old) (map_of new b) (t, r) ≡ false = untouched_first e in let x : true ≡ false = sym h ∙ f in cc

    pub seeds_right : (is_touched (built old) (map_of new b) (t, r) ≡ false → outcome old (far_in old.premises) (built old).believed t r ≡ outcome new (far_in new.premises) b t r)
        × (is_touched (built old) (map_of new b) (t, r) ≡ true → is_touched (built old) (built new) (t, r) ≡ true)
    seeds_right = (keeps, stays_touched)
