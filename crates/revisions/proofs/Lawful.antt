-- The revision that an edit asks for is lawful.
use Rattle.std.proofs.Common.{◌≡◌, ◌∙◌, ℕ, Bool, true, false, not, ◌&&◌, ◌||◌, ◌==◌, List, map, refl, sym, ap, subst, inl, inr}
use Rattle.std.proofs.lemmas.Bool.{cases_Bool}
use Rattle.std.specs.Prelude.{◌↔◌, ◌⊎◌, Option, Some, None, ◌≤ℤ◌}
use Rattle.std.specs.List.{Contains, list_all}
use Rattle.std.specs.Cmp.Lexicographic.{nat_list_eq_equiv}
use Rattle.tmm_model.specs.declared.premise.Edit.{Edit}
use Rattle.tmm_model.specs.declared.token.TokenRow.{TokenRow}
use Rattle.tmm_model.specs.Beliefs.{class_of, rules_at, token_of}
use Rattle.belief_theory.specs.Outcomes.{decisions, outcome, Outcome, fires, blocked, barred, beyond}
use Rattle.tmm_model.specs.Edits.{next_list}
use Rattle.tmm_model.specs.Maps.{TimeMap, built, believed_tokens}
use Rattle.tmm_model.specs.Moments.{Moment, At, After, RuleText, distance, same_moment, read_by, rule_of}
use Rattle.tmm_model.specs.Points.{same_name}
use Rattle.belief_theory.specs.Right.{Occurs}
use Rattle.list_theory.specs.WellNamed.{IsSound}
use Rattle.tmm_model.specs.Standing.{Standing, far_in}
use Rattle.belief_theory.specs.Touched.{bears_on, is_watched, same_rivals, same_tokens, watched, watched_points, same_gaps, is_decision}
use Rattle.list_theory.proofs.Elements.{In, In-from_Contains, Contains-from_In, In-filter, filter-In, In-filter_map, filter_map-In, flat_map-In, map-In, In-list_any, list_any-In}
use Rattle.belief_theory.proofs.NextLists.{one_way, found_within}
use Rattle.belief_theory.proofs.Moments.{Decides-same_moment}
use Rattle.belief_theory.proofs.OneRight.{later, spot-token_of}
use Rattle.belief_theory.proofs.Outcomes.{fires_exactly}
use Rattle.belief_theory.proofs.SoundBeliefs.{sound_timed, believed_right, believed_occurs}
use Rattle.belief_theory.proofs.Spelt.{spelt}
use Rattle.belief_theory.proofs.Rivals.{HasClass, HaveSameRivals, bears_alike}
use Rattle.belief_theory.proofs.Untouched.{was_decision, class_of_token, untouched_alike, untouched_stood, untouched_rivals}
use Rattle.revisions.specs.Maps.{watches, revision}
use Rattle.revisions.specs.Revisions.{Revision, is_firing, IsOf, AreOf, AgreeFor, Belongs, IsNew, IsLost, IsLawful}
use Rattle.tmm_model.specs.Tokens.{is_by}
use Rattle.belief_theory.proofs.Order.{IsSpelt}
use Rattle.revisions.proofs.Tokens.{tokens_stay, classes_stay}
use Rattle.revisions.proofs.Locality.{Sees, AllSpelt, outcome_local}

-- a decision that is none of the old map is touched
pub first_touches : (a b c d e : Bool) → a ≡ false → (not a || not b || not c || not d || not e) ≡ true
first_touches false b c d e h = refl
first_touches true b c d e h = cc

pub firing : (o : Outcome) → is_firing o ≡ true → (ks : List Moment) × (o ≡ fires ks)
firing (fires ks) e = (ks, refl)
firing (blocked place) e = cc
firing (barred place) e = cc
firing beyond e = cc

-- the token of what is watched
pub watched_token : (s : Standing) (r : List ℕ) (x : Moment) → watches s r x ≡ true → (k : TokenRow Moment) × (token_of s x ≡ Some k) × (is_watched s r k ≡ true)
watched_token s r x h = by (token_of s x) refl h
  where
    by : (o : Option (TokenRow Moment)) → token_of s x ≡ o → (elim o as (λ _. Bool) [ None ↦ false | Some k ↦ is_watched s r k ]) ≡ true → (k : TokenRow Moment) × (token_of s x ≡ Some k) × (is_watched s r k ≡ true)
    by None e h = cc
    by (Some k) e h = (k, e, h)

pub token_watched : (s : Standing) (r : List ℕ) (x : Moment) (k : TokenRow Moment) → token_of s x ≡ Some k → is_watched s r k ≡ true → watches s r x ≡ true
token_watched s r x k e h = ap (λ (o : Option (TokenRow Moment)). elim o as (λ _. Bool) [ None ↦ false | Some k ↦ is_watched s r k ]) e ∙ h

module _ (old : Standing) (edit : Edit) (sound_old : IsSound old) (sound_new : IsSound (next_list old edit)) where
  abbrev new : Standing
  new = next_list old edit

  abbrev g : Revision
  g = revision (built old) (built (next_list old edit))

  pub of_occurs : (x : Moment) → IsOf g x → Occurs new x
  of_occurs (At p) h = h
  of_occurs (After t r) h = (of_occurs t h.0, h.1)

  pub occurs_of : (x : Moment) → Occurs new x → IsOf g x
  occurs_of (At p) h = h
  occurs_of (After t r) h = (occurs_of t h.0, h.1)

  spelt_in : (b : List Moment) → AreOf g b → (t : Moment) (r : List ℕ) → AllSpelt new (far_in new.premises) t r b
  spelt_in b are t r k at =
      let (x, there, e) = In-filter_map (token_of new) b k at in
      subst IsSpelt (sym (spot-token_of new x k e)) (spelt new sound_new.well_formed x (of_occurs x (are x (Contains-from_In b x there))))

  sees : (b c : List Moment) → AreOf g b → (t : Moment) (r : List ℕ) → IsOf g t
      → ((x : Moment) → g.early x ≤ℤ g.early t → g.reads t r x ≡ true → Contains b x → Contains c x) → Sees new (far_in new.premises) t r b c
  sees b c are t r of agree k own near at =
      let (x, there, e) = In-filter_map (token_of new) b k at in
      let is = spot-token_of new x k e in
      let here = Contains-from_In b x there in
      let near_x = subst (λ z. is_by (distance new (far_in new.premises)) z t ≡ true) is near in
      let by_t = (sound_timed new sound_new).in_order x t (of_occurs x (are x here)) (of_occurs t of) near_x in
      filter_map-In (token_of new) c x k (In-from_Contains c x (agree x by_t (token_watched new r x k e own) here)) e

  rests : (b c : List Moment) → AreOf g b → AreOf g c → (t : Moment) (r : List ℕ) → IsOf g t → Contains (g.rules t) r → AgreeFor g b c t r → g.outcome b t r ≡ g.outcome c t r
  rests b c are_b are_c t r of stands agree =
      outcome_local new (far_in new.premises) t r b c
      (sees b c are_b t r of (λ x by_t reads at. (agree x by_t reads).0 at))
      (sees c b are_c t r of (λ x by_t reads at. (agree x by_t reads).1 at))
      (spelt_in b are_b t r)

  -- ---- what is right

  right_in : (s : Standing) → IsSound s → (t : Moment) (r : List ℕ)
      → Contains (built s).believed (After t r)
      ↔ (Contains (built s).believed t × Contains (rules_at s t) r × (is_firing (outcome s (far_in s.premises) (built s).believed t r) ≡ true))
  right_in s sound t r =
      let right = believed_right s sound (After t r) in
      let exactly = fires_exactly s (far_in s.premises) (built s).believed t r in (
        (λ at. let f = right.0 at in let e = exactly.1 (f.in_time, f.free) in (f.believed, f.stands, ap is_firing e.1)),
        (λ h. let e = exactly.0 (firing (outcome s (far_in s.premises) (built s).believed t r) h.2) in right.1 (record { believed = h.0; stands = h.1; in_time = e.0; free = e.1 })),
      )

  right : (x : Moment) → Contains g.believed x ↔ Belongs g x
  right (At p) = believed_right new sound_new (At p)
  right (After t r) = right_in new sound_new t r

  -- a decision of the old map
  pub decided : (m : TimeMap) (t : Moment) (r : List ℕ) → Contains m.believed t → Contains (rules_at m.list t) r → is_decision m (t, r) ≡ true
  decided m t r at stands =
      In-list_any (λ (e : Moment × List ℕ). same_moment e.0 t && same_name e.1 r) (decisions m.list m.believed) (t, r)
      (flat_map-In (λ t. map (λ r. (t, r)) (rules_at m.list t)) m.believed t (t, r) (In-from_Contains m.believed t at) (map-In (λ r. (t, r)) (rules_at m.list t) r (In-from_Contains (rules_at m.list t) r stands)))
      (λ i. (Decides-same_moment t t).1 refl i && nat_list_eq_equiv.refl r i)

  new_touched : (t : Moment) (r : List ℕ) → g.was t r ≡ false → g.touched t r ≡ true
  new_touched t r e =
      first_touches (is_decision (built old) (t, r)) (old.horizon == new.horizon) (list_all (same_rivals old new) (read_by (rule_of new r)))
      (same_tokens (watched (built old) r) (watched (built new) r)) (same_gaps (built old) (built new) (watched_points (built new) t r)) e

  abbrev was_in : Moment → List ℕ → Type 0
  was_in t r = Contains (built old).believed t × Contains (rules_at old t) r

  was : (t : Moment) (r : List ℕ) → g.was t r ≡ true → was_in t r
  was t r e = was_decision (built old) t r e

  was_right : (t : Moment) (r : List ℕ) → Contains g.before (After t r) ↔ ((g.was t r ≡ true) × (is_firing (g.was_outcome t r) ≡ true))
  was_right t r =
      let right = right_in old sound_old t r in (
        (λ at. let h = right.0 at in (decided (built old) t r h.0 h.1, h.2)),
        (λ h. let stood = was t r h.0 in right.1 (stood.0, stood.1, h.1)),
      )

  -- the rule says the same in both lists
  pub text : (t : Moment) (r : List ℕ) → Contains (rules_at old t) r → Contains (rules_at new t) r → rule_of old r ≡ rule_of new r
  text t r before now =
      elim (one_way old edit) [
        | inl more ↦ found_within old new sound_new more t r sound_old before
        | inr fewer ↦ sym (found_within new old sound_old fewer t r sound_new now)
      ]

  -- a token of the old list that the rule watches by the new one it watches by the old one, where
  -- what it reads has the same rivals in both
  pub watched_back : (t : Moment) (r : List ℕ) (k : TokenRow Moment) → Contains (rules_at old t) r → Contains (rules_at new t) r → rule_of old r ≡ rule_of new r
      → ((f : List ℕ) → In f (read_by (rule_of new r)) → HaveSameRivals old new f) → HasClass old k → is_watched new r k ≡ true → is_watched old r k ≡ true
  watched_back t r k before now same rivals own h =
      let (f, at, bears) = list_any-In (λ fact. bears_on new fact k) (read_by (rule_of new r)) h in
      let at_old : In f (read_by (rule_of old r)) = subst (λ (x : RuleText). In f (read_by x)) (sym same) at in
      let class : class_of old f ≡ class_of new f = classes_stay old edit sound_old sound_new t r f before now at_old at in
      In-list_any (λ fact. bears_on old fact k) (read_by (rule_of old r)) f at_old (bears_alike old new f (rivals f at) k own class bears)

  moved_touched : (t : Moment) (r : List ℕ) (x : Moment) → Contains g.believed t → Contains (g.rules t) r → IsOf g x → IsNew g x ⊎ IsLost g x → g.reads t r x ≡ true → g.touched t r ≡ true
  moved_touched t r x at stands of moved reads = elim (cases_Bool (g.touched t r)) [ inl touched ↦ touched | inr not_touched ↦ absurd (never not_touched) ]
    where
      never : g.touched t r ≡ false → ⊥
      never e =
          let stood = untouched_stood (built old) (built new) t r e in
          let same = text t r stood.1 stands in
          let alike = untouched_alike (built old) (built new) t r same e in
          let (k, is, own) = watched_token new r x reads in
          elim moved [
            | inl n ↦
                let there : In k (watched (built new) r) = filter-In (is_watched new r) (believed_tokens (built new)) k (filter_map-In (token_of new) (built new).believed x k (In-from_Contains (built new).believed x n.now) is) own in
                let was_there = (In-filter (is_watched old r) (believed_tokens (built old)) k (alike.back k there)).0 in
                let (y, in_old, made) = In-filter_map (token_of old) (built old).believed k was_there in
                n.not_before (subst (Contains (built old).believed) (sym (spot-token_of old y k made) ∙ spot-token_of new x k is) (Contains-from_In (built old).believed y in_old))
            | inr l ↦
                let is_old : token_of old x ≡ Some k = tokens_stay old edit sound_old sound_new x (believed_occurs old sound_old x l.before) (of_occurs x of) ∙ is in
                let there : In k (believed_tokens (built old)) = filter_map-In (token_of old) (built old).believed x k (In-from_Contains (built old).believed x l.before) is_old in
                let own_old : is_watched old r k ≡ true = watched_back t r k stood.1 stands same (untouched_rivals (built old) (built new) t r e) (class_of_token (built old) k there) own in
                let now_there = (In-filter (is_watched new r) (believed_tokens (built new)) k (alike.into k (filter-In (is_watched old r) (believed_tokens (built old)) k there own_old))).0 in
                let (y, in_new, made) = In-filter_map (token_of new) (built new).believed k now_there in
                l.not_now (subst (Contains (built new).believed) (sym (spot-token_of new y k made) ∙ spot-token_of new x k is) (Contains-from_In (built new).believed y in_new))
          ]

  pub lawful : IsLawful (revision (built old) (built (next_list old edit)))
  lawful = record {
    not_before_start = λ x of. (sound_timed new sound_new).not_before_start x (of_occurs x of);
    later = λ t r of stands. later new (far_in new.premises) (sound_timed new sound_new) t r (of_occurs t of) stands;
    rests = rests;
    right = right;
    was_right = was_right;
    was_live = λ t r e. (was t r e).0;
    new_touched = new_touched;
    moved_touched = moved_touched;
  }
