-- A decision that is not touched keeps its outcome.
use Rattle.std.proofs.Common.{◌≡◌, ◌∙◌, ℕ, Bool, true, false, not, ◌&&◌, ◌||◌, ◌==◌, List, [], ◌∷◌, ◌++◌, map, refl, sym, ap, subst, inl, inr}
use Rattle.std.specs.Prelude.{Option, Some, None, pos, negsuc, ◌+ℤ◌, int_le, filter}
use Rattle.std.specs.List.{Contains, list_any, list_all, filter_map}
use Rattle.std.specs.Option.{option_map, option_eq}
use Rattle.std.specs.Ordering.{on, is_gt, int_cmp, nat_cmp, ordering_then}
use Rattle.std.specs.Cmp.Lexicographic.{slice_cmp, bytes_decides}
use Rattle.std.specs.declared.cmp.Ordering.{Ordering}
use Rattle.std.proofs.lemmas.Bool.{eqb-true}
use Rattle.std.proofs.lemmas.Bool.Decides.{Decides-int_eq}
use Rattle.tmm_model.specs.declared.bound.Bound.{Bound}
use Rattle.tmm_model.specs.declared.bound.Bound.TheVariants.{Finite, Free}
use Rattle.tmm_model.specs.declared.point.PointName.TheVariants.{Start}
use Rattle.tmm_model.specs.declared.token.TokenRow.{TokenRow}
use Rattle.tmm_model.specs.Beliefs.{class_of, token_of, rules_at, contradicts_in, due, holder, supporters, against}
use Rattle.belief_theory.specs.Outcomes.{decisions, Outcome, beyond, tried, outcome}
use Rattle.tmm_model.specs.Bounds.{bound_at_most}
use Rattle.tmm_model.specs.Firsts.{earliest, first}
use Rattle.tmm_model.specs.Maps.{TimeMap, gap, order, believed_tokens}
use Rattle.tmm_model.specs.Moments.{Moment, At, RuleText, same_moment, read_by, rule_of, negated, printed}
use Rattle.tmm_model.specs.Points.{same_name}
use Rattle.tmm_model.specs.Tokens.{is_by, is_before, clips, cuts, lasts_to, supports}
use Rattle.belief_theory.specs.Touched.{same_bound, same_token, are_within, same_tokens, bears_on, is_watched, watched, watched_points, same_rivals, same_gaps, is_decision, is_touched}
use Rattle.list_theory.proofs.Elements.{In, both, Contains-from_In, list_any-In, In-list_any, In-filter, filter-In, In-filter_map, filter_map-In, In-map, map-In, In-left, In-right, In-cases, In-flat_map, list_all-In}
use Rattle.belief_theory.proofs.Firsts.{least_is, one_spot}
use Rattle.belief_theory.proofs.Moments.{Decides-same_moment}
use Rattle.belief_theory.proofs.Order.{IsSpelt, ordered}
use Rattle.belief_theory.proofs.Rivals.{HaveSameRivals, same_rivals_have, class_bears, contradicts_bears, contradicts_alike}
use Rattle.belief_theory.proofs.Watched.{class-token_of}

-- ---- points

abbrev points_among : Moment → List (TokenRow Moment) → List Moment
points_among t ks = At Start ∷ t ∷ map (λ k. k.spot) ks ++ filter_map (λ k. k.end) ks

begin_among : (t : Moment) (ks : List (TokenRow Moment)) (k : TokenRow Moment) → In k ks → In k.spot (points_among t ks)
begin_among t ks k at = inr (inr (In-left (map (λ k. k.spot) ks) (filter_map (λ k. k.end) ks) k.spot (map-In (λ k. k.spot) ks k at)))

end_among : (t : Moment) (ks : List (TokenRow Moment)) (k : TokenRow Moment) (e : Moment) → In k ks → k.end ≡ Some e → In e (points_among t ks)
end_among t ks k e at is = inr (inr (In-right (map (λ k. k.spot) ks) (filter_map (λ k. k.end) ks) e (filter_map-In (λ k. k.end) ks k e at is)))

among_more : (t : Moment) (ks ls : List (TokenRow Moment)) → ((k : TokenRow Moment) → In k ks → In k ls) → (p : Moment) → In p (points_among t ks) → In p (points_among t ls)
among_more t ks ls sub p (inl is) = inl is
among_more t ks ls sub p (inr (inl is)) = inr (inl is)
among_more t ks ls sub p (inr (inr at)) =
    elim (In-cases (map (λ k. k.spot) ks) (filter_map (λ k. k.end) ks) p at) [
      | inl h ↦ let (k, there, is) = In-map (λ k. k.spot) ks p h in subst (λ z. In z (points_among t ls)) is (begin_among t ls k (sub k there))
      | inr h ↦ let (k, there, is) = In-filter_map (λ k. k.end) ks p h in end_among t ls k p (sub k there) is
    ]

-- ---- two maps that are alike for a rule at t

pub record Alike (m n : TimeMap) (t : Moment) (r : List ℕ) : Type 0 where
  pub text : rule_of m.list r ≡ rule_of n.list r
  pub horizon : m.list.horizon ≡ n.list.horizon
  pub into : (k : TokenRow Moment) → In k (watched m r) → In k (watched n r)
  pub back : (k : TokenRow Moment) → In k (watched n r) → In k (watched m r)
  pub gaps : (p q : Moment) → In p (watched_points m t r) → In q (watched_points m t r) → gap m p q ≡ gap n p q
  -- watched tokens of which one is of a fact that the rule reads contradict each other in both or
  -- in neither
  pub contradict : (k c : TokenRow Moment) → In k (watched m r) → In c (watched m r) → In k.fact (read_by (rule_of m.list r)) → contradicts_in m.list k c ≡ contradicts_in n.list k c

turned : (m n : TimeMap) (t : Moment) (r : List ℕ) → Alike m n t r → Alike n m t r
turned m n t r a = record {
  text = sym a.text;
  horizon = sym a.horizon;
  into = a.back;
  back = a.into;
  gaps = λ p q at_p at_q. sym (a.gaps p q (among_more t (watched n r) (watched m r) a.back p at_p) (among_more t (watched n r) (watched m r) a.back q at_q));
  contradict = λ k c at_k at_c given. sym (a.contradict k c (a.back k at_k) (a.back c at_c) (subst (λ (x : RuleText). In k.fact (read_by x)) (sym a.text) given));
}

-- a believed token has the class of its fact
pub class_of_token : (m : TimeMap) (k : TokenRow Moment) → In k (believed_tokens m) → k.class ≡ class_of m.list k.fact
class_of_token m k at = let (x, _, e) = In-filter_map (token_of m.list) m.believed k at in class-token_of m.list x k e

-- a token that bears on an antecedent or an exception is watched
pub watches : (m : TimeMap) (r f : List ℕ) (k : TokenRow Moment) → In f (read_by (rule_of m.list r)) → In k (believed_tokens m) → bears_on m.list f k ≡ true → In k (watched m r)
watches m r f k given at bears =
    filter-In (is_watched m.list r) (believed_tokens m) k at (In-list_any (λ fact. bears_on m.list fact k) (read_by (rule_of m.list r)) f given bears)

pub watched_token : (m : TimeMap) (r : List ℕ) (k : TokenRow Moment) → In k (watched m r) → In k (believed_tokens m)
watched_token m r k at = (In-filter (is_watched m.list r) (believed_tokens m) k at).0

abbrev holds_at : TimeMap → Moment → List ℕ → TokenRow Moment → Bool
holds_at m t f k = supports (contradicts_in m.list) (gap m) (believed_tokens m) f t t k

module _ (m n : TimeMap) (t : Moment) (r : List ℕ) (a : Alike m n t r) (f : List ℕ) (given : In f (read_by (rule_of m.list r))) where
  given_there : In f (read_by (rule_of n.list r))
  given_there = subst (λ (x : RuleText). In f (read_by x)) a.text given

  -- a supporter of an antecedent or an exception is watched
  supporter_watched : (k : TokenRow Moment) → In k (believed_tokens m) → k.fact ≡ f → In k (watched m r)
  supporter_watched k at fact = watches m r f k given at (class_bears m.list f k (class_of_token m k at ∙ ap (class_of m.list) fact))

  abbrev at_t : In t (watched_points m t r)
  at_t = inr (inl refl)

  lasts_alike : (k : TokenRow Moment) → In k (watched m r) → k.fact ≡ f → (o : Option Moment) → k.end ≡ o → lasts_to (contradicts_in m.list) (gap m) (believed_tokens m) k t o ≡ true → lasts_to (contradicts_in n.list) (gap n) (believed_tokens n) k t o ≡ true
  lasts_alike k at fact (Some e) is h = sym (ap (λ g. bound_at_most g (negsuc 0)) (a.gaps e t (end_among t (watched m r) k e at is) at_t)) ∙ h
  lasts_alike k at fact None is h = by (list_any (cuts (contradicts_in n.list) (gap n) k t) (believed_tokens n)) refl
    where
      own : k.class ≡ class_of n.list f
      own = class_of_token n k (watched_token n r k (a.into k at)) ∙ ap (class_of n.list) fact

      found : list_any (cuts (contradicts_in n.list) (gap n) k t) (believed_tokens n) ≡ true → list_any (cuts (contradicts_in m.list) (gap m) k t) (believed_tokens m) ≡ true
      found e =
          let (c, there, cut) = list_any-In (cuts (contradicts_in n.list) (gap n) k t) (believed_tokens n) e in
          let one = both (clips (contradicts_in n.list) (gap n) k c) (is_by (gap n) c.spot t) cut in
          let two = both (contradicts_in n.list k c) (is_before (gap n) k.spot c.spot) one.0 in
          let here : In c (watched m r) = a.back c (watches n r f c given_there there (contradicts_bears n.list f k c fact own two.0)) in
          let differ : contradicts_in m.list k c ≡ true = a.contradict k c at here (subst (λ z. In z (read_by (rule_of m.list r))) (sym fact) given) ∙ two.0 in
          let c_point = begin_among t (watched m r) c here in
          let k_point = begin_among t (watched m r) k at in
          let before : is_before (gap m) k.spot c.spot ≡ true = ap (λ g. bound_at_most g (negsuc 0)) (a.gaps c.spot k.spot c_point k_point) ∙ two.1 in
          let near : is_by (gap m) c.spot t ≡ true = ap (λ g. bound_at_most g (pos 0)) (a.gaps t c.spot at_t c_point) ∙ one.1 in
          In-list_any (cuts (contradicts_in m.list) (gap m) k t) (believed_tokens m) c (watched_token m r c here) (λ i. (differ i && before i) && near i)

      by : (v : Bool) → list_any (cuts (contradicts_in n.list) (gap n) k t) (believed_tokens n) ≡ v → not v ≡ true
      by false e = refl
      by true e = let g : list_any (cuts (contradicts_in m.list) (gap m) k t) (believed_tokens m) ≡ true = found e in let u : not (list_any (cuts (contradicts_in m.list) (gap m) k t) (believed_tokens m)) ≡ true = h in cc

  fact_of : (k : TokenRow Moment) → holds_at m t f k ≡ true → k.fact ≡ f
  fact_of k h =
      (bytes_decides k.fact f).0
      (both (same_name k.fact f) (is_by (gap m) k.spot t) (both (same_name k.fact f && is_by (gap m) k.spot t) (lasts_to (contradicts_in m.list) (gap m) (believed_tokens m) k t k.end) h).0).0

  -- a supporter in the one map is one in the other
  support_alike : (k : TokenRow Moment) → In k (believed_tokens m) → holds_at m t f k ≡ true → In k (watched m r) × In k (believed_tokens n) × (holds_at n t f k ≡ true)
  support_alike k at h =
      let outer = both (same_name k.fact f && is_by (gap m) k.spot t) (lasts_to (contradicts_in m.list) (gap m) (believed_tokens m) k t k.end) h in
      let inner = both (same_name k.fact f) (is_by (gap m) k.spot t) outer.0 in
      let fact = fact_of k h in
      let here = supporter_watched k at fact in
      let near : is_by (gap n) k.spot t ≡ true = sym (ap (λ g. bound_at_most g (pos 0)) (a.gaps t k.spot at_t (begin_among t (watched m r) k here))) ∙ inner.1 in
      let lasting = lasts_alike k here fact k.end refl outer.1 in
      (here, watched_token n r k (a.into k here), λ i. (inner.0 i && near i) && lasting i)

  -- what is watched has the same order in both
  order_alike : (k c : TokenRow Moment) → In k (watched m r) → In c (watched m r) → order m k.spot c.spot ≡ order n k.spot c.spot
  order_alike k c at_k at_c =
      let early_k = a.gaps k.spot (At Start) (begin_among t (watched m r) k at_k) (inl refl) in
      let early_c = a.gaps c.spot (At Start) (begin_among t (watched m r) c at_c) (inl refl) in
      λ i. ordering_then (int_cmp (negated (early_k i)) (negated (early_c i))) (slice_cmp nat_cmp (printed k.spot) (printed c.spot))

abbrev by_begin : TimeMap → TokenRow Moment → TokenRow Moment → Ordering
by_begin m = on (λ k. k.spot) (order m)

abbrev AllSpelt : TimeMap → Type 0
AllSpelt m = (k : TokenRow Moment) → In k (believed_tokens m) → IsSpelt k.spot

module _ (m n : TimeMap) (t : Moment) (r : List ℕ) (a : Alike m n t r) (spelt_m : AllSpelt m) (spelt_n : AllSpelt n) (f : List ℕ) (given : In f (read_by (rule_of m.list r))) where
  -- **The first supporter of an antecedent or an exception is the same in both.**
  holder_alike : holder m.list m.far m.believed f t t ≡ holder n.list n.far n.believed f t t
  holder_alike = by (filter (holds_at m t f) (believed_tokens m)) refl (filter (holds_at n t f) (believed_tokens n)) refl
    where
      given_n : In f (read_by (rule_of n.list r))
      given_n = subst (λ (x : RuleText). In f (read_by x)) a.text given

      there : (k : TokenRow Moment) → In k (filter (holds_at m t f) (believed_tokens m)) → In k (watched m r) × In k (filter (holds_at n t f) (believed_tokens n))
      there k at =
          let (in_m, passes) = In-filter (holds_at m t f) (believed_tokens m) k at in
          let (here, in_n, holds) = support_alike m n t r a f given k in_m passes in
          (here, filter-In (holds_at n t f) (believed_tokens n) k in_n holds)

      back : (k : TokenRow Moment) → In k (filter (holds_at n t f) (believed_tokens n)) → In k (watched m r) × In k (filter (holds_at m t f) (believed_tokens m))
      back k at =
          let (in_n, passes) = In-filter (holds_at n t f) (believed_tokens n) k at in
          let (here, in_m, holds) = support_alike n m t r (turned m n t r a) f given_n k in_n passes in
          (a.back k here, filter-In (holds_at m t f) (believed_tokens m) k in_m holds)

      by : (xs : List (TokenRow Moment)) → filter (holds_at m t f) (believed_tokens m) ≡ xs → (ys : List (TokenRow Moment)) → filter (holds_at n t f) (believed_tokens n) ≡ ys
          → option_map (λ k. k.spot) (first (by_begin m) xs) ≡ option_map (λ k. k.spot) (first (by_begin n) ys)
      by [] e [] g = refl
      by [] e (y ∷ ys) g = absurd (subst (In y) e (back y (subst (In y) (sym g) (inl refl))).1)
      by (x ∷ xs) e [] g = absurd (subst (In x) g (there x (subst (In x) (sym e) (inl refl))).1)
      by (x ∷ xs) e (y ∷ ys) g =
          let live_m : (k : TokenRow Moment) → In k (x ∷ xs) → IsSpelt k.spot = λ k at. spelt_m k (In-filter (holds_at m t f) (believed_tokens m) k (subst (In k) (sym e) at)).0 in
          let live_n : (k : TokenRow Moment) → In k (y ∷ ys) → IsSpelt k.spot = λ k at. spelt_n k (In-filter (holds_at n t f) (believed_tokens n) k (subst (In k) (sym g) at)).0 in
          let one = least_is (ordered m.list m.far) x xs live_m in
          let two = least_is (ordered n.list n.far) y ys live_n in
          let k : TokenRow Moment = earliest (by_begin m) x xs in
          let c : TokenRow Moment = earliest (by_begin n) y ys in
          let (k_watched, k_there) = there k (subst (In k) (sym e) one.member) in
          let (c_watched, c_here) = back c (subst (In c) (sym g) two.member) in
          let k_first = one.below c (subst (In c) e c_here) in
          let c_first_n = two.below k (subst (In k) g k_there) in
          let c_first = ap is_gt (order_alike m n t r a f given c k c_watched k_watched) ∙ c_first_n in
          ap Some (one_spot (ordered m.list m.far) k.spot c.spot (live_m k one.member) (live_n c two.member) k_first c_first)

module _ (m n : TimeMap) (t : Moment) (r : List ℕ) (a : Alike m n t r) (spelt_m : AllSpelt m) (spelt_n : AllSpelt n) where
  all_alike : (facts : List (List ℕ)) → ((f : List ℕ) → In f facts → In f (read_by (rule_of m.list r))) → map (λ f. holder m.list m.far m.believed f t t) facts ≡ map (λ f. holder n.list n.far n.believed f t t) facts
  all_alike [] sub = refl
  all_alike (f ∷ facts) sub =
      let here = holder_alike m n t r a spelt_m spelt_n f (sub f (inl refl)) in
      let rest = all_alike facts (λ g at. sub g (inr at)) in
      λ i. here i ∷ rest i

  -- **The outcome is the same in both.**
  pub outcome_alike : outcome m.list m.far m.believed t r ≡ outcome n.list n.far n.believed t r
  outcome_alike =
      let date = a.gaps t (At Start) (inr (inl refl)) (inl refl) in
      let due_alike : due m.list m.far t r ≡ due n.list n.far t r = λ i. negated (date i) +ℤ (a.text i).lo in
      let found : supporters m.list m.far m.believed t r ≡ supporters n.list n.far n.believed t r =
      all_alike (rule_of m.list r).given (λ f at. In-left (rule_of m.list r).given (rule_of m.list r).exceptions f at)
      ∙ ap (λ (x : RuleText). map (λ f. holder n.list n.far n.believed f t t) x.given) a.text in
      let objected : against m.list m.far m.believed t r ≡ against n.list n.far n.believed t r =
      all_alike (rule_of m.list r).exceptions (λ f at. In-right (rule_of m.list r).given (rule_of m.list r).exceptions f at)
      ∙ ap (λ (x : RuleText). map (λ f. holder n.list n.far n.believed f t t) x.exceptions) a.text in
      λ i. elim (int_le (due_alike i) (pos (a.horizon i))) as (λ _. Outcome) [ false ↦ beyond | true ↦ tried (found i) (objected i) ]

-- ---- what the tests tell

same_bound_is : (x y : Bound) → same_bound x y ≡ true → x ≡ y
same_bound_is (Finite x) (Finite y) e = ap Finite ((Decides-int_eq x y).0 e)
same_bound_is (Finite x) Free e = cc
same_bound_is Free (Finite y) e = cc
same_bound_is Free Free e = refl

same_end : (x y : Option Moment) → option_eq same_moment x y ≡ true → x ≡ y
same_end None None e = refl
same_end None (Some y) e = cc
same_end (Some x) None e = cc
same_end (Some x) (Some y) e = ap Some ((Decides-same_moment x y).0 e)

same_token_is : (k c : TokenRow Moment) → same_token k c ≡ true → k ≡ c
same_token_is k c e =
    let one = both (same_moment k.spot c.spot && option_eq same_moment k.end c.end && same_name k.fact c.fact) (same_name k.class c.class) e in
    let two = both (same_moment k.spot c.spot && option_eq same_moment k.end c.end) (same_name k.fact c.fact) one.0 in
    let three = both (same_moment k.spot c.spot) (option_eq same_moment k.end c.end) two.0 in
    let spots = (Decides-same_moment k.spot c.spot).0 three.0 in
    let ends = same_end k.end c.end three.1 in
    let facts = (bytes_decides k.fact c.fact).0 two.1 in
    let classes = (bytes_decides k.class c.class).0 one.1 in
    λ i. record { spot = spots i; end = ends i; fact = facts i; class = classes i }

within : (xs ys : List (TokenRow Moment)) → are_within xs ys ≡ true → (k : TokenRow Moment) → In k xs → In k ys
within xs ys h k at =
    let (c, there, same) = list_any-In (same_token k) ys (list_all-In (λ k. list_any (same_token k) ys) xs h k at) in
    subst (λ z. In z ys) (sym (same_token_is k c same)) there

-- what holds of a decision that is not touched: it is one of the old map, the horizon is the same,
-- and so are the rivals of what its rule reads, the tokens that it watches and their distances
pub record IsUntouched (m n : TimeMap) (t : Moment) (r : List ℕ) : Type 0 where
  pub stood : is_decision m (t, r) ≡ true
  pub horizon : (m.list.horizon == n.list.horizon) ≡ true
  pub rivals : list_all (same_rivals m.list n.list) (read_by (rule_of n.list r)) ≡ true
  pub members : same_tokens (watched m r) (watched n r) ≡ true
  pub near : same_gaps m n (watched_points n t r) ≡ true

pub is_untouched : (m n : TimeMap) (t : Moment) (r : List ℕ) → is_touched m n (t, r) ≡ false → IsUntouched m n t r
is_untouched m n t r =
    by (is_decision m (t, r)) refl (m.list.horizon == n.list.horizon) refl (list_all (same_rivals m.list n.list) (read_by (rule_of n.list r))) refl
    (same_tokens (watched m r) (watched n r)) refl (same_gaps m n (watched_points n t r)) refl
  where
    by : (a : Bool) → is_decision m (t, r) ≡ a → (b : Bool) → (m.list.horizon == n.list.horizon) ≡ b → (c : Bool) → list_all (same_rivals m.list n.list) (read_by (rule_of n.list r)) ≡ c
        → (d : Bool) → same_tokens (watched m r) (watched n r) ≡ d → (e : Bool) → same_gaps m n (watched_points n t r) ≡ e
        → (not a || not b || not c || not d || not e) ≡ false → IsUntouched m n t r
    by true p true q true u true v true w h = record { stood = p; horizon = q; rivals = u; members = v; near = w }
    by true p true q true u true v false w h = cc
    by true p true q true u false v e w h = cc
    by true p true q false u d v e w h = cc
    by true p false q c u d v e w h = cc
    by false p b q c u d v e w h = cc

-- a decision of the old map
pub was_decision : (m : TimeMap) (t : Moment) (r : List ℕ) → is_decision m (t, r) ≡ true → Contains m.believed t × Contains (rules_at m.list t) r
was_decision m t r h =
    let (d, at, same) = list_any-In (λ e. same_moment e.0 t && same_name e.1 r) (decisions m.list m.believed) h in
    let (u, in_b, here) = In-flat_map (λ t. map (λ r. (t, r)) (rules_at m.list t)) m.believed d at in
    let (q, stands, is) = In-map (λ r. (u, r)) (rules_at m.list u) d here in
    let tests = both (same_moment d.0 t) (same_name d.1 r) same in
    let one : u ≡ t = ap (λ x. x.0) is ∙ (Decides-same_moment d.0 t).0 tests.0 in
    let two : q ≡ r = ap (λ x. x.1) is ∙ (bytes_decides d.1 r).0 tests.1 in (
      subst (Contains m.believed) one (Contains-from_In m.believed u in_b),
      subst (λ z. Contains (rules_at m.list z) r) one (subst (Contains (rules_at m.list u)) two (Contains-from_In (rules_at m.list u) q stands)),
    )

-- then what its rule reads has the same rivals in both lists
pub untouched_rivals : (m n : TimeMap) (t : Moment) (r : List ℕ) → is_touched m n (t, r) ≡ false → (f : List ℕ) → In f (read_by (rule_of n.list r)) → HaveSameRivals m.list n.list f
untouched_rivals m n t r h f given =
    same_rivals_have m.list n.list f (list_all-In (same_rivals m.list n.list) (read_by (rule_of n.list r)) (is_untouched m n t r h).rivals f given)

-- **Where a decision is not touched, the two maps are alike for it**, if its rule says the same in
-- both.
pub untouched_alike : (m n : TimeMap) (t : Moment) (r : List ℕ) → rule_of m.list r ≡ rule_of n.list r → is_touched m n (t, r) ≡ false → Alike m n t r
untouched_alike m n t r text h =
    let u = is_untouched m n t r h in
    let members = both (are_within (watched m r) (watched n r)) (are_within (watched n r) (watched m r)) u.members in
    let into = within (watched m r) (watched n r) members.0 in
    let back = within (watched n r) (watched m r) members.1 in
    record {
      text = text;
      horizon = eqb-true m.list.horizon n.list.horizon u.horizon;
      into = into;
      back = back;
      gaps = λ p q at_p at_q.
          same_bound_is (gap m p q) (gap n p q)
          (list_all-In (λ q. same_bound (gap m p q) (gap n p q)) (watched_points n t r)
          (list_all-In (λ p. list_all (λ q. same_bound (gap m p q) (gap n p q)) (watched_points n t r)) (watched_points n t r) u.near p (among_more t (watched m r) (watched n r) into p at_p))
          q (among_more t (watched m r) (watched n r) into q at_q));
      contradict = λ k c at_k at_c given.
          contradicts_alike m.list n.list k.fact
          (untouched_rivals m n t r h k.fact (subst (λ (x : RuleText). In k.fact (read_by x)) text given))
          k c refl
          (class_of_token m k (watched_token m r k at_k)) (class_of_token n k (watched_token n r k (into k at_k)))
          (class_of_token m c (watched_token m r c at_c)) (class_of_token n c (watched_token n r c (into c at_c)));
    }

pub untouched_stood : (m n : TimeMap) (t : Moment) (r : List ℕ) → is_touched m n (t, r) ≡ false → Contains m.believed t × Contains (rules_at m.list t) r
untouched_stood m n t r h = was_decision m t r (is_untouched m n t r h).stood
