-- The beliefs of a sound list, and what they rest on.
use Rattle.std.proofs.Common.{◌≡◌, ◌∙◌, ℕ, true, ◌&&◌, List, [], ◌∷◌, ◌++◌, map, refl, sym, ap, subst, inl, inr, arith}
use Rattle.std.proofs.lemmas.Int.{ints}
use Rattle.std.specs.Prelude.{◌↔◌, Some, ℤ, ◌≤ℤ◌, ◌<ℤ◌}
use Rattle.std.specs.List.{Contains}
use Rattle.std.specs.List.Sorted.{IsStrictlySortedBy}
use Rattle.std.specs.Cmp.{int_cmp_is}
use Rattle.std.specs.Cmp.Lexicographic.{slice_cmp}
use Rattle.std.specs.Ordering.{nat_cmp, ordering_then, ordering_reverse}
use Rattle.std.specs.declared.cmp.Ordering.{Ordering}
use Rattle.std.specs.declared.cmp.Ordering.TheVariants.{Less, Greater}
use Rattle.tmm_model.specs.Beliefs.{rules_at, token_of, tokens, contradicts_in, holder}
use Rattle.belief_theory.specs.Outcomes.{outcome, fires}
use Rattle.tmm_model.specs.Maps.{built, order}
use Rattle.tmm_model.specs.Moments.{Moment, At, After, Distances, distance, early, occ_cmp, printed, rule_of}
use Rattle.tmm_model.specs.Points.{same_name}
use Rattle.tmm_model.specs.Reasons.{rests_on, Upholds, itself, through, IsWhy, Reason}
use Rattle.belief_theory.specs.Right.{Occurs, IsTimed, IsRight}
use Rattle.list_theory.specs.WellNamed.{IsSound}
use Rattle.tmm_model.specs.Standing.{Standing, far_in}
use Rattle.tmm_model.specs.Tokens.{is_by, lasts_to, supports}
use Rattle.list_theory.proofs.Elements.{In, both, In-from_Contains, Contains-from_In, In-filter_map, In-map, In-cases, In-right, each_in}
use Rattle.belief_theory.proofs.LevelRight.{beliefs_right}
use Rattle.belief_theory.proofs.OneRight.{one_right, occurs, later, spot-token_of}
use Rattle.belief_theory.proofs.Order.{total}
use Rattle.belief_theory.proofs.Outcomes.{fires_exactly, first_token_in}
use Rattle.belief_theory.proofs.Sound.{shortest, sound_rules}
use Rattle.belief_theory.proofs.Timed.{timed}
use Rattle.belief_theory.proofs.Upholding.{further}

pub sound_timed : (s : Standing) → IsSound s → IsTimed s (far_in s.premises)
sound_timed s sound = timed s (far_in s.premises) (shortest s sound) (sound_rules s sound)

pub believed_right : (s : Standing) → IsSound s → IsRight s (far_in s.premises) (built s).believed
believed_right s sound = beliefs_right s (far_in s.premises) (sound_timed s sound)

pub map_is_right : (s : Standing) → IsSound s
    → IsRight s (far_in s.premises) (built s).believed
    × ((b : List Moment) → IsRight s (far_in s.premises) b → (x : Moment) → Contains b x ↔ Contains (built s).believed x)
map_is_right s sound =
    (believed_right s sound, λ b right_b x. one_right s (far_in s.premises) (sound_timed s sound) s.horizon b (built s).believed right_b (believed_right s sound) x)

pub believed_occurs : (s : Standing) → IsSound s → (x : Moment) → Contains (built s).believed x → Occurs s x
believed_occurs s sound = occurs s (far_in s.premises) s.horizon (built s).believed (believed_right s sound)

pub fires_where_believed : (s : Standing) → IsSound s → (t : Moment) (r : List ℕ) → Contains (built s).believed t → Contains (rules_at s t) r
    → ((ks : List Moment) × (outcome s (far_in s.premises) (built s).believed t r ≡ fires ks)) ↔ Contains (built s).believed (After t r)
fires_where_believed s sound t r believed stands =
    let right = believed_right s sound (After t r) in
    let exactly = fires_exactly s (far_in s.premises) (built s).believed t r in (
      (λ h. let f = exactly.0 h in right.1 (record { believed = believed; stands = stands; in_time = f.0; free = f.1 })),
      (λ at. let f = right.0 at in exactly.1 (f.in_time, f.free)),
    )

-- ---- reasons

module _ (s : Standing) (far : Distances) (is_timed : IsTimed s far) (b : List Moment) (right : IsRight s far b) where
  -- a first supporter at t is believed, and no later than t
  supporter_by : (t : Moment) (fact : List ℕ) (x : Moment) → Contains b t → holder s far b fact t t ≡ Some x → Contains b x × (early s far x ≤ℤ early s far t)
  supporter_by t fact x at e =
      let (k, there, holds, is) = first_token_in s far b (supports (contradicts_in s) (distance s far) (tokens s b) fact t t) x e in
      let (y, in_b, made) = In-filter_map (token_of s) b k there in
      let same : y ≡ x = sym (spot-token_of s y k made) ∙ is in
      let believed : Contains b x = subst (Contains b) same (Contains-from_In b y in_b) in
      let near_k = (both (same_name k.fact fact) (is_by (distance s far) k.spot t) (both (same_name k.fact fact && is_by (distance s far) k.spot t) (lasts_to (contradicts_in s) (distance s far) (tokens s b) k t k.end) holds).0).1 in
      let near : is_by (distance s far) x t ≡ true = subst (λ z. is_by (distance s far) z t ≡ true) is near_k in
      (believed, is_timed.in_order x t (occurs s far s.horizon b right x believed) (occurs s far s.horizon b right t at) near)

pub earlier : (s : Standing) → IsSound s → (o x : Moment)
    → Contains (built s).believed o → Contains (rests_on (built s) o) x
    → Contains (built s).believed x × (early s (far_in s.premises) x <ℤ early s (far_in s.premises) o)
earlier s sound (At p) x at rests = absurd (In-from_Contains [] x rests)
earlier s sound (After t r) x at rests =
    let f = (believed_right s sound (After t r)).0 at in
    let after = later s (far_in s.premises) (sound_timed s sound) t r (believed_occurs s sound t f.believed) f.stands in
    elim (In-from_Contains (rests_on (built s) (After t r)) x rests) [
      | inl is ↦ subst (λ z. Contains (built s).believed z × (early s (far_in s.premises) z <ℤ early s (far_in s.premises) (After t r))) is (f.believed, after)
      | inr more ↦
          let (o, there, is) = In-filter_map (λ k. k) (map (λ fact. holder s (far_in s.premises) (built s).believed fact t t) (rule_of s r).given) x more in
          let (fact, _, found) = In-map (λ fact. holder s (far_in s.premises) (built s).believed fact t t) (rule_of s r).given o there in
          let (believed, by_t) = supporter_by s (far_in s.premises) (sound_timed s sound) (built s).believed (believed_right s sound) t fact x f.believed (found ∙ is) in
          (believed, chain (early s (far_in s.premises) x) (early s (far_in s.premises) t) (early s (far_in s.premises) (After t r)) by_t after)
    ]
  where
    chain : (a b c : ℤ) → a ≤ℤ b → b <ℤ c → a <ℤ c
    chain a b c h g = omega (arith, ints)

-- what upholds a belief is believed
upholder : (s : Standing) → IsSound s → (o x : Moment) → Upholds (built s) o x → Contains (built s).believed o → Contains (built s).believed x
upholder s sound o x itself at = at
upholder s sound o x (through {y = y} step rest) at = upholder s sound y x rest (earlier s sound o y at step).0

-- ---- order

-- what has an earlier date is before
before : (s : Standing) (far : Distances) (x y : Moment) → early s far x <ℤ early s far y → occ_cmp s far x y ≡ Less
before s far x y h = ap (λ r. ordering_then r (slice_cmp nat_cmp (printed x) (printed y))) (sym (int_cmp_is (early s far x) (early s far y) Less h))

-- in a rising list what stands behind is not before
behind : (cmp : Moment → Moment → Ordering) (front : List Moment) (y : Moment) (back : List Moment) → IsStrictlySortedBy cmp (front ++ y ∷ back) → (x : Moment) → In x back → cmp y x ≡ Less
unfolding IsStrictlySortedBy
behind cmp [] y back h x at = each_in (λ z. cmp y z ≡ Less) back h.0 x at
behind cmp (z ∷ front) y back h x at = behind cmp front y back h.1 x at

pub cited_before : (s : Standing) → IsSound s → (o : Moment) (lines : List Reason) → Contains (built s).believed o → (why : IsWhy (built s) o lines)
    → (front back : List Moment) (y : Moment) → why.occs ≡ front ++ y ∷ back
    → (x : Moment) → Contains (rests_on (built s) y) x → Contains front x
cited_before s sound o lines at why front back y parted x rests =
    let here : Contains why.occs y = subst (λ l. Contains l y) (sym parted) (Contains-from_In (front ++ y ∷ back) y (In-right front (y ∷ back) y (inl refl))) in
    let upholds = (why.all y).0 here in
    let is_earlier = (earlier s sound y x (upholder s sound o y upholds at) rests).1 in
    let there : Contains why.occs x = (why.all x).1 (further (built s) o y x upholds rests) in
    let less = before s (far_in s.premises) x y is_earlier in
    elim (In-cases front (y ∷ back) x (In-from_Contains (front ++ y ∷ back) x (subst (λ l. Contains l x) parted there))) [
      | inl h ↦ Contains-from_In front x h
      | inr h ↦ elim h [
        | inl is ↦ absurd (not_itself (early s (far_in s.premises) x) (early s (far_in s.premises) y) (ap (early s (far_in s.premises)) (sym is)) is_earlier)
        | inr later_ ↦
            let greater = behind (order (built s)) front y back (subst (IsStrictlySortedBy (order (built s))) parted why.in_order) x later_ in
            absurd (never (order (built s) x y) (order (built s) y x) less greater ((total s (far_in s.premises)).antisymm x y))
      ]
    ]
  where
    not_itself : (a b : ℤ) → a ≡ b → a <ℤ b → ⊥
    not_itself a b e h = omega (arith, ints)

    never : (a b : Ordering) → a ≡ Less → b ≡ Less → a ≡ ordering_reverse b → ⊥
    never a b e f g = let turned : Less ≡ Greater = sym e ∙ g ∙ ap ordering_reverse f in cc
