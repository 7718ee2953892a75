-- What upholds a believed occurrence can be told, line by line.
use Rattle.std.proofs.Common.{◌≡◌, ◌∙◌, ◌⊎◌, cond, ℕ, zero, suc, Bool, true, false, ◌&&◌, List, [], ◌∷◌, ◌++◌, map, filter, ℤ, pos, negsuc, ◌≤ℤ◌, ◌<ℤ◌, refl, sym, ap, subst, inl, inr, arith}
use Rattle.std.proofs.lemmas.Bool.{or_left, or_right, or_cases}
use Rattle.std.proofs.lemmas.Int.{ints}
use Rattle.std.proofs.lemmas.List.{map-append}
use Rattle.std.specs.Prelude.{◌↔◌, Option, Some, None}
use Rattle.std.specs.List.{AllByRecursion, AllZip, Contains, list_any}
use Rattle.std.specs.List.Sorted.{IsStrictlySortedBy}
use Rattle.std.specs.Option.{option_and_then}
use Rattle.std.specs.declared.cmp.Ordering.{Ordering}
use Rattle.std.specs.declared.cmp.Ordering.TheVariants.{Less}
use Rattle.tmm_model.specs.declared.bound.Bound.{Bound}
use Rattle.tmm_model.specs.declared.bound.Bound.TheVariants.{Finite, Free}
use Rattle.tmm_model.specs.declared.changes.WhyLine.{WhyLine}
use Rattle.tmm_model.specs.declared.changes.WhyLine.TheVariants.{Premise as PremiseLine, Order as OrderLine, Derived as DerivedLine}
use Rattle.tmm_model.specs.declared.point.PointName.TheVariants.{Start, Begin, End}
use Rattle.tmm_model.specs.declared.point.QueryPoint.TheVariants.{Declared, Derived}
use Rattle.tmm_model.specs.declared.token.TokenRow.{TokenRow}
use Rattle.tmm_model.specs.declared.walk.WalkStep.{WalkStep}
use Rattle.tmm_model.specs.declared.token.Shape.{Shape}
use Rattle.tmm_model.specs.declared.token.Shape.TheVariants.{Event as AnEvent, Persistence as APersistence, Span as ASpan}
use Rattle.tmm_model.specs.Beliefs.{is_of, token_at, token_of, tokens, end_of, contradicts_in, holder, supporters}
use Rattle.tmm_model.specs.Bounds.{bound_at_most, bound_plus, bound_less}
use Rattle.tmm_model.specs.Firsts.{sorted}
use Rattle.tmm_model.specs.Maps.{TimeMap, built, gap, order}
use Rattle.tmm_model.specs.Moments.{Moment, At, After, base, rules, rule_of, moment_of, moment_of_point, same_moment, high, low, apart, early}
use Rattle.tmm_model.specs.Paths.{IsLeastWalk, WalksIf, GivesPath}
use Rattle.tmm_model.specs.Points.{same_name, same_point, point_word}
use Rattle.tmm_model.specs.Reasons.{Reason, by_order, by_rule, supports_at, rests_on, Upholds, itself, through, belief_line, end_pair, pairs_of, pairs, IsOrderLine, AreReasons, IsWhy, reason_of}
use Rattle.tmm_model.specs.Standing.{Standing, far_in}
use Rattle.tmm_model.specs.Tokens.{is_by, lasts_to, supports}
use Rattle.walk_theory.proofs.Points.{same_point-is}
use Rattle.list_theory.specs.WellNamed.{IsSound}
use Rattle.list_theory.proofs.Distinct.{Distinct, Rising}
use Rattle.list_theory.proofs.Elements.{In, both, In-from_Contains, Contains-from_In, list_any-In, In-list_any, In-filter, filter-In, In-filter_map, In-flat_map, In-map}
use Rattle.belief_theory.proofs.Moments.{Decides-same_moment}
use Rattle.belief_theory.proofs.OneRight.{spot-token_of}
use Rattle.belief_theory.proofs.Order.{ordered}
use Rattle.belief_theory.proofs.Outcomes.{first_token_in}
use Rattle.belief_theory.proofs.Sorts.{sorted_in, sorted_rising}
use Rattle.belief_theory.proofs.Sound.{shortest}
use Rattle.belief_theory.proofs.SoundBeliefs.{sound_timed, believed_right, believed_occurs, earlier}
use Rattle.belief_theory.proofs.Spelt.{spelt}
use Rattle.belief_theory.proofs.Upholding.{reaches}
use Rattle.tmm_laws.proofs.ShownWalks.{HasPath, has_path}
use Rattle.tmm_laws.proofs.ToldValues.{IsSaid, all_said, IsOcc, tells_occs}

-- ---- least walks

less_finite : (x : Bound) (w d : ℤ) → bound_less x w ≡ Finite d → (y : ℤ) × (x ≡ Finite y)
less_finite (Finite y) w d e = (y, refl)
less_finite Free w d e = cc

plus_finite : (x y : Bound) (d : ℤ) → bound_plus x y ≡ Finite d → (z : ℤ) × (x ≡ Finite z)
plus_finite (Finite z) y d e = (z, refl)
plus_finite Free y d e = cc

module _ (s : Standing) (sound : IsSound s) where
  -- where two moments have a distance, so have their declared points
  base_way : (x y : Moment) (d : ℤ) → gap (built s) x y ≡ Finite d → (w : ℤ) × (far_in s.premises (base x) (base y) ≡ Finite w)
  base_way x y d e = by (same_point (base x) (base y)) refl e
    where
      by : (b : Bool) → same_point (base x) (base y) ≡ b
          → elim b as (λ _. Bound) [ true ↦ apart s (rules x) (rules y) | false ↦ bound_less (bound_plus (far_in s.premises (base x) (base y)) (high s (rules y))) (low s (rules x)) ] ≡ Finite d
          → (w : ℤ) × (far_in s.premises (base x) (base y) ≡ Finite w)
      by true is e = (pos 0, ap (far_in s.premises (base x)) (sym (same_point-is (base x) (base y) is)) ∙ (shortest s sound).itself (base x))
      by false is e =
          let one = less_finite (bound_plus (far_in s.premises (base x) (base y)) (high s (rules y))) (low s (rules x)) d e in
          plus_finite (far_in s.premises (base x) (base y)) (high s (rules y)) one.0 one.1

  -- **A least walk between their declared points can be shown.**
  pub least_walk : (x y : Moment) (d : ℤ) → gap (built s) x y ≡ Finite d → (steps : List WalkStep) × IsLeastWalk (built s) (base x) (base y) steps
  least_walk x y d e =
      let (w, is) = base_way x y d e in
      let way : HasPath s.premises (base x) (base y) w = has_path s sound (base x) (base y) w is in
      (way.steps, record { path = way.path; least = is ∙ ap (λ (z : ℤ). Finite z) (sym way.sums) })

  pub gives_path : (x y : Moment) → (steps : List WalkStep) × GivesPath (built s) x y (gap (built s) x y) steps
  gives_path x y =
      let (steps, walk) = by (gap (built s) x y) refl in
      (steps, record { bound = refl; walk = walk })
    where
      by : (f : Bound) → gap (built s) x y ≡ f → (steps : List WalkStep) × WalksIf (built s) x y f steps
      by (Finite d) is = least_walk x y d is
      by Free is = ([], refl)

-- ---- all that upholds a belief, each once and in order

without_repeats : List Moment → List Moment
without_repeats [] = []
without_repeats (x ∷ xs) = cond (list_any (same_moment x) xs) (without_repeats xs) (x ∷ without_repeats xs)

among : (xs : List Moment) (x : Moment) → list_any (same_moment x) xs ≡ true → In x xs
among xs x e = let (y, at, is) = list_any-In (same_moment x) xs e in subst (λ z. In z xs) (sym ((Decides-same_moment x y).0 is)) at

unrepeated_in : (xs : List Moment) (z : Moment) → In z (without_repeats xs) ↔ In z xs
unfolding without_repeats
unrepeated_in [] z = (λ at. at, λ at. at)
unrepeated_in (x ∷ xs) z = by (list_any (same_moment x) xs) refl (unrepeated_in xs z)
  where
    by : (b : Bool) → list_any (same_moment x) xs ≡ b → (In z (without_repeats xs) ↔ In z xs) → In z (cond b (without_repeats xs) (x ∷ without_repeats xs)) ↔ In z (x ∷ xs)
    by true is rest = (λ at. inr (rest.0 at), λ at. elim at [ inl e ↦ rest.1 (subst (λ y. In y xs) e (among xs x is)) | inr there ↦ rest.1 there ])
    by false is rest = (
      λ at. elim at [ inl e ↦ inl e | inr there ↦ inr (rest.0 there) ],
      λ at. elim at [ inl e ↦ inl e | inr there ↦ inr (rest.1 there) ],
    )

unrepeated : (xs : List Moment) → Distinct (without_repeats xs)
unfolding without_repeats
unrepeated [] = tt
unrepeated (x ∷ xs) = by (list_any (same_moment x) xs) refl (unrepeated xs)
  where
    by : (b : Bool) → list_any (same_moment x) xs ≡ b → Distinct (without_repeats xs) → Distinct (cond b (without_repeats xs) (x ∷ without_repeats xs))
    by true is rest = rest
    by false is rest = (
      (λ at. (let lie : false ≡ true = sym is ∙ In-list_any (same_moment x) xs x ((unrepeated_in xs x).0 at) ((Decides-same_moment x x).1 refl) in cc)),
      rest,
    )

each_after : {X : Type 0} (P : X → Type 0) (xs : List X) → ((x : X) → In x xs → P x) → AllByRecursion P xs
each_after P [] h = tt
each_after P (x ∷ xs) h = (h x (inl refl), each_after P xs (λ y at. h y (inr at)))

strictly : {X : Type 0} (cmp : X → X → Ordering) (xs : List X) → Rising cmp xs → IsStrictlySortedBy cmp xs
unfolding IsStrictlySortedBy
strictly cmp [] up = tt
strictly cmp (x ∷ xs) up = (each_after (λ y. cmp x y ≡ Less) xs up.0, strictly cmp xs up.1)

upheld : (m : TimeMap) (n : ℕ) (o x : Moment) → reaches m n o x ≡ true → Upholds m o x
upheld m zero o x e = subst (Upholds m o) ((Decides-same_moment o x).0 e) itself
upheld m (suc n) o x e = by (λ y. upheld m n y x) (or_cases (same_moment o x) (list_any (λ y. reaches m n y x) (rests_on m o)) e)
  where
    by : ((y : Moment) → reaches m n y x ≡ true → Upholds m y x) → (same_moment o x ≡ true) ⊎ (list_any (λ y. reaches m n y x) (rests_on m o) ≡ true) → Upholds m o x
    by again (inl is) = subst (Upholds m o) ((Decides-same_moment o x).0 is) itself
    by again (inr h) = let (y, at, r) = list_any-In (λ y. reaches m n y x) (rests_on m o) h in through (Contains-from_In (rests_on m o) y at) (again y r)

module _ (s : Standing) (sound : IsSound s) where
  abbrev date : Moment → ℤ
  date x = early s (far_in s.premises) x

  upholder : (o x : Moment) → Upholds (built s) o x → Contains (built s).believed o → Contains (built s).believed x
  upholder o x itself at = at
  upholder o x (through {y = y} step rest) at = upholder y x rest (earlier s sound o y at step).0

  not_negative : (x : Moment) → Contains (built s).believed x → pos 0 ≤ℤ date x
  not_negative x at = (sound_timed s sound).not_before_start x (believed_occurs s sound x at)

  -- each step leads to an earlier date, so that they are no more than the date tells
  reached : (n : ℕ) (o x : Moment) → Contains (built s).believed o → date o ≤ℤ pos n → Upholds (built s) o x → reaches (built s) n o x ≡ true
  reached zero o x at early_ itself = (Decides-same_moment o o).1 refl
  reached (suc n) o x at early_ itself = or_left (same_moment o o) (list_any (λ y. reaches (built s) n y o) (rests_on (built s) o)) ((Decides-same_moment o o).1 refl)
  reached zero o x at early_ (through {y = y} step rest) =
      let next = earlier s sound o y at step in absurd (never (date y) (date o) (not_negative y next.0) next.1 early_)
    where
      never : (a b : ℤ) → pos 0 ≤ℤ a → a <ℤ b → b ≤ℤ pos 0 → ⊥
      never a b h g k = omega (arith, ints)
  reached (suc n) o x at early_ (through {y = y} step rest) =
      let next = earlier s sound o y at step in
      or_right (same_moment o x) (list_any (λ z. reaches (built s) n z x) (rests_on (built s) o))
      (In-list_any (λ z. reaches (built s) n z x) (rests_on (built s) o) y (In-from_Contains (rests_on (built s) o) y step)
      (reached n y x next.0 (less (date y) (date o) n next.1 early_) rest))
    where
      less : (a b : ℤ) (n : ℕ) → a <ℤ b → b ≤ℤ pos (suc n) → a ≤ℤ pos n
      less a b n h g = omega (arith, ints)

  -- what upholds o, each once and in order, where the date of o is at most n
  upholders : ℕ → Moment → List Moment
  upholders n o = sorted (order (built s)) (without_repeats (filter (reaches (built s) n o) (built s).believed))

  module _ (n : ℕ) (o : Moment) (at : Contains (built s).believed o) (by_n : date o ≤ℤ pos n) where
    abbrev picked : List Moment
    picked = filter (reaches (built s) n o) (built s).believed

    picked_believed : (x : Moment) → In x (without_repeats picked) → Contains (built s).believed x
    picked_believed x there = Contains-from_In (built s).believed x (In-filter (reaches (built s) n o) (built s).believed x ((unrepeated_in picked x).0 there)).0

    in_upholders : (x : Moment) → In x (upholders n o) ↔ In x picked
    unfolding upholders
    in_upholders x =
        let one = sorted_in (ordered s (far_in s.premises)) (without_repeats picked) x in
        let two = unrepeated_in picked x in
        (λ there. two.0 (one.0 there), λ there. one.1 (two.1 there))

    upholder_believed : (x : Moment) → In x (upholders n o) → Contains (built s).believed x
    upholder_believed x there = Contains-from_In (built s).believed x (In-filter (reaches (built s) n o) (built s).believed x ((in_upholders x).0 there)).0

    all_there : (x : Moment) → Contains (upholders n o) x ↔ Upholds (built s) o x
    all_there x = (
      (λ there. upheld (built s) n o x (In-filter (reaches (built s) n o) (built s).believed x ((in_upholders x).0 (In-from_Contains (upholders n o) x there))).1),
      (λ h.
          Contains-from_In (upholders n o) x ((in_upholders x).1
          (filter-In (reaches (built s) n o) (built s).believed x (In-from_Contains (built s).believed x (upholder o x h at)) (reached n o x at by_n h)))),
    )

    rising : IsStrictlySortedBy (order (built s)) (upholders n o)
    unfolding upholders
    rising =
        strictly (order (built s)) (sorted (order (built s)) (without_repeats picked))
        (sorted_rising (ordered s (far_in s.premises)) (without_repeats picked)
        (λ x there. spelt s sound.well_formed x (believed_occurs s sound x (picked_believed x there))) (unrepeated picked))

-- ---- lines

-- a point that a question can name
abbrev IsPoint : Moment → Type 0
IsPoint x = IsSaid moment_of_point x

occ_point : (x : Moment) → IsOcc x → IsPoint x
occ_point x (o, is) = (Derived o, is)

end_point : (x : Moment) → IsOcc x → IsPoint (end_of x)
end_point (At (Begin k)) is = (Declared (End k), refl)
end_point (At Start) is = occ_point (At Start) is
end_point (At (End k)) is = occ_point (At (End k)) is
end_point (After t r) is = occ_point (After t r) is

-- the end of a token is that of its spot
its_end : (s : Standing) (x : Moment) (k : TokenRow Moment) (e : Moment) → token_of s x ≡ Some k → k.end ≡ Some e → e ≡ end_of x
its_end s x k e is end_is = by (is_of s x) is
  where
    by : (o : Option (Shape × List ℕ)) → elim o as (λ _. Option (TokenRow Moment)) [ None ↦ None | Some y ↦ token_at s x y ] ≡ Some k → e ≡ end_of x
    by None h = cc
    by (Some (AnEvent, f)) h = cc
    by (Some (APersistence, f)) h = cc
    by (Some (ASpan, f)) h = cc

at_most_finite : (x : Bound) (n : ℤ) → bound_at_most x n ≡ true → (d : ℤ) × (x ≡ Finite d)
at_most_finite (Finite d) n e = (d, refl)
at_most_finite Free n e = cc

module _ (s : Standing) (sound : IsSound s) where
  -- the pair can be told in order
  record CanBeTold (pair : Moment × Moment) : Type 0 where
    first : IsPoint pair.0
    second : IsPoint pair.1
    far : (d : ℤ) × (gap (built s) pair.1 pair.0 ≡ Finite d)

  orders_told : (ps : List (Moment × Moment)) → ((p : Moment × Moment) → In p ps → CanBeTold p) → (lines : List WhyLine) × AllZip (IsOrderLine (built s)) ps (map reason_of lines)
  orders_told [] each = ([], tt)
  orders_told (p ∷ ps) each =
      let can = each p (inl refl) in
      let (steps, walk) = least_walk s sound p.1 p.0 can.far.0 can.far.1 in
      let (lines, are) = orders_told ps (λ q at. each q (inr at)) in (
        OrderLine can.first.0 can.second.0 can.far.0 (record { items = steps; room = 0 }) ∷ lines,
        (
          record {
            far = can.far.0;
            steps = steps;
            shown = λ i. by_order (can.first.1 i) (can.second.1 i) can.far.0 steps;
            distance = can.far.1;
            walk = walk;
          },
          are,
        ),
      )

  -- a supporter at t, as a token
  record Supports (t k : Moment) : Type 0 where
    token : TokenRow Moment
    is : token_of s k ≡ Some token
    believed : Contains (built s).believed k
    near : is_by (gap (built s)) k t ≡ true
    lasts : lasts_to (contradicts_in s) (gap (built s)) (tokens s (built s).believed) token t token.end ≡ true

  supporter : (t : Moment) (r : List ℕ) (k : Moment) → In k (supports_at (built s) t r) → Supports t k
  supporter t r k at =
      let b = (built s).believed in
      let far = far_in s.premises in
      let hold : List ℕ → Option Moment = λ fact. holder s far b fact t t in
      let (o, there, is) = In-filter_map (λ k. k) (supporters s far b t r) k at in
      let (fact, _, found) = In-map hold (rule_of s r).given o there in
      let (row, among_b, holds, spot) = first_token_in s far b (supports (contradicts_in s) (gap (built s)) (tokens s b) fact t t) k (found ∙ is) in
      let (y, in_b, made) = In-filter_map (token_of s) b row among_b in
      let same : y ≡ k = sym (spot-token_of s y row made) ∙ spot in
      let parts = both (same_name row.fact fact && is_by (gap (built s)) row.spot t) (lasts_to (contradicts_in s) (gap (built s)) (tokens s b) row t row.end) holds in
      let near = (both (same_name row.fact fact) (is_by (gap (built s)) row.spot t) parts.0).1 in
      record {
        token = row;
        is = subst (λ z. token_of s z ≡ Some row) same made;
        believed = subst (Contains b) same (Contains-from_In b y in_b);
        near = subst (λ z. is_by (gap (built s)) z t ≡ true) spot near;
        lasts = parts.1;
      }

  occ_of : (x : Moment) → Contains (built s).believed x → IsOcc x
  occ_of x at = tells_occs s sound x (In-from_Contains (built s).believed x at)

  pairs_told : (t k : Moment) → Contains (built s).believed t → Supports t k → (p : Moment × Moment) → In p (pairs_of (built s) t k) → CanBeTold p
  pairs_told t k at_t su p (inl is) =
      subst CanBeTold is (record {
        first = occ_point k (occ_of k su.believed);
        second = occ_point t (occ_of t at_t);
        far = at_most_finite (gap (built s) t k) (pos 0) su.near;
      })
  pairs_told t k at_t su p (inr at) =
      by su.token.end refl (subst (λ (o : Option (TokenRow Moment)). In p (end_pair (built s) t (option_and_then (λ row. row.end) o))) su.is at)
    where
      by : (o : Option Moment) → su.token.end ≡ o → In p (end_pair (built s) t o) → CanBeTold p
      by None is none = absurd none
      by (Some e) is (inl one) =
          let lasts : lasts_to (contradicts_in s) (gap (built s)) (tokens s (built s).believed) su.token t (Some e) ≡ true =
          subst (λ (o : Option Moment). lasts_to (contradicts_in s) (gap (built s)) (tokens s (built s).believed) su.token t o ≡ true) is su.lasts in
          subst CanBeTold one (record {
            first = occ_point t (occ_of t at_t);
            second = subst IsPoint (sym (its_end s k su.token e su.is is)) (end_point k (occ_of k su.believed));
            far = at_most_finite (gap (built s) e t) (negsuc 0) lasts;
          })
      by (Some e) is (inr none) = absurd none

  -- ---- the lines of one occurrence

  each_pair : (x : Moment) → Contains (built s).believed x → (p : Moment × Moment) → In p (pairs (built s) x) → CanBeTold p
  each_pair (At q) at p none = absurd none
  each_pair (After t r) at p there =
      let f = (believed_right s sound (After t r)).0 at in
      let (k, among_them, here) = In-flat_map (pairs_of (built s) t) (supports_at (built s) t r) p there in
      pairs_told t k f.believed (supporter t r k among_them) p here

  own_line : (x : Moment) → Contains (built s).believed x → IsSaid reason_of (belief_line (built s) x)
  own_line (At q) at = (PremiseLine (point_word q), refl)
  own_line (After t r) at =
      let f = (believed_right s sound (After t r)).0 at in
      let (occ, occ_is) = occ_of (After t r) at in
      let (trigger, trigger_is) = occ_of t f.believed in
      let (ks, ks_are) = all_said moment_of (supports_at (built s) t r) (λ k there. occ_of k (supporter t r k there).believed) in (
        DerivedLine occ r trigger (record { items = ks; room = 0 }) (record { items = (rule_of s r).exceptions }),
        λ i. by_rule (occ_is i) r (trigger_is i) (ks_are i) (rule_of s r).exceptions,
      )

  told : (xs : List Moment) → ((x : Moment) → In x xs → Contains (built s).believed x) → (lines : List WhyLine) × AreReasons (built s) xs (map reason_of lines)
  told [] each = ([], refl)
  told (x ∷ xs) each =
      let at = each x (inl refl) in
      let (orders, are) = orders_told (pairs (built s) x) (each_pair x at) in
      let (own, is) = own_line x at in
      let (rest, reasons) = told xs (λ y there. each y (inr there)) in (
        orders ++ own ∷ rest,
        (
          map reason_of orders,
          map reason_of rest,
          map-append reason_of orders (own ∷ rest) ∙ ap (λ (line : Reason). map reason_of orders ++ line ∷ map reason_of rest) is,
          are,
          reasons,
        ),
      )

  -- **The reasons of a believed occurrence can be told.**
  pub why_said : (o : Moment) → Contains (built s).believed o → (lines : List WhyLine) × IsWhy (built s) o (map reason_of lines)
  why_said o at = by (date s sound o) refl
    where
      with_date : (n : ℕ) → date s sound o ≤ℤ pos n → (lines : List WhyLine) × IsWhy (built s) o (map reason_of lines)
      with_date n by_n =
          let (lines, are) = told (upholders s sound n o) (upholder_believed s sound n o at by_n) in
          (lines, record { occs = upholders s sound n o; all = all_there s sound n o at by_n; in_order = rising s sound n o at by_n; told = are })

      by : (d : ℤ) → date s sound o ≡ d → (lines : List WhyLine) × IsWhy (built s) o (map reason_of lines)
      by (pos n) is = with_date n (omega (arith, ints, is))
      by (negsuc n) is = with_date 0 (omega (arith, ints, is))
