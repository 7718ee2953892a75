-- What a withdrawal leaves.
use Rattle.std.proofs.Common.{◌≡◌, ◌∙◌, ℕ, Bool, true, false, not, ◌||◌, List, [], ◌∷◌, ◌++◌, Option, Some, None, filter, refl, sym, ap, subst, inl, inr}
use Rattle.std.proofs.lemmas.Bool.{or_left, or_right}
use Rattle.std.specs.Prelude.{◌⊎◌}
use Rattle.std.specs.List.{Contains}
use Rattle.tmm_model.specs.declared.point.PointName.TheVariants.{Begin}
use Rattle.tmm_model.specs.Moments.{Moment, At, After, along, rules, base, same_moment}
use Rattle.tmm_model.specs.Standing.{Standing}
use Rattle.list_theory.proofs.Elements.{In-from_Contains, Contains-from_In, In-filter, filter-In}
use Rattle.belief_theory.proofs.Moments.{along-append, along-push, rules-along, base-along, Decides-same_moment}
use Rattle.dist_net.specs.Net.{Net}
use Rattle.spots.specs.Forest.{Forest, Member, member, moment, rules_of, IsBelow, Withdraws, IsOnce}
use Rattle.spots.specs.OfLists.{IsForestOf, HasOccurrences}
use Rattle.spots.proofs.Nodes.{rules-moment, base-moment}
use Rattle.revisions.specs.Steps.{IsUnder}
use Rattle.joined.specs.Nodes.{Leaves}

-- ---- what stands below

under_itself : (x : Moment) → IsUnder x x
under_itself (At p) = refl
under_itself (After t r) = inl refl

under_along : (x y : Moment) (rs : List (List ℕ)) → IsUnder x y → IsUnder x (along y rs)
under_along x y [] h = h
under_along x y (r ∷ rs) h = under_along x (After y r) rs (inr h)

-- what stands below is led to by further rules
under_rest : (x y : Moment) → IsUnder x y → (rs : List (List ℕ)) × (y ≡ along x rs)
under_rest x (At p) h = ([], h)
under_rest x (After t r) (inl e) = ([], e)
under_rest x (After t r) (inr h) = let (rs, e) = under_rest x t h in (rs ++ r ∷ [], ap (λ z. After z r) e ∙ sym (along-push x rs r))

pub below_under : (m n : Member) → IsBelow m n → IsUnder (moment m) (moment n)
below_under m n (root, rest, is) =
    let led : moment n ≡ along (moment m) rest = (λ i. along (At (Begin (sym root i))) (is i)) ∙ along-append (At (Begin m.root)) (rules_of m) rest in
    subst (IsUnder (moment m)) (sym led) (under_along (moment m) (moment m) rest (under_itself (moment m)))

pub under_below : (m n : Member) → IsUnder (moment m) (moment n) → IsBelow m n
under_below m n h =
    let (rest, e) = under_rest (moment m) (moment n) h in
    let bases : Begin n.root ≡ Begin m.root = sym (base-moment n) ∙ ap base e ∙ base-along (moment m) rest ∙ base-moment m in
    let root : m.root ≡ n.root = cc in
    (root, rest, sym (rules-moment n) ∙ ap rules e ∙ rules-along (moment m) rest ∙ ap (λ rs. rs ++ rest) (rules-moment m))

-- ---- a test of it

abbrev is_under : Moment → Moment → Bool
is_under x (At p) = same_moment (At p) x
is_under x (After t r) = same_moment (After t r) x || is_under x t

either : (a b : Bool) → (a || b) ≡ true → (a ≡ true) ⊎ (b ≡ true)
either true b h = inl refl
either false b h = inr h

tells_under : (x y : Moment) → is_under x y ≡ true → IsUnder x y
tells_under x (At p) h = (Decides-same_moment (At p) x).0 h
tells_under x (After t r) h = elim (either (same_moment (After t r) x) (is_under x t) h) [ inl same ↦ inl ((Decides-same_moment (After t r) x).0 same) | inr rest ↦ inr (tells_under x t rest) ]

under_told : (x y : Moment) → IsUnder x y → is_under x y ≡ true
under_told x (At p) h = (Decides-same_moment (At p) x).1 h
under_told x (After t r) (inl same) = or_left (same_moment (After t r) x) (is_under x t) ((Decides-same_moment (After t r) x).1 same)
under_told x (After t r) (inr h) = or_right (same_moment (After t r) x) (is_under x t) (under_told x t h)

abbrev is_apart : Moment → Moment → Bool
is_apart x y = not (is_under x y)

apart_or : (x y : Moment) → IsUnder x y ⊎ (is_apart x y ≡ true)
apart_or x y = by (is_under x y) refl
  where
    by : (v : Bool) → is_under x y ≡ v → IsUnder x y ⊎ (is_apart x y ≡ true)
    by true e = inl (tells_under x y e)
    by false e = inr (ap not e)

not_under : (x y : Moment) → is_apart x y ≡ true → IsUnder x y → ⊥
not_under x y h under = let e : false ≡ true = sym (ap not (under_told x y under)) ∙ h in cc

-- ---- what is left

module _ (s : Standing) (net : Net) (b : List Moment) (old new : Forest) (m : Member) (seen : IsForestOf s net old) (holds : HasOccurrences b old) (gone : Withdraws old new m) where
  stays : (y : ℕ) (n : Member) → member old y ≡ Some n → is_apart (moment m) (moment n) ≡ true → member new y ≡ Some n
  stays y n at apart = gone.others y n at (λ below. not_under (moment m) (moment n) apart (below_under m n below))

  -- each node that is left was there, and does not stand below
  pub stood : (y : ℕ) (n : Member) → member new y ≡ Some n → (member old y ≡ Some n) × (is_apart (moment m) (moment n) ≡ true)
  stood y n at = by (member old y) refl
    where
      by : (o : Option Member) → member old y ≡ o → (member old y ≡ Some n) × (is_apart (moment m) (moment n) ≡ true)
      by None e = let f : None ≡ Some n = sym (gone.none y e) ∙ at in cc
      by (Some o) e = elim (apart_or (moment m) (moment o)) [
        | inl under ↦ (let f : None ≡ Some n = sym (gone.gone y o e (under_below m o under)) ∙ at in cc)
        | inr apart ↦ (
            let f : Some o ≡ Some n = sym (stays y o e apart) ∙ at in
            let same : o ≡ n = cc in
            (e ∙ f, subst (λ z. is_apart (moment m) (moment z) ≡ true) same apart))
      ]

  once : IsOnce new
  once x y n o at_x at_y same = holds.once x y n o (stood x n at_x).0 (stood y o at_y).0 same

  abbrev left : List Moment
  left = filter (is_apart (moment m)) b

  left_in : (x : Moment) → Contains b x → is_apart (moment m) x ≡ true → Contains (filter (is_apart (moment m)) b) x
  left_in x at apart = Contains-from_In left x (filter-In (is_apart (moment m)) b x (In-from_Contains b x at) apart)

  left_of : (x : Moment) → Contains (filter (is_apart (moment m)) b) x → Contains b x × (is_apart (moment m) x ≡ true)
  left_of x at = let h = In-filter (is_apart (moment m)) b x (In-from_Contains left x at) in (Contains-from_In b x h.0, h.1)

  held : HasOccurrences (filter (is_apart (moment m)) b) new
  held = record {
    own = λ y n at. (let h = stood y n at in left_in (moment n) (holds.own y n h.0) h.1);
    all = λ x at.
        let h = left_of x at in
        let (y, n, there, is) = holds.all x h.0 in
        (y, n, stays y n there (subst (λ z. is_apart (moment m) z ≡ true) (sym is) h.1), is);
    once = once;
  }

  pub leaves : Leaves s net b new m
  leaves = record {
    nodes = left;
    seen = record { network = seen.network; members = λ y n at. seen.members y n (stood y n at).0; once = once };
    holds = held;
    out = λ x at. (let h = left_of x at in (h.0, not_under (moment m) x h.1));
    rest = λ x at. elim (apart_or (moment m) x) [ inl under ↦ inr under | inr apart ↦ inl (left_in x at apart) ];
  }
