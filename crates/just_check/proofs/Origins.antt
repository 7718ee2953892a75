-- Origins: when two are the same, what comes of them, and what is known under them.
use Rattle.std.proofs.Common.{◌≡◌, ◌≢◌, ◌∙◌, inl, inr, ℕ, Bool, true, false, not, ◌&&◌, cond, List, [], ◌∷◌, ◌++◌, refl, sym, ap, suc, ◌<◌, take, drop, get_or, length}
use Rattle.std.proofs.Math.Seq.{drop-cons}
use Rattle.std.proofs.lemmas.List.{take-append-drop}
use Rattle.std.specs.Prelude.{Option, Some, None, IsTrue, is_some, ◌↔◌, nat_eq}
use Rattle.std.specs.Bool.{Decides}
use Rattle.std.specs.Option.{option_eq, option_and_then}
use Rattle.std.proofs.lemmas.Bool.Decides.{eqb_tells}
use Rattle.tmm_model.specs.declared.point.PointName.TheVariants.{Begin}
use Rattle.tmm_model.specs.Moments.{Moment, After, along}
use Rattle.tmm_model.specs.Points.{same_name}
use Rattle.list_theory.proofs.Elements.{In, Contains-from_In, both}
use Rattle.walk_theory.proofs.Points.{same_name-is, same_name-self, tells}
use Rattle.spots.specs.Forest.{Forest, IsLive, IsOnce, moment_at}
use Rattle.spots.proofs.Nodes.{node_at, live_at, moment_at-is}
use Rattle.just_check.specs.declared.expected.Origin.{Origin}
use Rattle.just_check.specs.declared.expected.Expected.{Expected}
use Rattle.just_check.specs.Origins.{comes_of, comes_from, has_event, same_origin, entry_at, node_under, awaited, Awaits, SetsNode, Knows}

-- ---- the test by which origins are told apart

same_event-is : (a b : Option ℕ) → option_eq nat_eq a b ≡ true → a ≡ b
same_event-is None None e = refl
same_event-is None (Some y) e = cc
same_event-is (Some x) None e = cc
same_event-is (Some x) (Some y) e = elim (eqb_tells x y) [ inl same ↦ ap Some same.1 | inr apart ↦ absurd (let never : false ≡ true = sym apart.0 ∙ e in cc) ]

same_event-self : (a : Option ℕ) → option_eq nat_eq a a ≡ true
same_event-self None = refl
same_event-self (Some x) = elim (eqb_tells x x) [ inl same ↦ same.0 | inr apart ↦ absurd (apart.1 refl) ]

pub same_origin-is : (a b : Origin) → same_origin a b ≡ true → a ≡ b
same_origin-is a b e =
    let h = both (option_eq nat_eq a.event b.event) (same_name a.name b.name) e in
    let events = same_event-is a.event b.event h.0 in
    let names = same_name-is a.name b.name h.1 in
    λ i. record { event = events i; name = names i }

pub same_origin-self : (a : Origin) → same_origin a a ≡ true
same_origin-self a = ap (λ t. t && same_name a.name a.name) (same_event-self a.event) ∙ same_name-self a.name

pub Decides-same_origin : (a b : Origin) → Decides (same_origin a b) (a ≡ b)
Decides-same_origin a b = (same_origin-is a b, λ e. ap (same_origin a) (sym e) ∙ same_origin-self a)

-- ---- one entry set

module _ (old new : Expected) (o : Origin) (v : Option ℕ) (set : (p : Origin) → entry_at new p ≡ cond (same_origin o p) (Some v) (entry_at old p)) where
  pub set_own : entry_at new o ≡ Some v
  set_own = set o ∙ ap (λ t. cond t (Some v) (entry_at old o)) (same_origin-self o)

  pub set_other : (p : Origin) → p ≢ o → entry_at new p ≡ entry_at old p
  set_other p other = elim (tells same_origin Decides-same_origin o p) [
    | inl same ↦ absurd (other (sym same.1))
    | inr apart ↦ set p ∙ ap (λ t. cond t (Some v) (entry_at old p)) apart.0
  ]

  pub awaits_set : entry_at old o ≡ None → v ≡ None → Awaits old new o
  awaits_set none is = record { own = set_own ∙ ap Some is ∙ ap awaited (sym none); others = set_other }

  pub node_set : (x : ℕ) → v ≡ Some x → SetsNode old new o x
  node_set x is = record { own = set_own ∙ ap Some is; others = set_other }

pub none_from : {X : Type 0} (v : Option X) → is_some v ≡ false → v ≡ None
none_from None e = refl
none_from (Some x) e = cc

-- an entry without a node is awaited
pub awaits_none : (v : Option ℕ) (r : Bool) (w : Option (Option ℕ)) → is_some v ≡ not r → Some v ≡ w → IsTrue r ↔ (w ≡ Some None)
awaits_none None true w e is = ((λ h. sym is), (λ h. refl))
awaits_none None false w e is = absurd (cc)
awaits_none (Some x) true w e is = absurd (cc)
awaits_none (Some x) false w e is = ((λ h. absurd (cc)), (λ h. let never : Some (Some x) ≡ Some None = is ∙ h in absurd (cc)))

-- ---- what comes of origins

pub one_node : (f : Forest) → IsOnce f → (x y : ℕ) → IsLive f x → IsLive f y → moment_at f x ≡ moment_at f y → x ≡ y
one_node f once x y live_x live_y same =
    let (m, here) = node_at f x live_x in
    let (n, there) = node_at f y live_y in
    once x y m n here there (sym (moment_at-is f x m here) ∙ same ∙ moment_at-is f y n there)

-- one thing comes of one origin alone, where each occurrence has one node
pub one_origin : (f : Forest) → ((x y : ℕ) → IsLive f x → IsLive f y → moment_at f x ≡ moment_at f y → x ≡ y) → (a b : Origin) → has_event f a.event → has_event f b.event → comes_from f a ≡ comes_from f b → a ≡ b
one_origin f one a b at_a at_b same = let (events, names) = by a.event b.event a.name b.name at_a at_b same in λ i. record { event = events i; name = names i }
  where
    by : (x y : Option ℕ) (n m : List ℕ) → has_event f x → has_event f y → comes_of f x n ≡ comes_of f y m → (x ≡ y) × (n ≡ m)
    by None None n m live_x live_y e = (refl, (let g : Begin n ≡ Begin m = cc in cc))
    by None (Some y) n m live_x live_y e = absurd (cc)
    by (Some x) None n m live_x live_y e = absurd (cc)
    by (Some x) (Some y) n m live_x live_y e = (ap Some (one x y live_x live_y (cc)), cc)

-- ---- what is known of occurrences

pub under_is : (e : Expected) (o : Origin) (x : ℕ) → node_under e o ≡ Some x → entry_at e o ≡ Some (Some x)
under_is e o x h = by (entry_at e o) h
  where
    by : (v : Option (Option ℕ)) → option_and_then (λ (x : Option ℕ). x) v ≡ Some x → v ≡ Some (Some x)
    by None h = cc
    by (Some v) h = ap Some h

module _ (f : Forest) (b : List Moment) (e : Expected) (knows : Knows f b e) where
  -- the occurrence has a node
  pub node_for : (k : Moment) → In k b → (x : ℕ) × IsLive f x × (moment_at f x ≡ k)
  node_for k at = let (x, m, here, is) = knows.holds.all k (Contains-from_In b k at) in (x, live_at f x m here, moment_at-is f x m here ∙ is)

  pub known : (o : Origin) (x : ℕ) → node_under e o ≡ Some x → IsLive f x × (moment_at f x ≡ comes_from f o)
  known o x is = knows.nodes o x (under_is e o x is)

  -- what is not known is none of the occurrences
  pub unknown : (o : Origin) → has_event f o.event → node_under e o ≡ None → In (comes_from f o) b → ⊥
  unknown o event none at =
      let (x, live, is) = node_for (comes_from f o) at in
      let never : None ≡ Some x = sym none ∙ ap (option_and_then (λ (y : Option ℕ). y)) (knows.all o x event live is) in
      cc

  -- the rest of a way whose first node is known
  pub on_way : (k : Moment) (rs : List (List ℕ)) (i : ℕ) (r : List ℕ) → i < length rs → r ≡ get_or rs i r → along k rs ≡ along (After (along k (take i rs)) r) (drop (suc i) rs)
  on_way k rs i r below is = ap (along k) (sym parts) ∙ by k (take i rs)
    where
      parts : take i rs ++ r ∷ drop (suc i) rs ≡ rs
      parts = ap (λ l. take i rs ++ l) ((λ j. is j ∷ drop (suc i) rs) ∙ sym (drop-cons rs i r below)) ∙ take-append-drop i rs

      by : (t : Moment) (front : List (List ℕ)) → along t (front ++ r ∷ drop (suc i) rs) ≡ along (After (along t front) r) (drop (suc i) rs)
      by t [] = refl
      by t (q ∷ front) = by (After t q) front

  -- where the effects of effects are among the occurrences, so is what they come of
  pub closed_along : (k : Moment) (rest : List (List ℕ)) → In (along k rest) b → In k b
  closed_along k [] at = at
  closed_along k (r ∷ rest) at = knows.closed k r (closed_along (After k r) rest at)
