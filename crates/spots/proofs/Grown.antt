-- How what a tree holds grows with an occurrence that enters.
use Rattle.std.proofs.Common.{◌≡◌, ◌≢◌, ◌∙◌, ◌⊎◌, inl, inr, ℕ, zero, suc, ◌<◌, true, List, [], ◌∷◌, ◌++◌, take, drop, length, refl, sym, ap, subst, arith}
use Rattle.std.specs.Prelude.{Option, Some, None, slice_get}
use Rattle.std.specs.List.{Contains, filter_map}
use Rattle.std.proofs.lemmas.Bool.Decides.{eqb_tells}
use Rattle.std.proofs.lemmas.List.Elements.{Contains-append_left, Contains-append_cases}
use Rattle.tmm_model.specs.declared.point.PointName.{PointName}
use Rattle.tmm_model.specs.declared.point.PointName.TheVariants.{Begin, End}
use Rattle.tmm_model.specs.declared.premise.Premise.{Premise}
use Rattle.tmm_model.specs.declared.premise.Premise.TheVariants.{Class, Kind, Point, Event, Token, Span, Dist, Rule, Protect, Against}
use Rattle.tmm_model.specs.declared.token.Shape.TheVariants.{Event as AnEvent, Persistence as APersistence, Span as ASpan}
use Rattle.tmm_model.specs.Beliefs.{as_root, root_of, roots}
use Rattle.tmm_model.specs.Moments.{Moment, At, base}
use Rattle.tmm_model.specs.Points.{same_name}
use Rattle.list_theory.specs.WellNamed.{IsSound, AllFollow}
use Rattle.tmm_model.specs.Sorts.{class_in}
use Rattle.tmm_model.specs.Standing.{Standing, name_of, points_of}
use Rattle.list_theory.proofs.Elements.{In, In-from_Contains, Contains-from_In, In-filter_map, filter_map-In, In-right}
use Rattle.belief_theory.proofs.Rivals.{known_class}
use Rattle.list_theory.proofs.KnownNames.{found, fresh}
use Rattle.belief_theory.proofs.Moments.{base-along}
use Rattle.list_theory.proofs.WellNamed.{AllFollow-append}
use Rattle.std.specs.Cmp.Lexicographic.{nat_list_eq_equiv}
use Rattle.dist_net.specs.Net.{Net}
use Rattle.net_theory.specs.Fits.{IsNetOf}
use Rattle.net_theory.specs.Represents.{IsNumberOf}
use Rattle.spots.specs.Forest.{Forest, Member, member, moment, rules_of, Enters, IsNoRoot, IsOnce, root_member}
use Rattle.spots.specs.OfLists.{IsMemberOf, IsForestOf, HasOccurrences}
use Rattle.spots.specs.Growing.{Adds, AddsRootAt, AddsRoot}
use Rattle.premise_list.proofs.Facts.{fact_known}
use Rattle.spots.proofs.Effects.{point_there}

-- ---- an element of a list, and what is before it

pub taken : {X : Type 0} (xs : List X) (i : ℕ) (x : X) → slice_get xs i ≡ Some x → take (suc i) xs ≡ take i xs ++ x ∷ []
taken [] i x e = absurd (cc (e))
taken (y ∷ xs) zero x e = (let same : y ≡ x = cc in λ j. same j ∷ [])
taken (y ∷ xs) (suc i) x e = ap (λ l. y ∷ l) (taken xs i x e)

pub parted : {X : Type 0} (xs : List X) (i : ℕ) (x : X) → slice_get xs i ≡ Some x → take i xs ++ x ∷ drop (suc i) xs ≡ xs
parted [] i x e = absurd (cc (e))
parted (y ∷ xs) zero x e = (let same : x ≡ y = cc in λ j. same j ∷ xs)
parted (y ∷ xs) (suc i) x e = ap (λ l. y ∷ l) (parted xs i x e)

pub not_none : {X : Type 0} (xs : List X) (i : ℕ) → slice_get xs i ≡ None → i < length xs → ⊥
not_none [] i e below = omega arith
not_none (x ∷ xs) zero e below = cc
not_none (x ∷ xs) (suc i) e below = not_none xs i e (omega arith)

pub stands : {X : Type 0} (xs : List X) (i : ℕ) (x : X) → slice_get xs i ≡ Some x → In x xs
stands xs i x e = subst (In x) (parted xs i x e) (In-right (take i xs) (x ∷ drop (suc i) xs) x (inl refl))

-- ---- an occurrence that enters

no_node : (f : Forest) → ((x : ℕ) → member f x ≡ None) → (x : ℕ) (m : Member) → member f x ≡ Some m → ⊥
no_node f none x m at = let e : None ≡ Some m = sym (none x) ∙ at in cc

-- a tree without nodes
pub seen_first : (s : Standing) (net : Net) (f : Forest) → IsNetOf s net → ((x : ℕ) → member f x ≡ None) → IsForestOf s net f
seen_first s net f network none = record {
  network = network;
  members = λ x m at. absurd (no_node f none x m at);
  once = λ x y m n at_x at_y same. absurd (no_node f none x m at_x);
}

pub holds_first : (f : Forest) → ((x : ℕ) → member f x ≡ None) → HasOccurrences [] f
holds_first f none = record {
  own = λ x m at. absurd (no_node f none x m at);
  all = λ k at. absurd (In-from_Contains [] k at);
  once = λ x y m n at_x at_y same. absurd (no_node f none x m at_x);
}

module _ (s : Standing) (net : Net) (old new : Forest) (x : ℕ) (k : Moment) (adds : Adds s net.names old new x k) where
  -- a node is the one that enters, or was there
  pub node_cases : (y : ℕ) (m : Member) → member new y ≡ Some m → ((y ≡ x) × (m ≡ adds.node)) ⊎ (member old y ≡ Some m)
  node_cases y m at = elim (eqb_tells y x) [
    | inl same ↦ inl (same.1, (let e : Some m ≡ Some adds.node = sym at ∙ ap (member new) same.1 ∙ adds.enters.entered in cc))
    | inr other ↦ inr (sym (adds.enters.others y other.1) ∙ at)
  ]

  -- what was there stays
  pub node_kept : (y : ℕ) (m : Member) → member old y ≡ Some m → member new y ≡ Some m
  node_kept y m at = elim (eqb_tells y x) [
    | inl same ↦ absurd (let e : None ≡ Some m = sym adds.enters.free ∙ ap (member old) (sym same.1) ∙ at in cc)
    | inr other ↦ adds.enters.others y other.1 ∙ at
  ]

  once_more : IsOnce old → ((y : ℕ) (m : Member) → member old y ≡ Some m → moment m ≢ k) → IsOnce new
  once_more one apart y z m n at_y at_z same = elim (node_cases y m at_y) [
    | inl is ↦ elim (node_cases z n at_z) [
      | inl also ↦ is.0 ∙ sym also.0
      | inr before ↦ absurd (apart z n before (sym same ∙ ap moment is.1 ∙ adds.is))
    ]
    | inr before ↦ elim (node_cases z n at_z) [
      | inl is ↦ absurd (apart y m before (same ∙ ap moment is.1 ∙ adds.is))
      | inr also ↦ one y z m n before also same
    ]
  ]

  pub adds_seen : ((y : ℕ) (m : Member) → member old y ≡ Some m → moment m ≢ k) → IsForestOf s net old → IsForestOf s net new
  adds_seen apart seen = record { network = seen.network; members = members; once = once_more seen.once apart }
    where
      members : (y : ℕ) (m : Member) → member new y ≡ Some m → IsMemberOf s net.names m
      members y m at = elim (node_cases y m at) [ inl is ↦ subst (IsMemberOf s net.names) (sym is.1) adds.own | inr before ↦ seen.members y m before ]

  pub held_apart : (b : List Moment) → HasOccurrences b old → (In k b → ⊥) → (y : ℕ) (m : Member) → member old y ≡ Some m → moment m ≢ k
  held_apart b holds apart y m at same = apart (subst (λ o. In o b) same (In-from_Contains b (moment m) (holds.own y m at)))

  pub adds_holds : (b : List Moment) → HasOccurrences b old → (In k b → ⊥) → HasOccurrences (b ++ k ∷ []) new
  adds_holds b holds apart = record { own = own; all = all; once = once_more holds.once (held_apart b holds apart) }
    where
      own : (y : ℕ) (m : Member) → member new y ≡ Some m → Contains (b ++ k ∷ []) (moment m)
      own y m at = elim (node_cases y m at) [
        | inl is ↦ subst (Contains (b ++ k ∷ [])) (sym (ap moment is.1 ∙ adds.is)) (Contains-from_In (b ++ k ∷ []) k (In-right b (k ∷ []) k (inl refl)))
        | inr before ↦ Contains-append_left b (k ∷ []) (moment m) (holds.own y m before)
      ]

      all : (o : Moment) → Contains (b ++ k ∷ []) o → (y : ℕ) × (m : Member) × (member new y ≡ Some m) × (moment m ≡ o)
      all o at = elim (Contains-append_cases b (k ∷ []) o at) [
        | inl before ↦ let (y, m, there, is) = holds.all o before in (y, m, node_kept y m there, is)
        | inr is ↦ elim (In-from_Contains (k ∷ []) o is) [ inl same ↦ (x, adds.node, adds.enters.entered, adds.is ∙ same) | inr never ↦ absurd never ]
      ]

-- ---- roots

-- what a premise declares to occur begins at its own point
pub root_name : (p : Premise) (k : Moment) → root_of p ≡ Some k → k ≡ At (Begin (name_of p))
root_name (Event name kind) k e = cc
root_name (Token name fact) k e = cc
root_name (Span name fact) k e = cc
root_name (Class name facts) k e = cc
root_name (Kind name) k e = cc
root_name (Point name) k e = cc
root_name (Dist name from to lo hi) k e = cc
root_name (Rule name trigger lo hi effect given unless_facts) k e = cc
root_name (Protect name fact from to) k e = cc
root_name (Against name one other) k e = cc

same_begin : (a b : List ℕ) → Begin a ≡ Begin b → a ≡ b
same_begin a b e = cc

module _ (s : Standing) (sound : IsSound s) (front : List Premise) (p : Premise) (back : List Premise) (whole : front ++ p ∷ back ≡ s.premises) where
  -- no premise before has its name
  pub apart_from : (q : Premise) → In q front → name_of p ≡ name_of q → ⊥
  apart_from q before same =
      let follow : AllFollow front (p ∷ back) = (AllFollow-append [] front (p ∷ back) (subst (AllFollow []) (sym whole) sound.well_named)).1 in
      fresh front (p ∷ back) follow p (inl refl) q before (subst (λ n. same_name (name_of p) n ≡ true) same (nat_list_eq_equiv.refl (name_of p)))

  -- no premise before declares what the next declares
  pub new_root : (k : Moment) → root_of p ≡ Some k → In k (filter_map root_of front) → ⊥
  new_root k is at =
      let (q, before, made) = In-filter_map root_of front k at in
      let same : At (Begin (name_of p)) ≡ At (Begin (name_of q)) = sym (root_name p k is) ∙ root_name q k made in
      apart_from q before (same_begin (name_of p) (name_of q) cc)

  pub no_root : (f : Forest) → HasOccurrences (filter_map root_of front) f → IsNoRoot f (name_of p)
  no_root f holds x m at named =
      let (q, before, made) = In-filter_map root_of front (moment m) (In-from_Contains (filter_map root_of front) (moment m) (holds.own x m at)) in
      let same : Begin m.root ≡ Begin (name_of q) = sym (base-along (At (Begin m.root)) (rules_of m)) ∙ ap base (root_name q (moment m) made) in
      apart_from q before (sym named ∙ same_begin m.root (name_of q) same)

  -- what the premise declares enters
  pub root_seen : (net : Net) (old new : Forest) (x : Option ℕ) → HasOccurrences (filter_map root_of front) old → IsForestOf s net old → AddsRoot s net.names p old new x → IsForestOf s net new
  root_seen net old new x holds seen = by (root_of p) refl x
    where
      by : (o : Option Moment) → root_of p ≡ o → (x : Option ℕ) → AddsRootAt s net.names o old new x → IsForestOf s net new
      by (Some k) e (Some x) adds = adds_seen s net old new x k adds (held_apart s net old new x k adds (filter_map root_of front) holds (new_root k e)) seen
      by (Some k) e None adds = absurd adds
      by None e (Some x) adds = absurd adds
      by None e None same = subst (IsForestOf s net) (sym same) seen

-- ---- the nodes of roots

module _ (s : Standing) (sound : IsSound s) (net : Net) (network : IsNetOf s net) where
  -- a point that a premise declares has a number
  pub number_there : (p : Premise) (q : PointName) → In p s.premises → In q (points_of p) → (n : ℕ) × IsNumberOf net.names n q
  number_there p q at own = network.fits.stands.numbered q (point_there s.premises p q at own)

  root_is : (p : Premise) → In p s.premises → as_root (Rattle.tmm_model.specs.Standing.premise_in s.premises (name_of p)) ≡ as_root (Some p)
  root_is p at = ap as_root (found s.premises sound.well_named p at)

  pub occurs_root : (p : Premise) (k : Moment) → In p s.premises → root_of p ≡ Some k → Contains (roots s) k
  occurs_root p k at is = Contains-from_In (roots s) k (filter_map-In root_of s.premises p k at is)

  pub event_adds : (name kind : List ℕ) → In (Event name kind) s.premises → (begin : ℕ) → IsNumberOf net.names begin (Begin name)
      → (old new : Forest) (x : ℕ) → Enters old new x (root_member name begin None kind None AnEvent) → AddsRoot s net.names (Event name kind) old new (Some x)
  event_adds name kind at begin numbered old new x enters = record {
    node = root_member name begin None kind None AnEvent;
    enters = enters;
    own = record {
      occurs = occurs_root (Event name kind) (At (Begin name)) at refl;
      begin = numbered;
      «end» = λ e. cc;
      links = λ i l below. absurd (omega arith);
      is = root_is (Event name kind) at;
      class = refl;
    };
    is = refl;
  }

  pub token_adds : (name fact : List ℕ) → In (Token name fact) s.premises → (begin : ℕ) → IsNumberOf net.names begin (Begin name)
      → (old new : Forest) (x : ℕ) → Enters old new x (root_member name begin None fact (class_in s.premises fact) APersistence) → AddsRoot s net.names (Token name fact) old new (Some x)
  token_adds name fact at begin numbered old new x enters = record {
    node = root_member name begin None fact (class_in s.premises fact) APersistence;
    enters = enters;
    own = record {
      occurs = occurs_root (Token name fact) (At (Begin name)) at refl;
      begin = numbered;
      «end» = λ e. cc;
      links = λ i l below. absurd (omega arith);
      is = root_is (Token name fact) at;
      class = known_class s fact (fact_known s.premises sound.well_named (Token name fact) at fact (inl refl));
    };
    is = refl;
  }

  pub span_adds : (name fact : List ℕ) → In (Span name fact) s.premises → (begin «end» : ℕ) → IsNumberOf net.names begin (Begin name) → IsNumberOf net.names «end» (End name)
      → (old new : Forest) (x : ℕ) → Enters old new x (root_member name begin (Some «end») fact (class_in s.premises fact) ASpan) → AddsRoot s net.names (Span name fact) old new (Some x)
  span_adds name fact at begin «end» numbered ended old new x enters = record {
    node = root_member name begin (Some «end») fact (class_in s.premises fact) ASpan;
    enters = enters;
    own = record {
      occurs = occurs_root (Span name fact) (At (Begin name)) at refl;
      begin = numbered;
      «end» = (refl, ended);
      links = λ i l below. absurd (omega arith);
      is = root_is (Span name fact) at;
      class = known_class s fact (fact_known s.premises sound.well_named (Span name fact) at fact (inl refl));
    };
    is = refl;
  }

-- ---- what an addition says of a premise

pub root_added : (s : Standing) (net : Net) (p : Premise) (f new : Forest) (x : ℕ) → AddsRoot s net.names p f new (Some x) → (k : Moment) × (root_of p ≡ Some k) × Adds s net.names f new x k
root_added s net p f new x = by (root_of p) refl
  where
    by : (o : Option Moment) → root_of p ≡ o → AddsRootAt s net.names o f new (Some x) → (k : Moment) × (root_of p ≡ Some k) × Adds s net.names f new x k
    by (Some k) e adds = (k, e, adds)
    by None e never = absurd never

pub root_skipped : (s : Standing) (net : Net) (p : Premise) (f new : Forest) → AddsRoot s net.names p f new None → (root_of p ≡ None) × (new ≡ f)
root_skipped s net p f new = by (root_of p) refl
  where
    by : (o : Option Moment) → root_of p ≡ o → AddsRootAt s net.names o f new None → (root_of p ≡ None) × (new ≡ f)
    by None e same = (e, same)
    by (Some k) e never = absurd never
