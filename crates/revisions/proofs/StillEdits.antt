-- What an edit leaves that moves no point whose distances beliefs read.
use Rattle.std.proofs.Common.{◌≡◌, ◌∙◌, ℕ, List, [], refl, sym, ap, subst, inl, inr}
use Rattle.std.specs.Prelude.{Option, Some, None, unwrap_or, MatchOption, ◌≢◌}
use Rattle.std.specs.List.{Contains}
use Rattle.std.proofs.lemmas.List.Elements.{All-contains}
use Rattle.tmm_model.specs.declared.point.PointName.{PointName}
use Rattle.tmm_model.specs.declared.point.PointName.TheVariants.{Start, Begin, End}
use Rattle.tmm_model.specs.declared.premise.Premise.{Premise}
use Rattle.tmm_model.specs.declared.premise.Premise.TheVariants.{Class, Kind, Point, Event, Token, Span, Dist, Rule, Protect, Against}
use Rattle.tmm_model.specs.declared.token.Shape.{Shape}
use Rattle.tmm_model.specs.declared.token.Shape.TheVariants.{Event as AnEvent, Persistence as APersistence, Span as ASpan}
use Rattle.tmm_model.specs.Beliefs.{as_root, is_of, root_of, roots}
use Rattle.tmm_model.specs.Moments.{Moment, At, After, RuleText, base}
use Rattle.tmm_model.specs.Standing.{Standing, points_in, points_of, premise_in, far_in}
use Rattle.belief_theory.specs.Right.{Occurs}
use Rattle.list_theory.proofs.Elements.{In, In-from_Contains, Contains-from_In, In-filter_map, flat_map-In}
use Rattle.list_theory.proofs.KnownNames.{finds}
use Rattle.walk_theory.proofs.Members.{All-from_contains}
use Rattle.dist_net.specs.Net.{Net, IsMovedAt}
use Rattle.net_theory.specs.Fits.{IsNetOf}
use Rattle.net_theory.specs.KeptNumbers.{PointsKeepNumbers}
use Rattle.net_theory.specs.Represents.{IsNumberOf}
use Rattle.net_theory.proofs.Nets.{is_in_use}
use Rattle.net_theory.proofs.Numbers.{number_far}
use Rattle.spots.specs.Forest.{Forest, Member, member, moment}
use Rattle.spots.specs.OfLists.{IsForestOf, IsMemberOf, IsLinkOf, class_for}
use Rattle.spots.proofs.Nodes.{base-moment}
use Rattle.revisions.specs.Alike.{IsAnchor, SayAlike, AreAlike}
use Rattle.revisions.specs.StillEdits.{AreElsewhere}
use Rattle.revisions.proofs.Alike.{rules_same, span_at}

-- ---- points that beliefs read are points of the list

root_points : (s : Standing) (k : List ℕ) → Contains (roots s) (At (Begin k)) → In (Begin k) (points_in s.premises)
root_points s k at =
    let (p, there, e) = In-filter_map root_of s.premises (At (Begin k)) (In-from_Contains (roots s) (At (Begin k)) at) in
    inr (flat_map-In points_of s.premises p (Begin k) there (own p e))
  where
    own : (p : Premise) → root_of p ≡ Some (At (Begin k)) → In (Begin k) (points_of p)
    own (Event name kind) e = inl cc
    own (Token name fact) e = inl cc
    own (Span name fact) e = inl cc
    own (Class name facts) e = cc
    own (Kind name) e = cc
    own (Point name) e = cc
    own (Dist name from to lo hi) e = cc
    own (Rule name trigger lo hi effect given unless_facts) e = cc
    own (Protect name fact from to) e = cc
    own (Against name one other) e = cc

-- the shape of what occurs
abbrev shape_of : Option (Shape × List ℕ) → Shape
shape_of o = (unwrap_or o (AnEvent, [])).0

-- the end of a span is declared
span_end : (s : Standing) (k : List ℕ) (o : Option Premise) → premise_in s.premises k ≡ o → (fact : List ℕ) → as_root o ≡ Some (ASpan, fact) → In (End k) (points_in s.premises)
span_end s k (Some (Span name fact_)) is fact e =
    let (there, named) = finds s.premises k (Span name fact_) is in
    inr (flat_map-In points_of s.premises (Span name fact_) (End k) there (inr (inl (ap End named))))
span_end s k None is fact e = cc
span_end s k (Some (Event name kind)) is fact e = let f : AnEvent ≡ ASpan = ap shape_of e in cc
span_end s k (Some (Token name fact_)) is fact e = let f : APersistence ≡ ASpan = ap shape_of e in cc
span_end s k (Some (Class name facts)) is fact e = cc
span_end s k (Some (Kind name)) is fact e = cc
span_end s k (Some (Point name)) is fact e = cc
span_end s k (Some (Dist name from to lo hi)) is fact e = cc
span_end s k (Some (Rule name trigger lo hi effect given unless_facts)) is fact e = cc
span_end s k (Some (Protect name fact_ from to)) is fact e = cc
span_end s k (Some (Against name one other)) is fact e = cc

pub anchor_point : (s : Standing) (p : PointName) → IsAnchor s p → In p (points_in s.premises)
anchor_point s Start at = inl refl
anchor_point s (Begin k) at = root_points s k at
anchor_point s (End k) at = span_end s k (premise_in s.premises k) refl at.0 at.1

-- the declared point of an occurrence is a root
pub base_root : (s : Standing) (x : Moment) → Occurs s x → Contains (roots s) (At (base x))
base_root s (At p) at = at
base_root s (After u r) at = base_root s u at.0

module _ (s t : Standing) (say : SayAlike s t) where
  anchor_over : (p : PointName) → IsAnchor s p → IsAnchor t p
  anchor_over Start at = tt
  anchor_over (Begin k) at = subst (λ l. Contains l (At (Begin k))) say.declared at
  anchor_over (End k) at = (at.0, sym (say.is (At (Begin k))) ∙ at.1)

  -- ---- distances

  module _ (net after : Net) (moved : List ℕ) (of_s : IsNetOf s net) (of_t : IsNetOf t after) (keep : PointsKeepNumbers (points_in t.premises) net.names after.names)
      (apart : IsMovedAt moved net after) (elsewhere : AreElsewhere t after.names moved) where
    -- a number of the point in both networks
    record IsNumbered (p : PointName) : Type 0 where
      number : ℕ
      before : IsNumberOf net.names number p
      then : IsNumberOf after.names number p

    numbered : (p : PointName) → IsAnchor s p → IsNumbered p
    numbered p at =
        let (n, is) = of_s.fits.stands.numbered p (Contains-from_In (points_in s.premises) p (anchor_point s p at)) in
        record { number = n; before = is; then = keep n p (Contains-from_In (points_in t.premises) p (anchor_point t p (anchor_over p at))) is }

    far_stays : (p q : PointName) → IsAnchor s p → IsAnchor s q → far_in s.premises p q ≡ far_in t.premises p q
    far_stays p q at_p at_q =
        let a = numbered p at_p in
        let b = numbered q at_q in
        elim (apart a.number b.number (is_in_use net.names a.number p a.before) (is_in_use net.names b.number q b.before) (is_in_use after.names a.number p a.then) (is_in_use after.names b.number q b.then)) [
          | inl same ↦ sym (number_far s net of_s a.number b.number p q a.before b.before) ∙ same ∙ number_far t after of_t a.number b.number p q a.then b.then
          | inr m ↦ elim m [
            | inl first ↦ absurd (elsewhere a.number p first a.then (anchor_over p at_p))
            | inr second ↦ absurd (elsewhere b.number q second b.then (anchor_over q at_q))
          ]
        ]

    pub unmoved : AreAlike s t
    unmoved = record { say = say; distances = far_stays }

  -- ---- nodes

  occurs_over : (x : Moment) → Occurs s x → Occurs t x
  occurs_over (At p) at = subst (λ l. Contains l (At p)) say.declared at
  occurs_over (After u r) at = (occurs_over u at.0, subst (λ l. Contains l r) (rules_same s t say u) at.1)

  module _ (net after : Net) (f : Forest) (of_t : IsNetOf t after) (keep : PointsKeepNumbers (points_in t.premises) net.names after.names) (seen : IsForestOf s net f) where
    number_stays : (n : ℕ) (p : PointName) → IsAnchor s p → IsNumberOf net.names n p → IsNumberOf after.names n p
    number_stays n p at is = keep n p (Contains-from_In (points_in t.premises) p (anchor_point t p (anchor_over p at))) is

    end_stays : (m : Member) → is_of s (moment m) ≡ Some (m.shape, m.what) → (o : Option ℕ) → MatchOption o (m.shape ≢ ASpan) (λ e. (m.shape ≡ ASpan) × IsNumberOf net.names e (End m.root))
        → MatchOption o (m.shape ≢ ASpan) (λ e. (m.shape ≡ ASpan) × IsNumberOf after.names e (End m.root))
    end_stays m is None h = h
    end_stays m is (Some e) h =
        (h.0, number_stays e (End m.root) (m.what, span_at s (moment m) m.root m.what (base-moment m) (is ∙ ap (λ shape. Some (shape, m.what)) h.0)) h.1)

    class_stays : (shape : Shape) (what : List ℕ) → class_for s shape what ≡ class_for t shape what
    class_stays AnEvent what = refl
    class_stays APersistence what = ap Some (say.class what)
    class_stays ASpan what = ap Some (say.class what)

    member_stays : (x : ℕ) (m : Member) → member f x ≡ Some m → IsMemberOf t after.names m
    member_stays x m at =
        let own = seen.members x m at in
        record {
          occurs = occurs_over (moment m) own.occurs;
          begin = number_stays m.begin (Begin m.root) (subst (λ p. Contains (roots s) (At p)) (base-moment m) (base_root s (moment m) own.occurs)) own.begin;
          «end» = end_stays m own.is m.end own.end;
          links = All-from_contains (IsLinkOf t) m.links (λ l there.
              (let link : IsLinkOf s l = All-contains (IsLinkOf s) m.links l own.links there in
              record { lo = ap (λ (z : RuleText). z.lo) (sym (say.rule l.rule)) ∙ link.lo; hi = ap (λ (z : RuleText). z.hi) (sym (say.rule l.rule)) ∙ link.hi }));
          is = sym (say.is (moment m)) ∙ own.is;
          class = own.class ∙ class_stays m.shape m.what;
        }

    pub stay_seen : IsForestOf t after f
    stay_seen = record { network = of_t; members = member_stays; once = seen.once }
