-- Nodes at declared points, found by their roots.
use Rattle.std.proofs.Common.{◌≡◌, ◌≢◌, ℕ, ◌<◌, false, List, [], ◌∷◌, ◌++◌, map, Option, Some, None, refl, sym, ap, ◌∙◌, subst, inl, inr, ◌⊎◌, arith, eqb-true, ◌↔◌, slice_index_or, option_and_then}
use Rattle.std.specs.Prelude.{IfSome, nat_eq}
use Rattle.std.specs.Option.{MatchOption}
use Rattle.std.specs.List.{All, Contains, list_any}
use Rattle.std.proofs.lemmas.Bool.{false≢true}
use Rattle.std.proofs.lemmas.Cmp.{nat_eq_equiv}
use Rattle.std.proofs.lemmas.List.Elements.{All-nil, All-append, Contains-get_or, Contains-append_left, Contains-append_right, Contains-append_cases}
use Rattle.std.proofs.lemmas.Map.Views.{Contains-from_any, list_any-from_Contains}
use Rattle.tmm_model.specs.declared.point.PointName.TheVariants.{Begin, End}
use Rattle.tmm_model.specs.declared.token.Shape.TheVariants.{Span}
use Rattle.tmm_model.specs.Moments.{At, along}
use Rattle.dist_net.specs.Net.{Net}
use Rattle.net_theory.specs.Represents.{IsNumberOf}
use Rattle.list_theory.proofs.Elements.{In-list_any, In-from_Contains}
use Rattle.row_links.specs.Lists.{IsOn}
use Rattle.spots.specs.declared.link.Link.{Link}
use Rattle.spots.specs.Forest.{Forest, Member, member, IsLive, IsFound, moment}
use Rattle.spots.specs.OfLists.{HasList}
use Rattle.spots.proofs.Nodes.{live_at}
use Rattle.occ_tree.specs.AtPoints.{IsAt, owner_of, IsRootAt, HaveNodesAt}
use Rattle.occ_tree.specs.Below.{IsBelow}
use Rattle.occ_tree.specs.Dated.{HaveRoots}
use Rattle.occ_tree.specs.Standing.{State, forest}
use Rattle.occ_tree.specs.Touched.{IsAtMoved}
use Rattle.occ_tree.proofs.Members.{one_member}

-- ---- the root at a point

module _ (net : Net) (s : State) (list : HasList net (forest s)) where
  -- the point at which a node begins or ends is of its root
  owner_at : (x : ℕ) (m : Member) (p : ℕ) → member (forest s) x ≡ Some m → IsAt p m → option_and_then owner_of (slice_index_or net.names p None) ≡ Some m.root
  owner_at x m p at (inl begins) =
      let is : slice_index_or net.names p None ≡ Some (Begin m.root) = subst (λ q. IsNumberOf net.names q (Begin m.root)) begins (list.1.members x m at).begin in
      ap (option_and_then owner_of) is
  owner_at x m p at (inr ends) =
      let is : slice_index_or net.names p None ≡ Some (End m.root) = (subst (λ o. MatchOption o (m.shape ≢ Span) (λ e. (m.shape ≡ Span) × IsNumberOf net.names e (End m.root))) ends (list.1.members x m at).end).1 in
      ap (option_and_then owner_of) is

  -- a point of no premise has no nodes
  pub no_root_at : (p : ℕ) → option_and_then owner_of (slice_index_or net.names p None) ≡ None → IsRootAt (forest s) p None
  no_root_at p none = record {
    live = tt;
    above = λ x m at is. absurd (let both : None ≡ Some m.root = sym none ∙ owner_at x m p at is in cc);
  }

  -- the root of the name of a point
  pub named_root_at : (p : ℕ) (name : List ℕ) (root : Option ℕ) → option_and_then owner_of (slice_index_or net.names p None) ≡ Some name → HaveRoots s → IsFound (forest s) (At (Begin name)) root → IsRootAt (forest s) p root
  named_root_at p name root owned rooted found = record { live = live root found; above = above root found }
    where
      live : (o : Option ℕ) → IsFound (forest s) (At (Begin name)) o → IfSome o (IsLive (forest s))
      live None none = tt
      live (Some r) (m, at, is) = live_at (forest s) r m at

      top : (m : Member) → m.links ≡ [] → m.root ≡ name → moment m ≡ At (Begin name)
      top m none named = λ i. along (At (Begin (named i))) (map (λ (l : Link). l.rule) (none i))

      above : (o : Option ℕ) → IsFound (forest s) (At (Begin name)) o → (x : ℕ) (m : Member) → member (forest s) x ≡ Some m → IsAt p m → (r : ℕ) × (o ≡ Some r) × IsBelow (forest s) r x
      above o at_root x m at is =
          let both : Some m.root ≡ Some name = sym (owner_at x m p at is) ∙ owned in
          let named : m.root ≡ name = cc in
          let (r, on, below) = rooted.above x (live_at (forest s) x m at) in
          let (q, q_at, none) = rooted.roots r on in
          let one : below.above ≡ q = one_member (forest s) r below.above q below.above_at q_at in
          let same : below.below ≡ m = one_member (forest s) x below.below m below.below_at at in
          let q_named : q.root ≡ name = ap (λ (k : Member). k.root) (sym one) ∙ below.is_below.0 ∙ ap (λ (k : Member). k.root) same ∙ named in
          by o at_root r q q_at (top q none q_named) below
        where
          by : (o : Option ℕ) → IsFound (forest s) (At (Begin name)) o → (r : ℕ) (q : Member) → member (forest s) r ≡ Some q → moment q ≡ At (Begin name) → IsBelow (forest s) r x → (t : ℕ) × (o ≡ Some t) × IsBelow (forest s) t x
          by None none r q q_at is below = absurd (none r q q_at is)
          by (Some t) (n, n_at, n_is) r q q_at is below = (t, refl, subst (λ z. IsBelow (forest s) z x) (list.1.once r t q n q_at n_at (is ∙ sym n_is)) below)

-- ---- nodes below a root

on_contained : (xs : List ℕ) (x : ℕ) → Contains xs x → IsOn xs x
on_contained xs x there = list_any-from_Contains nat_eq_equiv x xs there

contained_on : (xs : List ℕ) (x : ℕ) → IsOn xs x → Contains xs x
contained_on xs x on = Contains-from_any (λ a b e. eqb-true a b e) x xs on

module _ (f : Forest) where
  pub live_below : (root : ℕ) (numbers : List ℕ) → ((y : ℕ) → IsOn numbers y ↔ IsBelow f root y) → All (IsLive f) numbers
  live_below root numbers each k d within =
      let y = slice_index_or numbers k d in
      let b = (each y).0 (on_contained numbers y (Contains-get_or numbers k d within)) in
      live_at f y b.below b.below_at

  one_point : (p q : ℕ) → Contains (p ∷ []) q → q ≡ p
  one_point p q there = by (In-from_Contains (p ∷ []) q there)
    where
      by : (p ≡ q) ⊎ ⊥ → q ≡ p
      by (inl is) = sym is
      by (inr none) = absurd none

  -- those below the root at a point are the nodes at it
  pub nodes_below : (p root : ℕ) (numbers : List ℕ) → IsRootAt f p (Some root) → ((y : ℕ) → IsOn numbers y ↔ IsBelow f root y) → HaveNodesAt f (p ∷ []) numbers
  nodes_below p root numbers at each = record {
    live = live_below root numbers each;
    all = λ x m q x_at there is.
        let (r, same, below) = at.above x m x_at (subst (λ z. IsAt z m) (one_point p q there) is) in
        let one : root ≡ r = cc in
        contained_on numbers x ((each x).1 (subst (λ z. IsBelow f z x) (sym one) below));
  }

  pub no_nodes : (p : ℕ) (numbers : List ℕ) → numbers ≡ [] → IsRootAt f p None → HaveNodesAt f (p ∷ []) numbers
  no_nodes p numbers empty at = subst (HaveNodesAt f (p ∷ [])) (sym empty) (record {
    live = All-nil (IsLive f);
    all = λ x m q x_at there is.
        let (r, same, below) = at.above x m x_at (subst (λ z. IsAt z m) (one_point p q there) is) in
        absurd (cc same);
  })

  -- ---- more points

  pub at_none : (numbers : List ℕ) → numbers ≡ [] → HaveNodesAt f [] numbers
  at_none numbers empty = subst (HaveNodesAt f []) (sym empty) (record {
    live = All-nil (IsLive f);
    all = λ x m p x_at (k, within, _) is. absurd (let few : k < 0 = within in omega arith);
  })

  pub at_more : (points more numbers at both : List ℕ) → both ≡ numbers ++ at → HaveNodesAt f points numbers → HaveNodesAt f more at → HaveNodesAt f (points ++ more) both
  at_more points more numbers at both is first then_ = subst (HaveNodesAt f (points ++ more)) (sym is) (record {
    live = All-append (IsLive f) numbers at first.live then_.live;
    all = λ x m p x_at there at_p. elim (Contains-append_cases points more p there) [
      | inl before ↦ Contains-append_left numbers at x (first.all x m p x_at before at_p)
      | inr behind ↦ Contains-append_right numbers at x (then_.all x m p x_at behind at_p)
    ];
  })

  -- where `start` is none of them, the nodes at points that moved are there
  pub at_moved : (moved numbers : List ℕ) → (Contains moved 0 → ⊥) → HaveNodesAt f moved numbers → (x : ℕ) (m : Member) → member f x ≡ Some m → IsAtMoved moved m → Contains numbers x
  at_moved moved numbers no_start nodes x m at (inl start) = absurd (no_start start)
  at_moved moved numbers no_start nodes x m at (inr (inl begins)) = nodes.all x m m.begin at begins (inl refl)
  at_moved moved numbers no_start nodes x m at (inr (inr (e, ends, there))) = nodes.all x m e at there (inr ends)

pub no_start : (moved : List ℕ) → list_any (λ y. nat_eq y 0) moved ≡ false → Contains moved 0 → ⊥
no_start moved none there = let some = In-list_any (λ y. nat_eq y 0) moved 0 (In-from_Contains moved 0 there) refl in false≢true (sym none ∙ some)
