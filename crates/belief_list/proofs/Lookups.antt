-- Nodes and rows that are found by their occurrences.
use Rattle.std.proofs.Common.{◌≡◌, ℕ, Bool, true, false, List, [], ◌∷◌, ◌++◌, map, refl, sym, ◌∙◌, ap, inl, inr, nat_eq}
use Rattle.std.specs.Prelude.{◌≢◌, Option, Some, None, IfSome}
use Rattle.std.specs.Option.{is_some, option_eq, option_map}
use Rattle.std.proofs.lemmas.List.Elements.{All-contains}
use Rattle.std.proofs.lemmas.Bool.Decides.{Decides-eqb}
use Rattle.std.proofs.lemmas.List.{map_push}
use Rattle.tmm_model.specs.Answers.{Row}
use Rattle.tmm_model.specs.Moments.{Moment, At, After, same_moment, rules, is_derived}
use Rattle.list_theory.proofs.Elements.{In, In-map, map-In, Contains-from_In}
use Rattle.belief_theory.proofs.Moments.{Decides-same_moment}
use Rattle.spots.specs.Forest.{Forest, Member, member, IsLive, moment, moment_at, rules_of, IsOnce, IsParent}
use Rattle.spots.specs.declared.link.Link.{Link}
use Rattle.spots.proofs.Nodes.{node_at, moment_at-is, rules-moment}
use Rattle.belief_list.specs.declared.list.BeliefRow.{BeliefRow}
use Rattle.belief_list.specs.Rows.{row_at, IsLiveRow, IsListing}
use Rattle.belief_list.specs.Compared.{row_in}

-- ---- nodes

-- a node clips under a number where it clips as an occurrence
pub same_clip : (f : Forest) (clip : Option ℕ) (x : ℕ) → IsOnce f → IfSome clip (IsLive f) → IsLive f x → option_eq nat_eq clip (Some x) ≡ option_eq same_moment (option_map (moment_at f) clip) (Some (moment_at f x))
same_clip f None x once live_y live_x = refl
same_clip f (Some y) x once live_y live_x = each (nat_eq y x) (same_moment (moment_at f y) (moment_at f x)) refl refl
  where
    each : (a b : Bool) → nat_eq y x ≡ a → same_moment (moment_at f y) (moment_at f x) ≡ b → a ≡ b
    each true true e g = refl
    each false false e g = refl
    each true false e g =
        let t : same_moment (moment_at f y) (moment_at f x) ≡ true = (Decides-same_moment (moment_at f y) (moment_at f x)).1 (ap (moment_at f) ((Decides-eqb y x).0 e)) in
        cc
    each false true e g =
        let (m, here) = node_at f y live_y in
        let (n, there) = node_at f x live_x in
        let same : moment_at f y ≡ moment_at f x = (Decides-same_moment (moment_at f y) (moment_at f x)).0 g in
        let one : y ≡ x = once y x m n here there (sym (moment_at-is f y m here) ∙ same ∙ moment_at-is f x n there) in
        let t : nat_eq y x ≡ true = (Decides-eqb y x).1 one in
        cc

-- ---- effects of rules

not_empty : {X : Type 0} (xs : List X) (x : X) → xs ++ x ∷ [] ≡ [] → ⊥
not_empty [] x e = absurd (cc (e))
not_empty (y ∷ ys) x e = absurd (cc (e))

declared : (t : Moment) → rules t ≡ [] → is_derived t ≡ false
declared (At p) e = refl
declared (After t r) e = absurd (not_empty (rules t) r e)

derived : (t : Moment) (rs : List (List ℕ)) (r : List ℕ) → rules t ≡ rs ++ r ∷ [] → is_derived t ≡ true
derived (At p) rs r e = absurd (not_empty rs r (sym e))
derived (After t q) rs r e = refl

parent_tells : (f : Forest) (m : Member) (parent : Option ℕ) → IsParent f m parent → is_some parent ≡ is_derived (moment m)
parent_tells f m None none = sym (declared (moment m) (rules-moment m ∙ ap (map (λ (l : Link). l.rule)) none))
parent_tells f m (Some y) (n, link, here, same, is) =
    sym (derived (moment m) (rules_of n) link.rule (rules-moment m ∙ ap (map (λ (l : Link). l.rule)) is ∙ map_push (λ (l : Link). l.rule) n.links link))

-- a node has a parent exactly where its occurrence is derived
pub has_parent : (f : Forest) (x : ℕ) (m : Member) (parent : Option ℕ) → member f x ≡ Some m → IsParent f m parent → is_some parent ≡ is_derived (moment_at f x)
has_parent f x m parent here is = parent_tells f m parent is ∙ ap is_derived (sym (moment_at-is f x m here))

-- ---- rows

pub row_in-none : (rs : List Row) (x : Moment) → ((r : Row) → In r rs → r.occ ≢ x) → row_in rs x ≡ None
row_in-none [] x none = refl
row_in-none (r ∷ rs) x none = by (same_moment x r.occ) refl (row_in-none rs x (λ q at. none q (inr at)))
  where
    by : (b : Bool) → same_moment x r.occ ≡ b → row_in rs x ≡ None → elim b as (λ _. Option Row) [ true ↦ Some r | false ↦ row_in rs x ] ≡ None
    by true e rest = absurd (none r (inl refl) (sym ((Decides-same_moment x r.occ).0 e)))
    by false e rest = rest

-- the row of an occurrence is its own
pub row_in-own : (rs : List Row) (x : Moment) (r : Row) → row_in rs x ≡ Some r → r.occ ≡ x
row_in-own [] x r at = cc
row_in-own (q ∷ rs) x r at = by (same_moment x q.occ) refl at (row_in-own rs x r)
  where
    by : (b : Bool) → same_moment x q.occ ≡ b → elim b as (λ _. Option Row) [ true ↦ Some q | false ↦ row_in rs x ] ≡ Some r → (row_in rs x ≡ Some r → r.occ ≡ x) → r.occ ≡ x
    by true e at rest = let is : q ≡ r = cc in ap (λ (w : Row). w.occ) (sym is) ∙ sym ((Decides-same_moment x q.occ).0 e)
    by false e at rest = rest at

pub row_in-some : (rs : List Row) (x : Moment) (q : Row) → In q rs → q.occ ≡ x → ((r : Row) → In r rs → r.occ ≡ x → r ≡ q) → row_in rs x ≡ Some q
row_in-some [] x q at is one = absurd at
row_in-some (r ∷ rs) x q at is one = by (same_moment x r.occ) refl at (λ there. row_in-some rs x q there is (λ w at. one w (inr at)))
  where
    by : (b : Bool) → same_moment x r.occ ≡ b → In q (r ∷ rs) → (In q rs → row_in rs x ≡ Some q) → elim b as (λ _. Option Row) [ true ↦ Some r | false ↦ row_in rs x ] ≡ Some q
    by true e at rest = ap Some (one r (inl refl) (sym ((Decides-same_moment x r.occ).0 e)))
    by false e (inl same) rest =
        let t : same_moment x r.occ ≡ true = (Decides-same_moment x r.occ).1 (sym is ∙ ap (λ (w : Row). w.occ) (sym same)) in
        cc
    by false e (inr at) rest = rest at

module _ (f : Forest) (rows : List BeliefRow) (listing : IsListing f rows) where
  live_node : (r : BeliefRow) → In r rows → IsLive f r.node
  live_node r at = (All-contains (IsLiveRow f) rows r listing.live (Contains-from_In rows r at)).node

  pub no_row : (x : Moment) → ((r : BeliefRow) → In r rows → moment_at f r.node ≡ x → ⊥) → row_in (map (row_at f) rows) x ≡ None
  no_row x apart = row_in-none (map (row_at f) rows) x others
    where
      others : (r : Row) → In r (map (row_at f) rows) → r.occ ≢ x
      others r at is = let (q, there, e) = In-map (row_at f) rows r at in apart q there (ap (λ (w : Row). w.occ) e ∙ is)

  -- two rows of one occurrence are one
  one_row : (r q : BeliefRow) → In r rows → In q rows → moment_at f r.node ≡ moment_at f q.node → r ≡ q
  one_row r q at_r at_q same =
      let (m, here_m) = node_at f r.node (live_node r at_r) in
      let (n, here_n) = node_at f q.node (live_node q at_q) in
      listing.once r q (Contains-from_In rows r at_r) (Contains-from_In rows q at_q)
      (listing.apart r.node q.node m n here_m here_n (sym (moment_at-is f r.node m here_m) ∙ same ∙ moment_at-is f q.node n here_n))

  pub one_found : (q : BeliefRow) (x : Moment) → In q rows → moment_at f q.node ≡ x → row_in (map (row_at f) rows) x ≡ Some (row_at f q)
  one_found q x at is = row_in-some (map (row_at f) rows) x (row_at f q) (map-In (row_at f) rows q at) is one
    where
      one : (r : Row) → In r (map (row_at f) rows) → r.occ ≡ x → r ≡ row_at f q
      one r there same =
          let (w, at_w, e) = In-map (row_at f) rows r there in
          sym e ∙ ap (row_at f) (one_row w q at_w at (ap (λ (z : Row). z.occ) e ∙ same ∙ sym is))
