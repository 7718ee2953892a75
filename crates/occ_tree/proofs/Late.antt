-- Nodes that get their dates in a network.
use Rattle.std.proofs.Common.{◌≡◌, ℕ, List, [], ◌∷◌, ◌++◌, Option, Some, None, IsSome, eqb, refl, sym, ap, ◌∙◌, subst, inl, inr, arith, option_map}
use Rattle.std.specs.List.{list_any}
use Rattle.std.specs.Option.{option_map_or}
use Rattle.std.specs.Prelude.{ℤ, pos, ◌+ℤ◌}
use Rattle.std.proofs.lemmas.Bool.{cases_Bool, both_ways, false≢true}
use Rattle.std.proofs.lemmas.Int.{ints}
use Rattle.std.proofs.lemmas.List.{append-nil}
use Rattle.row_links.specs.Lists.{IsOn, AreOnce, first_or}
use Rattle.row_links.proofs.Lists.{IsOn-append_left, IsOn-append_right, IsOn-append_cases, once_from_AreApart}
use Rattle.undo_rows.specs.Tables.{Table, with_value}
use Rattle.tmm_model.specs.declared.token.TokenRow.{TokenRow}
use Rattle.dist_net.specs.Net.{Net}
use Rattle.spots.specs.declared.spot.Spot.{Spot}
use Rattle.spots.specs.Forest.{Member}
use Rattle.spots.specs.OfLists.{HasList}
use Rattle.spots.specs.Spots.{links_low, node_early}
use Rattle.occ_tree.specs.declared.node.Node.{Node}
use Rattle.occ_tree.specs.declared.node.Above.{Above}
use Rattle.occ_tree.specs.Below.{IsBelow, AreTops, ListAllBelow}
use Rattle.occ_tree.specs.Dated.{IsDatedBy, HaveRoots, point_early, base_early, IsRight, IsRoot, IsAppendedOrRight, AreRightBut}
use Rattle.occ_tree.specs.Edits.{dated, AreDated}
use Rattle.occ_tree.specs.Nodes.{Nodes, Way, parent_of, root_of, way_to, member_of, forest_in, date_in, FollowRoots, ArePlaced}
use Rattle.occ_tree.specs.Standing.{nodes_in, siblings_in}
use Rattle.occ_tree.proofs.Beneath.{way_from_below}
use Rattle.occ_tree.proofs.Effects.{member_at, way_root}
use Rattle.occ_tree.proofs.Following.{follow}
use Rattle.occ_tree.proofs.Grown.{some_node}
use Rattle.occ_tree.proofs.InOrder.{on_one}
use Rattle.occ_tree.proofs.Keeping.{date_at, node_if_live}
use Rattle.occ_tree.proofs.KeptDates.{early_from_point, early_same, below_point, no_delays}
use Rattle.occ_tree.proofs.Members.{one_member, below_root}
use Rattle.occ_tree.proofs.Moved.{members_same, dated_more, extends_all, none_all, before_all}
use Rattle.occ_tree.proofs.Placing.{have_parents}
use Rattle.occ_tree.proofs.Telling.{root_told}
use Rattle.occ_tree.proofs.TokenLists.{some_is}

-- a node is an occurrence
pub occurs : (node : Nodes) (y : ℕ) → IsSome (node y) → IsSome (forest_in node y)
occurs node y live = let (n, at) = some_node node y live in subst (λ (o : Option Member). IsSome o) (sym (member_at node y n at)) refl

-- the point from which rules lead to a node
pub base_is : (net : Net) (node : Nodes) (y : ℕ) (n : Node) → node y ≡ Some n → base_early net node y ≡ point_early net n.begin
base_is net node y n at = ap (λ o. point_early net (option_map_or (λ (q : Node). q.begin) o 0)) at

module _ (net : Net) (node : Nodes) (placed : ArePlaced node) (list : HasList net (forest_in node)) where
  -- the date of a node in the network
  own_early : (y : ℕ) (n : Node) → node y ≡ Some n → node_early net (forest_in node) y ≡ point_early net n.begin +ℤ n.sums.low
  own_early y n at =
      early_from_point net (forest_in node) list y (member_of (way_to node y) n) (member_at node y n at)
      ∙ ap (λ d. point_early net n.begin +ℤ d) (sym (placed.each y n at).sums.low)

  -- a root with the date of its point is right
  pub right_root : (x : ℕ) (n : Node) → node x ≡ Some n → n.above ≡ None → n.early ≡ point_early net n.begin → IsRight net node x
  right_root x n at root is =
      let none : links_low (way_to node x).links ≡ pos 0 = ap (λ (w : Way). links_low w.links) (way_root node placed x n at root) in
      let low = (placed.each x n at).sums.low in
      date_at node x n at ∙ is ∙ sym (no_low (point_early net n.begin) n.sums.low (low ∙ none)) ∙ sym (own_early x n at)
    where
      no_low : (d low : ℤ) → low ≡ pos 0 → d +ℤ low ≡ d
      no_low d low is = omega (arith, ints, is)

-- ---- roots one after another

-- those of these roots that are not right are among the numbers
pub record AreLateOf (net : Net) (node : Nodes) (front numbers : List ℕ) : Type 0 where
  pub once : AreOnce numbers
  pub among : (y : ℕ) → IsOn numbers y → IsOn front y
  pub right : (y : ℕ) → IsOn front y → (IsOn numbers y → ⊥) → IsRight net node y

pub late_start : (net : Net) (node : Nodes) → AreLateOf net node [] []
late_start net node = record { once = tt; among = λ y on. on; right = λ y on free. absurd (false≢true on) }

pub late_next : (net : Net) (node : Nodes) (front numbers new : List ℕ) (x : ℕ) → (IsOn front x → ⊥) → AreLateOf net node front numbers → IsAppendedOrRight net node x numbers new → AreLateOf net node (front ++ x ∷ []) new
late_next net node front numbers new x free late (inl is) = record {
  once = subst AreOnce (sym is) (once_from_AreApart numbers (x ∷ []) (record { first = late.once; second = (refl, tt); apart = λ z on one. free (subst (IsOn front) (on_one z x one) (late.among z on)) }));
  among = λ y on. elim (IsOn-append_cases numbers (x ∷ []) y (subst (λ l. IsOn l y) is on)) [
    | inl old ↦ IsOn-append_left front (x ∷ []) y (late.among y old)
    | inr one ↦ IsOn-append_right front (x ∷ []) y one
  ];
  right = λ y on off. elim (IsOn-append_cases front (x ∷ []) y on) [
    | inl old ↦ late.right y old (λ there. off (subst (λ l. IsOn l y) (sym is) (IsOn-append_left numbers (x ∷ []) y there)))
    | inr one ↦ absurd (off (subst (λ l. IsOn l y) (sym is) (IsOn-append_right numbers (x ∷ []) y one)))
  ];
}
late_next net node front numbers new x free late (inr (is, right)) = record {
  once = subst AreOnce (sym is) late.once;
  among = λ y on. IsOn-append_left front (x ∷ []) y (late.among y (subst (λ l. IsOn l y) is on));
  right = λ y on off. elim (IsOn-append_cases front (x ∷ []) y on) [
    | inl old ↦ late.right y old (λ there. off (subst (λ l. IsOn l y) (sym is) there))
    | inr one ↦ subst (IsRight net node) (sym (on_one y x one)) right
  ];
}

-- at the end these are all roots
pub late_all : (net : Net) (node : Nodes) (list front rest numbers : List ℕ) → list ≡ front ++ rest → first_or None rest ≡ None → AreLateOf net node front numbers → AreLateOf net node list numbers
late_all net node list front [] numbers is none late = subst (λ l. AreLateOf net node l numbers) (sym (is ∙ append-nil front)) late
late_all net node list front (x ∷ rest) numbers is none late = let no : Some x ≡ None = none in cc

-- ---- before

module _ (net : Net) (t : Table Node 1) (placed : ArePlaced (nodes_in t)) (dates : FollowRoots (nodes_in t)) (list : HasList net (forest_in (nodes_in t))) where
  -- what is below a right root is right
  right_below : (x y : ℕ) (b : IsBelow (forest_in (nodes_in t)) x y) → b.above.links ≡ [] → IsRight net (nodes_in t) x → IsRight net (nodes_in t) y
  right_below x y b none right =
      let f = forest_in (nodes_in t) in
      let root : date_in (nodes_in t) x ≡ point_early net b.above.begin = right ∙ early_from_point net f list x b.above b.above_at ∙ no_delays (point_early net b.above.begin) b.above.links none in
      follow t (λ class. []) placed dates x y b none ∙ ap (λ d. d +ℤ links_low b.below.links) root ∙ sym (below_point net f list x y b)

  -- **All is right but what is below the roots that are not.**
  pub right_but : (tops numbers : List ℕ) → HaveRoots (record { rows = t; tokens = λ class. [] }) → ((y : ℕ) → IsOn (siblings_in t None) y → (IsOn tops y → ⊥) → IsRight net (nodes_in t) y)
      → ListAllBelow (nodes_in t) tops numbers → AreRightBut net (nodes_in t) numbers
  right_but tops numbers rooted right all y live off =
      let (x, on, b) = rooted.above y (occurs (nodes_in t) y live) in
      let (m, m_at, root) = rooted.roots x on in
      let none = subst (λ (k : Member). k.links ≡ []) (one_member (forest_in (nodes_in t)) x m b.above m_at b.above_at) root in
      right_below x y b none (right x on (λ top. off ((all.each y).1 (x, top, way_from_below (nodes_in t) placed x y b))))

-- roots are below none
pub roots_are_tops : (node : Nodes) → ArePlaced node → (tops : List ℕ) → AreOnce tops → ((y : ℕ) → IsOn tops y → IsRoot node y) → AreTops node tops
roots_are_tops node placed tops once roots = record {
  live = λ y on. let (n, at, root) = roots y on in some_is (node y) n at;
  once = once;
  apart = λ x y z x_on z_on way (m, m_at, below).
      let (n, at, root) = roots z z_on in
      let both : Some m ≡ Some n = sym m_at ∙ at in
      let same : m ≡ n = cc in
      let up : None ≡ Some y = sym (ap (option_map (λ (a : Above). a.parent)) root) ∙ ap parent_of (sym same) ∙ below in
      cc;
}

-- ---- after

-- nodes that have other dates begin where they began
pub base_same : (net : Net) (t u : Table Node 1) (numbers : List ℕ) → AreDated t u numbers (base_early net (nodes_in t)) → (y : ℕ) → IsSome (nodes_in t y) → base_early net (nodes_in u) y ≡ base_early net (nodes_in t) y
base_same net t u numbers d y live =
    let (n, at) = some_node (nodes_in t) y live in
    let (m, here, same) = extends_all t u (base_early net (nodes_in t)) numbers d y n at in
    base_is net (nodes_in u) y m here ∙ ap (λ (w : Node). point_early net w.begin) same ∙ sym (base_is net (nodes_in t) y n at)

-- one node more gets its date
pub dated_next : (net : Net) (t u v : Table Node 1) (numbers : List ℕ) (x : ℕ) (n : Node) → nodes_in u x ≡ Some n → v ≡ with_value u x (dated (base_early net (nodes_in u) x) n) → IsSome (nodes_in t x)
    → AreDated t u numbers (base_early net (nodes_in t)) → AreDated t v (numbers ++ x ∷ []) (base_early net (nodes_in t))
dated_next net t u v numbers x n at is live d =
    dated_more t u v numbers x (base_early net (nodes_in t)) n at (is ∙ ap (λ z. with_value u x (dated z n)) (base_same net t u numbers d x live)) d

module _ (net : Net) (t u : Table Node 1) (numbers : List ℕ) (placed : ArePlaced (nodes_in t)) (d : AreDated t u numbers (base_early net (nodes_in t))) where
  pub members : (y : ℕ) → forest_in (nodes_in u) y ≡ forest_in (nodes_in t) y
  members = members_same (nodes_in t) (nodes_in u) (have_parents (nodes_in t) placed) (extends_all t u (base_early net (nodes_in t)) numbers d) (none_all t u (base_early net (nodes_in t)) numbers d)

module _ (net : Net) (t u : Table Node 1) (numbers : List ℕ) (placed : ArePlaced (nodes_in t)) (list : HasList net (forest_in (nodes_in t))) (right : AreRightBut net (nodes_in t) numbers) (d : AreDated t u numbers (base_early net (nodes_in t))) where
  -- each node has its earliest date
  date_new : (y : ℕ) (n : Node) → nodes_in t y ≡ Some n → date_in (nodes_in u) y ≡ node_early net (forest_in (nodes_in t)) y
  date_new y n at = elim (cases_Bool (list_any (eqb y) numbers)) [
    | inl on ↦
        date_at (nodes_in u) y (dated (base_early net (nodes_in t) y) n) (d.on y on ∙ ap (option_map (dated (base_early net (nodes_in t) y))) at)
        ∙ ap (λ z. z +ℤ n.sums.low) (base_is net (nodes_in t) y n at) ∙ sym (own_early net (nodes_in t) placed list y n at)
    | inr off ↦
        let free = both_ways (list_any (eqb y) numbers) off in
        ap (λ o. option_map_or (λ (q : Node). q.early) o (pos 0)) (d.others y free) ∙ right y (some_is (nodes_in t y) n at) free
  ]

  pub dated_new : (tokens : List ℕ → List (TokenRow Spot)) → IsDatedBy net (record { rows = u; tokens = tokens })
  dated_new tokens y live =
      let stays = members net t u numbers placed d y in
      let (n, at) = node_if_live (nodes_in t) y (subst (λ (o : Option Member). IsSome o) stays live) in
      date_new y n at ∙ sym (early_same net (forest_in (nodes_in t)) (forest_in (nodes_in u)) y stays)

  -- the dates follow those of the roots
  pub follow_new : FollowRoots (nodes_in u)
  follow_new y k at =
      let f = forest_in (nodes_in t) in
      let (n, n_at, same) = before_all t u (base_early net (nodes_in t)) numbers d y k at in
      let (r, r_at, root, none) = root_told (nodes_in t) placed y n n_at in
      let (q, q_at) = node_if_live (nodes_in t) (root_of y n) (subst (λ (o : Option Member). IsSome o) (sym r_at) refl) in
      let b : IsBelow f (root_of y n) y = below_root f (root_of y n) y r (member_of (way_to (nodes_in t) y) n) r_at (member_at (nodes_in t) y n n_at) none root in
      let up : date_in (nodes_in u) (root_of y n) ≡ point_early net r.begin = date_new (root_of y n) q q_at ∙ early_from_point net f list (root_of y n) r r_at ∙ no_delays (point_early net r.begin) r.links none in
      let here : date_in (nodes_in u) y ≡ point_early net r.begin +ℤ links_low (way_to (nodes_in t) y).links = date_new y n n_at ∙ below_point net f list (root_of y n) y b in
      let low : k.sums.low ≡ links_low (way_to (nodes_in t) y).links = ap (λ (w : Node). w.sums.low) same ∙ (placed.each y n n_at).sums.low in
      let one : root_of y k ≡ root_of y n = ap (root_of y) same in
      let sum : date_in (nodes_in u) y ≡ date_in (nodes_in u) (root_of y n) +ℤ k.sums.low = here ∙ (λ i. sym up i +ℤ sym low i) in
      let early : k.early ≡ date_in (nodes_in u) (root_of y n) +ℤ k.sums.low = sym (date_at (nodes_in u) y k at) ∙ sum in
      subst (λ z. k.early ≡ date_in (nodes_in u) z +ℤ k.sums.low) (sym one) early
