-- Where the ways to two nodes part, and how far apart the rules on them lead.
use Rattle.std.proofs.Common.{◌≡◌, ℕ, zero, suc, Bool, true, false, cond, eqb, ◌<◌, List, [], ◌∷◌, ◌++◌, map, length, take, drop, Option, Some, None, refl, sym, ap, ◌∙◌, subst, arith, eqb-true, eq-eqb}
use Rattle.std.specs.Cmp.Lexicographic.{bytes_decides}
use Rattle.std.proofs.lemmas.List.{map-append, map_push, take-append-drop}
use Rattle.ancestors.specs.Ways.{shared_front}
use Rattle.ancestors.proofs.Fronts.{shared_front-alike}
use Rattle.tmm_model.specs.Bounds.{bound_less}
use Rattle.tmm_model.specs.Points.{same_name}
use Rattle.spots.specs.declared.link.Link.{Link}
use Rattle.spots.specs.declared.sums.Sums.{Sums}
use Rattle.spots.specs.Spots.{links_low, links_high, links_apart}
use Rattle.spots.specs.Sums.{AreSums, ArePartedBy}
use Rattle.spots.proofs.Apart.{apart_from_none, apart_to_none, apart_same, apart_differ}
use Rattle.occ_tree.specs.declared.node.Node.{Node}
use Rattle.occ_tree.specs.Nodes.{Nodes, Way, name_at, link_at, parent_at, way_from, way_to, ArePlaced}
use Rattle.occ_tree.proofs.Ways.{way_to-at, length-way_from}
use Rattle.occ_tree.proofs.Wording.{LeadsDown, leads_down, name_of, rule_at}

-- ---- what a way says, by its numbers

links-from : (node : Nodes) (d x : ℕ) → (way_from node d x).links ≡ map (link_at node) (drop 1 (way_from node d x).numbers)
links-from node zero x = refl
links-from node (suc d) x =
    let w = way_from node d (parent_at node x) in
    ap (λ (ls : List Link). ls ++ link_at node x ∷ []) (links-from node d (parent_at node x))
    ∙ by w.numbers (let long = length-way_from node d (parent_at node x) in omega (arith, long))
  where
    by : (u : List ℕ) → 0 < length u → map (link_at node) (drop 1 u) ++ link_at node x ∷ [] ≡ map (link_at node) (drop 1 (u ++ x ∷ []))
    by [] some = absurd (omega (arith, some))
    by (y ∷ u) some = sym (map_push (link_at node) u x)

-- the rules on the way to a node are those of its nodes but the root
pub links_on : (node : Nodes) (x : ℕ) (n : Node) → node x ≡ Some n → (way_to node x).links ≡ map (link_at node) (drop 1 (way_to node x).numbers)
links_on node x n at =
    ap (λ (w : Way). w.links) (way_to-at node x n at)
    ∙ links-from node n.depth x
    ∙ sym (ap (λ (w : Way). map (link_at node) (drop 1 w.numbers)) (way_to-at node x n at))

-- the name of the first node
abbrev pub first_name : Nodes → List ℕ → List ℕ
first_name node [] = []
first_name node (x ∷ u) = name_at node x

root-from : (node : Nodes) (d x : ℕ) → (way_from node d x).root ≡ first_name node (way_from node d x).numbers
root-from node zero x = refl
root-from node (suc d) x =
    let w = way_from node d (parent_at node x) in
    root-from node d (parent_at node x) ∙ by w.numbers (let long = length-way_from node d (parent_at node x) in omega (arith, long))
  where
    by : (u : List ℕ) → 0 < length u → first_name node u ≡ first_name node (u ++ x ∷ [])
    by [] some = absurd (omega (arith, some))
    by (y ∷ u) some = refl

-- the root of a way is named by its first node
pub root_on : (node : Nodes) (x : ℕ) (n : Node) → node x ≡ Some n → (way_to node x).root ≡ first_name node (way_to node x).numbers
root_on node x n at =
    ap (λ (w : Way). w.root) (way_to-at node x n at) ∙ root-from node n.depth x ∙ sym (ap (λ (w : Way). first_name node w.numbers) (way_to-at node x n at))

-- ---- what two lists begin with

front_taken : (u v : List ℕ) → shared_front u v ≡ take (length (shared_front u v)) u
front_taken [] v = refl
front_taken (x ∷ u) [] = refl
front_taken (x ∷ u) (y ∷ v) = by (front_taken u v) (eqb x y)
  where
    by : shared_front u v ≡ take (length (shared_front u v)) u → (t : Bool) → cond t (x ∷ shared_front u v) [] ≡ take (length (cond t (x ∷ shared_front u v) [])) (x ∷ u)
    by again true = ap (λ (l : List ℕ). x ∷ l) again
    by again false = refl

front_taken_too : (u v : List ℕ) → shared_front u v ≡ take (length (shared_front u v)) v
front_taken_too u v = front_taken u v ∙ shared_front-alike (length (shared_front u v)) u v (omega arith)

module _ (node : Nodes) (placed : ArePlaced node) where
  abbrev rules : List ℕ → List Link
  rules u = map (link_at node) u

  -- nodes of one parent are one where their names are
  one_name : (above : Option ℕ) (x y : ℕ) (u v : List ℕ) → LeadsDown node above (x ∷ u) → LeadsDown node above (y ∷ v) → name_at node x ≡ name_at node y → x ≡ y
  one_name above x y u v ((m, m_at, m_above), down_u) ((n, n_at, n_above), down_v) same =
      placed.apart x y m n m_at n_at (m_above ∙ sym n_above) (sym (name_of node x m m_at) ∙ same ∙ name_of node y n n_at)

  -- rules that both ways begin with count for nothing
  apart_behind_front : (above : Option ℕ) (u v : List ℕ) → LeadsDown node above u → LeadsDown node above v
      → links_apart (rules u) (rules v) ≡ bound_less (links_high (rules (drop (length (shared_front u v)) v))) (links_low (rules (drop (length (shared_front u v)) u)))
  apart_behind_front above [] v down_u down_v = apart_to_none (rules v)
  apart_behind_front above (x ∷ u) [] down_u down_v = apart_from_none (rules (x ∷ u))
  apart_behind_front above (x ∷ u) (y ∷ v) down_u down_v = by (λ (same : x ≡ y). apart_behind_front (Some x) u v down_u.1 (subst (λ z. LeadsDown node (Some z) v) (sym same) down_v.1)) (eqb x y) refl
    where
      by : (x ≡ y → links_apart (rules u) (rules v) ≡ bound_less (links_high (rules (drop (length (shared_front u v)) v))) (links_low (rules (drop (length (shared_front u v)) u))))
          → (t : Bool) → eqb x y ≡ t
          → links_apart (rules (x ∷ u)) (rules (y ∷ v)) ≡ bound_less (links_high (rules (drop (length (cond t (x ∷ shared_front u v) [])) (y ∷ v)))) (links_low (rules (drop (length (cond t (x ∷ shared_front u v) [])) (x ∷ u))))
      by again true same =
          let is = eqb-true x y same in
          apart_same (link_at node x) (link_at node y) (rules u) (rules v) ((bytes_decides (link_at node x).rule (link_at node y).rule).1 (ap (λ z. (link_at node z).rule) is)) ∙ again is
      by again false other =
          apart_differ (link_at node x) (link_at node y) (rules u) (rules v) (which (same_name (link_at node x).rule (link_at node y).rule) refl)
        where
          which : (b : Bool) → same_name (link_at node x).rule (link_at node y).rule ≡ b → same_name (link_at node x).rule (link_at node y).rule ≡ false
          which false e = e
          which true e =
              let named : name_at node x ≡ name_at node y = sym (rule_at node x) ∙ (bytes_decides (link_at node x).rule (link_at node y).rule).0 e ∙ rule_at node y in
              let t : eqb x y ≡ true = eq-eqb x y (one_name above x y u v down_u down_v named) in
              let both : false ≡ true = sym other ∙ t in
              cc

  parted_lists : (u v w : List ℕ) (s : Sums) → LeadsDown node None u → LeadsDown node None v → w ≡ shared_front u v → 0 < length w → AreSums s (rules (drop 1 w)) → ArePartedBy s (rules (drop 1 u)) (rules (drop 1 v))
  parted_lists [] v w s down_u down_v is some sums = absurd (let none = ap length is in omega (arith, some, none))
  parted_lists (x ∷ u) [] w s down_u down_v is some sums = absurd (let none = ap length is in omega (arith, some, none))
  parted_lists (x ∷ u) (y ∷ v) w s down_u down_v is some sums = by (eqb x y) refl is
    where
      by : (t : Bool) → eqb x y ≡ t → w ≡ cond t (x ∷ shared_front u v) [] → ArePartedBy s (rules u) (rules v)
      by false other is = absurd (let none = ap length is in omega (arith, some, none))
      by true same is =
          let one : x ≡ y = eqb-true x y same in
          let k = length (shared_front u v) in
          record {
            front = rules (shared_front u v);
            first = rules (drop k u);
            second = rules (drop k v);
            sums = subst (λ (l : List ℕ). AreSums s (rules (drop 1 l))) is sums;
            first_is = ap rules (sym (take-append-drop k u)) ∙ map-append (link_at node) (take k u) (drop k u) ∙ ap (λ (l : List ℕ). rules l ++ rules (drop k u)) (sym (front_taken u v));
            second_is = ap rules (sym (take-append-drop k v)) ∙ map-append (link_at node) (take k v) (drop k v) ∙ ap (λ (l : List ℕ). rules l ++ rules (drop k v)) (sym (front_taken_too u v));
            apart = apart_behind_front (Some x) u v down_u.1 (subst (λ z. LeadsDown node (Some z) v) (sym one) down_v.1);
          }

  -- **The sums of the rules to the last node above both tell how far apart two nodes are.**
  pub parted_ways : (x y z : ℕ) (m n q : Node) → node x ≡ Some m → node y ≡ Some n → node z ≡ Some q → (way_to node z).numbers ≡ shared_front (way_to node x).numbers (way_to node y).numbers → (s : Sums) → AreSums s (way_to node z).links
      → ArePartedBy s (way_to node x).links (way_to node y).links
  parted_ways x y z m n q m_at n_at q_at is s sums =
      let first = sym (links_on node x m m_at) in
      let second = sym (links_on node y n n_at) in
      let long = length-way_from node q.depth z in
      let way = ap (λ (w : Way). length w.numbers) (way_to-at node z q q_at) in
      subst (λ (u : List Link). ArePartedBy s u (way_to node y).links) first
      (subst (ArePartedBy s (rules (drop 1 (way_to node x).numbers))) second
      (parted_lists (way_to node x).numbers (way_to node y).numbers (way_to node z).numbers s (leads_down node placed x m m_at) (leads_down node placed y n n_at) is (omega (arith, long, way)) (subst (AreSums s) (links_on node z q q_at) sums)))

  no_front : (u v : List ℕ) → LeadsDown node None u → LeadsDown node None v → 0 < length u → 0 < length v → first_name node u ≡ first_name node v → shared_front u v ≡ [] → ⊥
  no_front [] v down_u down_v some_u some_v same none = omega (arith, some_u)
  no_front (x ∷ u) [] down_u down_v some_u some_v same none = omega (arith, some_v)
  no_front (x ∷ u) (y ∷ v) down_u down_v some_u some_v same none =
      let t : eqb x y ≡ true = eq-eqb x y (one_name None x y u v down_u down_v same) in
      let short : length (cond true (x ∷ shared_front u v) []) ≡ 0 = ap (λ b. length (cond b (x ∷ shared_front u v) [])) (sym t) ∙ ap length none in
      omega (arith, short)

  -- two nodes of one root have a node above both
  pub shares_root : (x y : ℕ) (m n : Node) → node x ≡ Some m → node y ≡ Some n → (way_to node x).root ≡ (way_to node y).root → shared_front (way_to node x).numbers (way_to node y).numbers ≡ [] → ⊥
  shares_root x y m n m_at n_at same none =
      let long_x = length-way_from node m.depth x in
      let way_x = ap (λ (w : Way). length w.numbers) (way_to-at node x m m_at) in
      let long_y = length-way_from node n.depth y in
      let way_y = ap (λ (w : Way). length w.numbers) (way_to-at node y n n_at) in
      no_front (way_to node x).numbers (way_to node y).numbers (leads_down node placed x m m_at) (leads_down node placed y n n_at) (omega (arith, long_x, way_x)) (omega (arith, long_y, way_y))
      (sym (root_on node x m m_at) ∙ same ∙ root_on node y n n_at) none
