-- What a node tells of its spot, and of where it stands.
use Rattle.std.proofs.Common.{◌≡◌, ℕ, ◌+◌, ◌≤◌, List, [], ◌∷◌, map, length, take, drop, Option, Some, None, IsSome, refl, sym, ap, ◌∙◌, arith}
use Rattle.std.specs.Prelude.{MatchOption}
use Rattle.std.specs.Option.{option_map, option_map_or}
use Rattle.std.proofs.lemmas.List.{length-take-le}
use Rattle.tmm_model.specs.declared.point.PointName.TheVariants.{Begin}
use Rattle.tmm_model.specs.Moments.{At, along}
use Rattle.dist_net.specs.Net.{Net}
use Rattle.spots.specs.declared.link.Link.{Link}
use Rattle.spots.specs.declared.spot.Spot.{Spot}
use Rattle.spots.specs.declared.spot.Spot.TheVariants.{Declared, Node as OfNode}
use Rattle.spots.specs.Forest.{Forest, Member, moment_at, IsParent, last_name}
use Rattle.spots.specs.declared.sums.Sums.{Sums}
use Rattle.spots.specs.OfLists.{HasList}
use Rattle.spots.specs.Spots.{base_of, links_of}
use Rattle.spots.specs.Sums.{AreSums, ArePartedBy}
use Rattle.spots.proofs.Apart.{apart_from_none}
use Rattle.spots.proofs.Distances.{one_root}
use Rattle.spots.proofs.Nodes.{last_name-push, moment_at-is}
use Rattle.occ_tree.specs.declared.node.Node.{Node}
use Rattle.occ_tree.specs.declared.node.Above.{Above}
use Rattle.occ_tree.specs.Ends.{way_ends}
use Rattle.occ_tree.specs.Asked.{AreOfOneRoot}
use Rattle.occ_tree.specs.Nodes.{Nodes, Way, no_way, way_from, link_of, parent_of, root_of, name_at, link_at, way_to, member_of, forest_in, HasParent, ArePlaced}
use Rattle.occ_tree.proofs.Ways.{length-way, node_on_way, live_by_way}
use Rattle.occ_tree.proofs.Effects.{member_at, way_below, way_root}
use Rattle.occ_tree.proofs.Parting.{first_name, links_on, root_on}
use Rattle.occ_tree.proofs.Pieces.{drop_last}
use Rattle.occ_tree.proofs.Wording.{name_of, rule_at}

-- ---- a spot

pub begin_at : (node : Nodes) (x : ℕ) (n : Node) → node x ≡ Some n → n.begin ≡ base_of (forest_in node) (OfNode x)
begin_at node x n at = sym (ap (λ (o : Option Member). option_map_or (λ m. m.begin) o 0) (member_at node x n at))

pub links_at : (node : Nodes) (x : ℕ) (n : Node) → node x ≡ Some n → (way_to node x).links ≡ links_of (forest_in node) (OfNode x)
links_at node x n at = sym (ap (λ (o : Option Member). option_map_or (λ m. m.links) o []) (member_at node x n at))

-- the rules on a way are those that lead to the spot
pub links_there : (node : Nodes) (x : ℕ) → (way_to node x).links ≡ links_of (forest_in node) (OfNode x)
links_there node x = by (node x) refl
  where
    by : (o : Option Node) → node x ≡ o → (way_to node x).links ≡ links_of (forest_in node) (OfNode x)
    by (Some n) at = links_at node x n at
    by None at =
        ap (λ (o : Option Node). (option_map_or (λ (q : Node). way_from node q.depth x) o no_way).links) at
        ∙ sym (ap (λ (o : Option Node). option_map_or (λ (m : Member). m.links) (option_map (member_of (way_to node x)) o) []) at)

-- ---- two spots

-- rules that begin with none in common
pub parted_to_none : (s : Sums) (u : List Link) → AreSums s [] → ArePartedBy s u []
parted_to_none s u sums = record { front = []; first = u; second = []; sums = sums; first_is = refl; second_is = refl; apart = apart_from_none u }

-- spots to which rules lead from one point are of one root
pub of_one_root : (net : Net) (f : Forest) → HasList net f → (p q : Spot) → base_of f p ≡ base_of f q → AreOfOneRoot f p q
of_one_root net f list (Declared p) q base = tt
of_one_root net f list (OfNode x) (Declared q) base = tt
of_one_root net f list (OfNode x) (OfNode y) base = λ m n m_at n_at.
    let first : base_of f (OfNode x) ≡ m.begin = ap (λ (o : Option Member). option_map_or (λ k. k.begin) o 0) m_at in
    let second : base_of f (OfNode y) ≡ n.begin = ap (λ (o : Option Member). option_map_or (λ k. k.begin) o 0) n_at in
    one_root net f list x y m n m_at n_at (sym first ∙ base ∙ second)

-- ---- where a node stands

module _ (node : Nodes) (placed : ArePlaced node) (x : ℕ) (n : Node) (at : node x ≡ Some n) where
  pub parent_told : IsParent (forest_in node) (member_of (way_to node x) n) (parent_of n)
  parent_told = by n.above refl (placed.each x n at).parent
    where
      by : (o : Option Above) → n.above ≡ o → MatchOption o (n.depth ≡ 0) (HasParent node n) → IsParent (forest_in node) (member_of (way_to node x) n) (option_map (λ (a : Above). a.parent) o)
      by None above root = ap (λ (w : Way). w.links) (way_root node placed x n at above)
      by (Some a) above (p, p_at, more, begin) =
          let way = way_below node placed x n a at above in
          (member_of (way_to node a.parent) p, link_of n, member_at node a.parent p p_at, sym (ap (λ (w : Way). w.root) way), ap (λ (w : Way). w.links) way)

  pub name_told : n.name ≡ last_name (way_to node x).root (way_to node x).links
  name_told = by n.above refl
    where
      by : (o : Option Above) → n.above ≡ o → n.name ≡ last_name (way_to node x).root (way_to node x).links
      by None above = sym (name_of node x n at) ∙ sym (ap (λ (w : Way). last_name w.root w.links) (way_root node placed x n at above))
      by (Some a) above =
          sym (last_name-push (way_to node a.parent).root (way_to node a.parent).links (link_of n))
          ∙ sym (ap (λ (w : Way). last_name w.root w.links) (way_below node placed x n a at above))

  pub root_told : (r : Member) × (forest_in node (root_of x n) ≡ Some r) × (r.root ≡ (way_to node x).root) × (r.links ≡ [])
  root_told =
      let first = (placed.each x n at).root in
      let long = length-way node x n at in
      let one = length-take-le 1 (way_to node x).numbers (omega (arith, long)) in
      let short : length (way_to node (root_of x n)).numbers ≡ 1 = ap length first ∙ one in
      let (q, q_at) = node_on_way node (root_of x n) (omega (arith, short)) in (
        member_of (way_to node (root_of x n)) q,
        member_at node (root_of x n) q q_at,
        root_on node (root_of x n) q q_at ∙ ap (first_name node) first ∙ head (way_to node x).numbers ∙ sym (root_on node x n at),
        links_on node (root_of x n) q q_at ∙ none (way_to node (root_of x n)).numbers short,
      )
    where
      head : (u : List ℕ) → first_name node (take 1 u) ≡ first_name node u
      head [] = refl
      head (y ∷ u) = refl

      none : (u : List ℕ) → length u ≡ 1 → map (link_at node) (drop 1 u) ≡ []
      none [] one = refl
      none (y ∷ []) one = refl
      none (y ∷ (z ∷ u)) one = absurd (omega (arith, one))

  -- the names of the rules are those of the nodes behind the root
  pub rules_told : map (λ (l : Link). l.rule) (way_to node x).links ≡ map (name_at node) (drop 1 (way_to node x).numbers)
  rules_told = ap (map (λ (l : Link). l.rule)) (links_on node x n at) ∙ names (drop 1 (way_to node x).numbers)
    where
      names : (u : List ℕ) → map (λ (l : Link). l.rule) (map (link_at node) u) ≡ map (name_at node) u
      names [] = refl
      names (y ∷ u) = (λ i. rule_at node y i ∷ names u i)

  -- at a depth stands the node whose way is so long
  pub next_told : (k r : ℕ) → k ≤ n.depth → (way_to node r).numbers ≡ take (k + 1) (way_to node x).numbers → drop k (way_to node x).numbers ≡ r ∷ drop (k + 1) (way_to node x).numbers
  next_told k r within up =
      let long = length-way node x n at in
      let taken = length-take-le (k + 1) (way_to node x).numbers (omega (arith, long, within)) in
      let same = ap length up in
      let (front, ends) = way_ends node r (omega (arith, taken, same)) in
      drop_last (way_to node x).numbers front k r (omega (arith, long, within)) (sym up ∙ ends)

  pub live_on_way : (k r : ℕ) → k ≤ n.depth → (way_to node r).numbers ≡ take (k + 1) (way_to node x).numbers → IsSome (node r)
  live_on_way k r within up =
      let long = length-way node x n at in
      let taken = length-take-le (k + 1) (way_to node x).numbers (omega (arith, long, within)) in
      let same = ap length up in
      live_by_way node r (omega (arith, taken, same))

  -- **The name of the root and those of the rules tell the occurrence.**
  pub moment_told : (r : ℕ) (q : Node) → (way_to node r).numbers ≡ take 1 (way_to node x).numbers → node r ≡ Some q → (names : List (List ℕ)) → names ≡ map (λ (l : Link). l.rule) (way_to node x).links
      → along (At (Begin q.name)) names ≡ moment_at (forest_in node) x
  moment_told r q up q_at names same =
      let root : q.name ≡ (way_to node x).root = sym (name_of node r q q_at) ∙ sym (ap (first_name node) (next_told 0 r (omega arith) up)) ∙ sym (root_on node x n at) in
      (λ i. along (At (Begin (root i))) (same i)) ∙ sym (moment_at-is (forest_in node) x (member_of (way_to node x) n) (member_at node x n at))

-- ---- its word
