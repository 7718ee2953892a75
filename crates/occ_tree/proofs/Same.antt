-- The same occurrence among other nodes: the names on the way to a node are spelt there.
use Rattle.std.proofs.Common.{◌≡◌, ◌∙◌, ℕ, ◌+◌, ◌<◌, ◌≤◌, List, [], ◌∷◌, ◌++◌, map, length, take, drop, get_or, Some, refl, sym, ap, subst, arith}
use Rattle.std.specs.Prelude.{IsSome, Option}
use Rattle.std.proofs.lemmas.List.{drop-map, length-map, drop_more, take_all}
use Rattle.spots.specs.Forest.{Member, moment, moment_at}
use Rattle.spots.proofs.Nodes.{moment_at-is}
use Rattle.occ_tree.specs.declared.node.Node.{Node}
use Rattle.occ_tree.specs.Nodes.{Nodes, name_at, way_to, forest_in, ArePlaced}
use Rattle.occ_tree.proofs.Finding.{Spells, spelt_moment, moment_spelt, name_taken, names_cut}
use Rattle.occ_tree.proofs.Telling.{next_told}
use Rattle.occ_tree.proofs.Ways.{length-way}
use Rattle.occ_tree.proofs.Wording.{name_of}

-- the names on the way to a node, that of its root first
abbrev pub names_to : Nodes → ℕ → List (List ℕ)
names_to node x = map (name_at node) (way_to node x).numbers

with_first : (names : List (List ℕ)) → 0 < length names → (root : List ℕ) × (rest : List (List ℕ)) × (names ≡ root ∷ rest)
with_first [] some = absurd (omega (arith, some))
with_first (root ∷ rest) some = (root, rest, refl)

module _ (node : Nodes) (placed : ArePlaced node) (x : ℕ) (n : Node) (at : node x ≡ Some n) where
  pub length-names : length (names_to node x) ≡ n.depth + 1
  length-names = length-map (way_to node x).numbers (name_at node) ∙ length-way node x n at

  pub names_whole : (k : ℕ) → n.depth ≤ k → take (k + 1) (names_to node x) ≡ names_to node x
  names_whole k past = take_all (k + 1) (names_to node x) (let long = length-names in omega (arith, long, past))

  -- ---- the name at a depth

  module _ (k r : ℕ) (q : Node) (within : k ≤ n.depth) (up : (way_to node r).numbers ≡ take (k + 1) (way_to node x).numbers) (r_at : node r ≡ Some q) where
    low : k < length (names_to node x)
    low = let long = length-names in omega (arith, long, within)

    named : q.name ≡ get_or (names_to node x) k q.name
    named =
        let there : drop k (names_to node x) ≡ name_at node r ∷ map (name_at node) (drop (k + 1) (way_to node x).numbers) = drop-map (name_at node) k (way_to node x).numbers ∙ ap (map (name_at node)) (next_told node placed x n at k r within up) in
        let both : get_or (names_to node x) k q.name ∷ drop (k + 1) (names_to node x) ≡ name_at node r ∷ map (name_at node) (drop (k + 1) (way_to node x).numbers) = sym (drop_more (names_to node x) k q.name low) ∙ there in
        let here : get_or (names_to node x) k q.name ≡ name_at node r = cc in
        sym (here ∙ name_of node r q r_at)

    pub names_more : take (k + 1) (names_to node x) ≡ take k (names_to node x) ++ q.name ∷ []
    names_more = name_taken (names_to node x) k q.name low named

    pub names_part : names_to node x ≡ take k (names_to node x) ++ q.name ∷ drop (k + 1) (names_to node x)
    names_part = names_cut (names_to node x) k q.name low named

  -- ---- among other nodes

  spelt_here : (root : List ℕ) (rest : List (List ℕ)) → names_to node x ≡ root ∷ rest → Spells node x (root ∷ rest)
  spelt_here root rest is = (subst (λ (o : Option Node). IsSome o) (sym at) refl, is)

  module _ (others : Nodes) (placed_there : ArePlaced others) where
    -- what is spelt so there is of this occurrence
    pub same_moment : (y : ℕ) → Spells others y (names_to node x) → (m : Member) × (forest_in others y ≡ Some m) × (moment m ≡ moment_at (forest_in node) x)
    same_moment y spelt =
        let (root, rest, is) = with_first (names_to node x) (let long = length-names in omega (arith, long)) in
        let (m, m_at, there) = spelt_moment others placed_there y root rest (subst (Spells others y) is spelt) in
        let (q, q_at, here) = spelt_moment node placed x root rest (spelt_here root rest is) in
        (m, m_at, there ∙ sym here ∙ sym (moment_at-is (forest_in node) x q q_at))

    -- what is of this occurrence is spelt so there
    pub same_spelt : (y : ℕ) (m : Member) → forest_in others y ≡ Some m → moment m ≡ moment_at (forest_in node) x → Spells others y (names_to node x)
    same_spelt y m m_at same =
        let (root, rest, is) = with_first (names_to node x) (let long = length-names in omega (arith, long)) in
        let (q, q_at, here) = spelt_moment node placed x root rest (spelt_here root rest is) in
        subst (Spells others y) (sym is) (moment_spelt others placed_there y m root rest m_at (same ∙ moment_at-is (forest_in node) x q q_at ∙ here))
