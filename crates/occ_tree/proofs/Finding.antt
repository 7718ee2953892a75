-- Nodes that are found by the names on the way to them.
use Rattle.std.proofs.Common.{◌≡◌, ℕ, ◌+◌, ◌<◌, List, [], ◌∷◌, ◌++◌, map, length, take, drop, get_or, append_assoc, Option, Some, None, IsSome, refl, sym, ap, ◌∙◌, subst, arith}
use Rattle.std.proofs.lemmas.List.{map_push, take_more, take-append-drop}
use Rattle.tmm_model.specs.declared.point.PointName.TheVariants.{Begin}
use Rattle.tmm_model.specs.Moments.{At, along, base, rules, printed}
use Rattle.belief_theory.proofs.Moments.{rules-along, base-along}
use Rattle.spots.specs.declared.link.Link.{Link}
use Rattle.spots.specs.Forest.{Member, moment, rules_of, IsOnce}
use Rattle.spots.proofs.Nodes.{rules-moment, base-moment, moment_at-is}
use Rattle.occ_tree.specs.declared.node.Node.{Node}
use Rattle.occ_tree.specs.Ends.{way_ends}
use Rattle.occ_tree.specs.Named.{IsNamed}
use Rattle.occ_tree.specs.Nodes.{Nodes, Way, parent_of, name_at, way_to, member_of, forest_in, ArePlaced}
use Rattle.occ_tree.specs.Words.{word_in}
use Rattle.occ_tree.proofs.Effects.{above_of, no_above, member_at, way_below, way_root}
use Rattle.occ_tree.proofs.Grown.{some_node}
use Rattle.occ_tree.proofs.Keeping.{node_of_member}
use Rattle.occ_tree.proofs.Parting.{first_name, root_on}
use Rattle.occ_tree.proofs.Ranking.{one_word}
use Rattle.occ_tree.proofs.Telling.{rules_told}
use Rattle.occ_tree.proofs.Ways.{length-way, way_of_live}
use Rattle.occ_tree.proofs.Wording.{LeadsDown, leads_down, name_of}

-- the names on the way to the node are these
abbrev pub Spells : Nodes → ℕ → List (List ℕ) → Type 0
Spells node x names = IsSome (node x) × (map (name_at node) (way_to node x).numbers ≡ names)

head_is : (a b : List ℕ) (u v : List (List ℕ)) → a ∷ u ≡ b ∷ v → a ≡ b
head_is a b u v e = cc

rest_is : (a b : List ℕ) (u v : List (List ℕ)) → a ∷ u ≡ b ∷ v → u ≡ v
rest_is a b u v e = cc

module _ (node : Nodes) (placed : ArePlaced node) where
  -- ---- names and occurrences

  -- a root has its own name alone
  pub spelt_root : (x : ℕ) (name : List ℕ) → IsNamed node None name x → Spells node x (name ∷ [])
  spelt_root x name (n, at, top, named) = (
    subst (λ (o : Option Node). IsSome o) (sym at) refl,
    ap (λ (w : Way). map (name_at node) w.numbers) (way_root node placed x n at (no_above n top)) ∙ ap (λ (a : List ℕ). a ∷ []) (name_of node x n at ∙ named),
  )

  -- the node right below has one name more
  pub spelt_further : (x z : ℕ) (names : List (List ℕ)) (name : List ℕ) → Spells node x names → IsNamed node (Some x) name z → Spells node z (names ++ name ∷ [])
  spelt_further x z names name (live, spelt) (n, at, below, named) =
      let (a, above, parent) = above_of n x below in
      let way : way_to node z ≡ _ = way_below node placed z n a at above in (
        subst (λ (o : Option Node). IsSome o) (sym at) refl,
        ap (λ (w : Way). map (name_at node) w.numbers) way
            ∙ ap (λ (p : ℕ). map (name_at node) ((way_to node p).numbers ++ z ∷ [])) parent
            ∙ map_push (name_at node) (way_to node x).numbers z
            ∙ (λ i. spelt i ++ (name_of node z n at ∙ named) i ∷ []),
      )

  -- what is spelt so is the occurrence
  pub spelt_moment : (x : ℕ) (root : List ℕ) (names : List (List ℕ)) → Spells node x (root ∷ names) → (m : Member) × (forest_in node x ≡ Some m) × (moment m ≡ along (At (Begin root)) names)
  spelt_moment x root names (live, spelt) =
      let (n, at) = some_node node x live in
      let w = way_to node x in
      let (first, rest) = cut w.numbers spelt in
      let named : w.root ≡ root = root_on node x n at ∙ first in
      let ruled : map (λ (l : Link). l.rule) w.links ≡ names = rules_told node placed x n at ∙ rest in
      (member_of w n, member_at node x n at, (λ i. along (At (Begin (named i))) (ruled i)))
    where
      cut : (u : List ℕ) → map (name_at node) u ≡ root ∷ names → (first_name node u ≡ root) × (map (name_at node) (drop 1 u) ≡ names)
      cut [] e = let no : [] ≡ root ∷ names = e in cc
      cut (y ∷ u) e = (head_is (name_at node y) root (map (name_at node) u) names e, rest_is (name_at node y) root (map (name_at node) u) names e)

  -- the occurrence of a node is spelt so
  pub moment_spelt : (x : ℕ) (m : Member) (root : List ℕ) (names : List (List ℕ)) → forest_in node x ≡ Some m → moment m ≡ along (At (Begin root)) names → Spells node x (root ∷ names)
  moment_spelt x m root names at is =
      let (n, here, is_member) = node_of_member node x m at in
      let same : member_of (way_to node x) n ≡ m = sym is_member in
      let w = way_to node x in
      let roots : Begin m.root ≡ Begin root = sym (base-moment m) ∙ ap base is ∙ base-along (At (Begin root)) names in
      let rooted : m.root ≡ root = cc in
      let ruled : rules_of m ≡ names = sym (rules-moment m) ∙ ap rules is ∙ rules-along (At (Begin root)) names in
      let first : first_name node w.numbers ≡ root = sym (root_on node x n here) ∙ ap (λ (k : Member). k.root) same ∙ rooted in
      let rest : map (name_at node) (drop 1 w.numbers) ≡ names = sym (rules_told node placed x n here) ∙ ap rules_of same ∙ ruled in
      (subst (λ (o : Option Node). IsSome o) (sym here) refl, whole w.numbers (let long = length-way node x n here in omega (arith, long)) first rest)
    where
      whole : (u : List ℕ) → 0 < length u → first_name node u ≡ root → map (name_at node) (drop 1 u) ≡ names → map (name_at node) u ≡ root ∷ names
      whole [] some first rest = absurd (omega (arith, some))
      whole (y ∷ u) some first rest = λ i. first i ∷ rest i

  -- **Each occurrence has one number.**
  pub one_number : IsOnce (forest_in node)
  one_number x y m n m_at n_at same =
      let (k, x_at, _) = node_of_member node x m m_at in
      let (q, y_at, _) = node_of_member node y n n_at in
      let words : word_in node x ≡ word_in node y = ap printed (moment_at-is (forest_in node) x m m_at ∙ same ∙ sym (moment_at-is (forest_in node) y n n_at)) in
      one_word node placed x y (subst (λ (o : Option Node). IsSome o) (sym x_at) refl) (subst (λ (o : Option Node). IsSome o) (sym y_at) refl) words

  -- ---- one way for some names

  -- where names lead on, so does the way
  front : (above : Option ℕ) (u v : List ℕ) (rest : List (List ℕ)) → LeadsDown node above u → LeadsDown node above v → map (name_at node) v ≡ map (name_at node) u ++ rest → (w : List ℕ) × (v ≡ u ++ w) × (map (name_at node) w ≡ rest)
  front above [] v rest down_u down_v e = (v, refl, e)
  front above (x ∷ u) [] rest down_u down_v e = absurd (let no : [] ≡ name_at node x ∷ (map (name_at node) u ++ rest) = e in cc)
  front above (x ∷ u) (y ∷ v) rest ((m, m_at, m_above), down_u) ((n, n_at, n_above), down_v) e =
      let same : name_at node y ≡ name_at node x = head_is (name_at node y) (name_at node x) (map (name_at node) v) (map (name_at node) u ++ rest) e in
      let one : y ≡ x = placed.apart y x n m n_at m_at (n_above ∙ sym m_above) (sym (name_of node y n n_at) ∙ same ∙ name_of node x m m_at) in
      let (w, is, more) = front (Some x) u v rest down_u (subst (λ z. LeadsDown node (Some z) v) one down_v) (rest_is (name_at node y) (name_at node x) (map (name_at node) v) (map (name_at node) u ++ rest) e) in
      (w, (λ i. one i ∷ is i), more)

  -- behind the last of a way stands what is right below it
  below_last : (above : Option ℕ) (u : List ℕ) (x z : ℕ) (w : List ℕ) → LeadsDown node above ((u ++ x ∷ []) ++ z ∷ w) → (n : Node) × (node z ≡ Some n) × (parent_of n ≡ Some x)
  below_last above [] x z w (_, (here, _)) = here
  below_last above (y ∷ u) x z w (_, down) = below_last (Some y) u x z w down

  -- no node is spelt so where no root has the first name
  pub no_root : (y : ℕ) (root : List ℕ) (names : List (List ℕ)) → ((x : ℕ) → IsNamed node None root x → ⊥) → Spells node y (root ∷ names) → ⊥
  no_root y root names none (live, spelt) =
      let (n, at) = some_node node y live in
      by (way_to node y).numbers (leads_down node placed y n at) spelt
    where
      by : (u : List ℕ) → LeadsDown node None u → map (name_at node) u ≡ root ∷ names → ⊥
      by [] down e = let no : [] ≡ root ∷ names = e in cc
      by (z ∷ u) ((q, q_at, top), _) e = none z (q, q_at, top, sym (name_of node z q q_at) ∙ head_is (name_at node z) root (map (name_at node) u) names e)

  -- no node is spelt so where nothing right below has the next name
  pub no_further : (x y : ℕ) (names : List (List ℕ)) (name : List ℕ) (rest : List (List ℕ)) → Spells node x names → ((z : ℕ) → IsNamed node (Some x) name z → ⊥) → Spells node y (names ++ name ∷ rest) → ⊥
  no_further x y names name rest (live_x, spelt_x) none (live_y, spelt_y) =
      let (m, m_at) = some_node node x live_x in
      let (n, n_at) = some_node node y live_y in
      let (w, whole, more) = front None (way_to node x).numbers (way_to node y).numbers (name ∷ rest) (leads_down node placed x m m_at) (leads_down node placed y n n_at) (spelt_y ∙ ap (λ l. l ++ name ∷ rest) (sym spelt_x)) in
      let (u, ends) = way_ends node x (way_of_live node x live_x) in
      by u w more (subst (LeadsDown node None) (whole ∙ ap (λ l. l ++ w) ends) (leads_down node placed y n n_at))
    where
      by : (u w : List ℕ) → map (name_at node) w ≡ name ∷ rest → LeadsDown node None ((u ++ x ∷ []) ++ w) → ⊥
      by u [] e down = let no : [] ≡ name ∷ rest = e in cc
      by u (z ∷ w) e down =
          let (q, q_at, below) = below_last None u x z w down in
          none z (q, q_at, below, sym (name_of node z q q_at) ∙ head_is (name_at node z) name (map (name_at node) w) rest e)

-- ---- one name after the other

module _ (names : List (List ℕ)) (i : ℕ) (r : List ℕ) (within : i < length names) (at : r ≡ get_or names i r) where
  pub name_taken : take (i + 1) names ≡ take i names ++ r ∷ []
  name_taken = take_more names i r within ∙ ap (λ (q : List ℕ). take i names ++ q ∷ []) (sym at)

  pub names_cut : names ≡ take i names ++ r ∷ drop (i + 1) names
  names_cut = sym (take-append-drop (i + 1) names) ∙ ap (λ l. l ++ drop (i + 1) names) name_taken ∙ append_assoc (take i names) (r ∷ []) (drop (i + 1) names)
