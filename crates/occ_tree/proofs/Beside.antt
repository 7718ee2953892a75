-- The occurrence of a node beside another's.
use Rattle.std.proofs.Common.{◌≡◌, ℕ, zero, suc, ◌+◌, ◌<◌, ◌≤◌, List, [], ◌∷◌, ◌++◌, map, length, take, drop, Some, IsSome, refl, sym, ap, subst, ◌∙◌, arith}
use Rattle.std.proofs.lemmas.List.{map_push, take-map, take_all, length-map, length-take-le}
use Rattle.ancestors.specs.Ways.{shared_front}
use Rattle.ancestors.proofs.Fronts.{shared_front-alike, shared_front-short}
use Rattle.tmm_model.specs.declared.point.PointName.TheVariants.{Begin}
use Rattle.tmm_model.specs.Moments.{At, along, rules, base}
use Rattle.belief_theory.proofs.Moments.{rules-along, base-along}
use Rattle.spots.specs.declared.link.Link.{Link}
use Rattle.spots.specs.Forest.{moment_at}
use Rattle.spots.proofs.Nodes.{moment_at-is, rules-moment, base-moment}
use Rattle.occ_tree.specs.declared.node.Node.{Node}
use Rattle.occ_tree.specs.Nodes.{Nodes, name_at, way_to, member_of, forest_in, ArePlaced}
use Rattle.occ_tree.proofs.Effects.{member_at}
use Rattle.occ_tree.proofs.Parting.{first_name, root_on}
use Rattle.occ_tree.proofs.Telling.{rules_told, next_told, live_on_way}
use Rattle.occ_tree.proofs.Ways.{length-way, length-links}
use Rattle.occ_tree.proofs.Wording.{name_of}

-- the rules of a node
abbrev pub rules_at : Nodes → ℕ → List (List ℕ)
rules_at node x = map (λ (l : Link). l.rule) (way_to node x).links

-- behind the first, as many are taken of a list as one less of all
take_behind : (k : ℕ) (u : List ℕ) → take k (drop 1 u) ≡ drop 1 (take (k + 1) u)
take_behind zero [] = refl
take_behind (suc k) [] = ap (λ n. drop 1 (take {A = ℕ} n [])) (let e : suc (suc k) ≡ suc k + 1 = omega arith in e)
take_behind zero (x ∷ u) = refl
take_behind (suc k) (x ∷ u) = ap (λ n. drop 1 (take n (x ∷ u))) (let e : suc (suc k) ≡ suc k + 1 = omega arith in e)

first_taken : (node : Nodes) (k : ℕ) (u : List ℕ) → first_name node u ≡ first_name node (take (k + 1) u)
first_taken node k [] = by k
  where
    by : (k : ℕ) → first_name node [] ≡ first_name node (take (k + 1) [])
    by zero = refl
    by (suc k) = ap (λ n. first_name node (take n [])) (let e : suc (suc k) ≡ suc k + 1 = omega arith in e)
first_taken node k (x ∷ u) = ap (λ n. first_name node (take n (x ∷ u))) (let e : suc k ≡ k + 1 = omega arith in e)

module _ (node : Nodes) (placed : ArePlaced node) (x y : ℕ) (m n : Node) (at_x : node x ≡ Some m) (at_y : node y ≡ Some n) (k : ℕ) (shared : k + 1 ≤ length (shared_front (way_to node x).numbers (way_to node y).numbers))
    (root : List ℕ) (names : List (List ℕ)) (is : along (At (Begin root)) names ≡ moment_at (forest_in node) y) where
  alike : take (k + 1) (way_to node x).numbers ≡ take (k + 1) (way_to node y).numbers
  alike = shared_front-alike (k + 1) (way_to node x).numbers (way_to node y).numbers shared

  names_are : names ≡ rules_at node y
  names_are =
      sym (rules-along (At (Begin root)) names)
      ∙ ap rules is
      ∙ ap rules (moment_at-is (forest_in node) y (member_of (way_to node y) n) (member_at node y n at_y))
      ∙ rules-moment (member_of (way_to node y) n)

  root_is : root ≡ (way_to node x).root
  root_is =
      let begins : Begin root ≡ Begin (way_to node y).root =
      sym (base-along (At (Begin root)) names)
      ∙ ap base is
      ∙ ap base (moment_at-is (forest_in node) y (member_of (way_to node y) n) (member_at node y n at_y))
      ∙ base-moment (member_of (way_to node y) n) in
      let own : root ≡ (way_to node y).root = cc in
      own
      ∙ root_on node y n at_y
      ∙ first_taken node k (way_to node y).numbers
      ∙ ap (first_name node) (sym alike)
      ∙ sym (first_taken node k (way_to node x).numbers)
      ∙ sym (root_on node x m at_x)

  -- there are so many rules of either
  pub within : (k ≤ length names) × (k ≤ length (way_to node x).links)
  within =
      let (short_x, short_y) = shared_front-short (way_to node x).numbers (way_to node y).numbers in
      let long_x = length-way node x m at_x in
      let long_y = length-way node y n at_y in
      let links_x = length-links node x m at_x in
      let links_y = length-links node y n at_y in
      let all = ap length names_are ∙ length-map (way_to node y).links (λ (l : Link). l.rule) in (
        omega (arith, shared, short_y, long_y, links_y, all),
        omega (arith, shared, short_x, long_x, links_x),
      )

  -- and they are the same
  pub first_is : take k names ≡ take k (rules_at node x)
  first_is =
      ap (take k) (names_are ∙ rules_told node placed y n at_y)
      ∙ take-map (name_at node) k (drop 1 (way_to node y).numbers)
      ∙ ap (map (name_at node)) (take_behind k (way_to node y).numbers)
      ∙ ap (λ u. map (name_at node) (drop 1 u)) (sym alike)
      ∙ sym (ap (map (name_at node)) (take_behind k (way_to node x).numbers))
      ∙ sym (take-map (name_at node) k (drop 1 (way_to node x).numbers))
      ∙ sym (ap (take k) (rules_told node placed x m at_x))

  -- **With the rules of the one, the root of the other tells its occurrence.**
  pub beside_is : (all : List (List ℕ)) → all ≡ rules_at node x → along (At (Begin root)) all ≡ moment_at (forest_in node) x
  beside_is all same =
      (λ i. along (At (Begin (root_is i))) (same i)) ∙ sym (moment_at-is (forest_in node) x (member_of (way_to node x) m) (member_at node x m at_x))

-- ---- one rule more

taken_one : (j : ℕ) (u rest : List ℕ) (r : ℕ) → drop j u ≡ r ∷ rest → take (j + 1) u ≡ take j u ++ r ∷ []
taken_one zero [] rest r is = absurd (cc (is))
taken_one (suc j) [] rest r is = absurd (cc (is))
taken_one zero (x ∷ u) rest r is = let same : x ≡ r = cc in ap (λ z. z ∷ []) same
taken_one (suc j) (x ∷ u) rest r is = ap (λ n. take n (x ∷ u)) (let e : suc j + 1 ≡ suc (j + 1) = omega arith in e) ∙ ap (λ l. x ∷ l) (taken_one j u rest r is)

module _ (node : Nodes) (placed : ArePlaced node) (x : ℕ) (n : Node) (at : node x ≡ Some n) (k : ℕ) (less : k < n.depth) (r : ℕ) (up : (way_to node r).numbers ≡ take (k + 1 + 1) (way_to node x).numbers) where
  pub rule_live : IsSome (node r)
  rule_live = live_on_way node placed x n at (k + 1) r (omega (arith, less)) up

  pub one_more : (q : Node) → node r ≡ Some q → (old new : List (List ℕ)) → old ≡ take k (rules_at node x) → new ≡ old ++ q.name ∷ [] → new ≡ take (k + 1) (rules_at node x)
  one_more q q_at old new before grown =
      grown
      ∙ (λ i. (before ∙ first k) i ++ sym (name_of node r q q_at) i ∷ [])
      ∙ sym (map_push (name_at node) (drop 1 (take (k + 1) (way_to node x).numbers)) r)
      ∙ ap (map (name_at node)) (sym (last (way_to node x).numbers refl))
      ∙ sym (first (k + 1))
    where
      first : (j : ℕ) → take j (rules_at node x) ≡ map (name_at node) (drop 1 (take (j + 1) (way_to node x).numbers))
      first j =
          ap (take j) (rules_told node placed x n at)
          ∙ take-map (name_at node) j (drop 1 (way_to node x).numbers)
          ∙ ap (map (name_at node)) (take_behind j (way_to node x).numbers)

      behind : (u : List ℕ) → 0 < length u → drop 1 (u ++ r ∷ []) ≡ drop 1 u ++ r ∷ []
      behind [] some = absurd (omega (arith, some))
      behind (z ∷ u) some = refl

      last : (u : List ℕ) → (way_to node x).numbers ≡ u → drop 1 (take (k + 1 + 1) u) ≡ drop 1 (take (k + 1) u) ++ r ∷ []
      last u same =
          let long = length-way node x n at in
          let e = ap length same in
          let taken = length-take-le (k + 1) u (omega (arith, less, long, e)) in
          ap (drop 1) (taken_one (k + 1) u (drop (k + 1 + 1) u) r (subst (λ v. drop (k + 1) v ≡ r ∷ drop (k + 1 + 1) v) same (next_told node placed x n at (k + 1) r (omega (arith, less)) up)))
          ∙ behind (take (k + 1) u) (omega (arith, taken))

-- with all of them nothing is left
pub all_taken : (node : Nodes) (x : ℕ) (n : Node) → node x ≡ Some n → (k : ℕ) → n.depth ≤ k → take k (rules_at node x) ≡ rules_at node x
all_taken node x n at k past =
    let links = length-links node x n at in
    let all = length-map (way_to node x).links (λ (l : Link). l.rule) in
    take_all k (rules_at node x) (omega (arith, links, all, past))
