-- What stands on a way, by roots and rules.
use Rattle.std.proofs.Common.{◌≡◌, ℕ, zero, suc, List, [], ◌∷◌, ◌++◌, map, length, Option, Some, None, refl, sym, ap, ◌∙◌, subst, inl, inr, arith, option_map, ◌⊎◌}
use Rattle.std.specs.Prelude.{MatchOption}
use Rattle.std.specs.Option.{option_map_or}
use Rattle.std.proofs.lemmas.List.{append_assoc, append-nil, map_push, length-append, length-map}
use Rattle.tmm_model.specs.Moments.{At, along, printed}
use Rattle.tmm_model.specs.declared.point.PointName.TheVariants.{Start, Begin}
use Rattle.occ_tree.specs.Below.{IsBelow, IsOnWay}
use Rattle.occ_tree.specs.declared.node.Node.{Node}
use Rattle.occ_tree.specs.declared.node.Above.{Above}
use Rattle.spots.specs.declared.link.Link.{Link}
use Rattle.spots.specs.Forest.{Member, rules_of, moment}
use Rattle.occ_tree.specs.Nodes.{Nodes, Way, further, link_of, parent_of, way_to, member_of, forest_in, HasParent, ArePlaced}
use Rattle.occ_tree.specs.Words.{word_in}
use Rattle.occ_tree.proofs.Effects.{member_at, way_below}
use Rattle.occ_tree.proofs.Keeping.{node_of_member}
use Rattle.occ_tree.proofs.OnWays.{on_own, on_further, on_way, on_way_cases, parent_there, way_leads}
use Rattle.occ_tree.proofs.Placing.{have_parents}
use Rattle.occ_tree.proofs.Ranking.{one_word}
use Rattle.occ_tree.proofs.TokenLists.{some_is}
use Rattle.occ_tree.proofs.Ways.{length-links}

-- lists with one more at their ends
front_same : (f g : List (List ℕ)) (x y : List ℕ) → f ++ x ∷ [] ≡ g ++ y ∷ [] → f ≡ g
front_same [] [] x y e = refl
front_same [] (b ∷ []) x y e = let no : [] ≡ y ∷ [] = cc in cc
front_same [] (b ∷ (d ∷ g)) x y e = let no : [] ≡ d ∷ (g ++ y ∷ []) = cc in cc
front_same (a ∷ []) [] x y e = let no : x ∷ [] ≡ [] = cc in cc
front_same (a ∷ (d ∷ f)) [] x y e = let no : d ∷ (f ++ x ∷ []) ≡ [] = cc in cc
front_same (a ∷ f) (b ∷ g) x y e =
    let first : a ≡ b = cc in
    let rest = front_same f g x y (cc) in
    λ i. first i ∷ rest i

last_split : (r : List ℕ) (rest : List (List ℕ)) → (front : List (List ℕ)) × (last : List ℕ) × (r ∷ rest ≡ front ++ last ∷ [])
last_split r [] = ([], r, refl)
last_split r (s ∷ rest) = let (front, last, is) = last_split s rest in (r ∷ front, last, λ i. r ∷ is i)

-- the rules that lead to a node
abbrev rules_at : Nodes → ℕ → List (List ℕ)
rules_at node y = map (λ (l : Link). l.rule) (way_to node y).links

module _ (node : Nodes) (placed : ArePlaced node) where
  parents : (y : ℕ) (n : Node) → node y ≡ Some n → MatchOption n.above (n.depth ≡ 0) (HasParent node n)
  parents = have_parents node placed

  -- ---- the root and the rules of what is right below another

  way_of : (y : ℕ) (n : Node) → node y ≡ Some n → (p : ℕ) → parent_of n ≡ Some p → way_to node y ≡ further (way_to node p) y (link_of n)
  way_of y n at p below = by n.above refl below
    where
      by : (o : Option Above) → n.above ≡ o → option_map (λ (a : Above). a.parent) o ≡ Some p → way_to node y ≡ further (way_to node p) y (link_of n)
      by None above is = absurd (cc)
      by (Some a) above is = let same : a.parent ≡ p = cc in way_below node placed y n a at above ∙ ap (λ z. further (way_to node z) y (link_of n)) same

  rules_further : (y : ℕ) (n : Node) → node y ≡ Some n → (p : ℕ) → parent_of n ≡ Some p → rules_at node y ≡ rules_at node p ++ n.name ∷ []
  rules_further y n at p below = ap (λ (w : Way). map (λ (l : Link). l.rule) w.links) (way_of y n at p below) ∙ map_push (λ (l : Link). l.rule) (way_to node p).links (link_of n)

  root_further : (y : ℕ) (n : Node) → node y ≡ Some n → (p : ℕ) → parent_of n ≡ Some p → (way_to node y).root ≡ (way_to node p).root
  root_further y n at p below = ap (λ (w : Way). w.root) (way_of y n at p below)

  -- ---- from the way

  leads_from : (d x y : ℕ) (n : Node) → node y ≡ Some n → n.depth ≡ d → IsOnWay node x y → ((way_to node y).root ≡ (way_to node x).root) × (rest : List (List ℕ)) × (rules_at node y ≡ rules_at node x ++ rest)
  leads_from zero x y n at deep on = by (on_way_cases node parents x y n at on)
    where
      by : (x ≡ y) ⊎ ((p : ℕ) × (parent_of n ≡ Some p) × IsOnWay node x p) → ((way_to node y).root ≡ (way_to node x).root) × (rest : List (List ℕ)) × (rules_at node y ≡ rules_at node x ++ rest)
      by (inl same) = (ap (λ z. (way_to node z).root) (sym same), [], ap (rules_at node) (sym same) ∙ sym (append-nil (rules_at node x)))
      by (inr (p, below, up)) = let (q, q_at, more) = parent_there node parents p y n at below in absurd (omega (arith, deep, more))
  leads_from (suc d) x y n at deep on = by (leads_from d x) (on_way_cases node parents x y n at on)
    where
      by : ((z : ℕ) (q : Node) → node z ≡ Some q → q.depth ≡ d → IsOnWay node x z → ((way_to node z).root ≡ (way_to node x).root) × (rest : List (List ℕ)) × (rules_at node z ≡ rules_at node x ++ rest))
          → (x ≡ y) ⊎ ((p : ℕ) × (parent_of n ≡ Some p) × IsOnWay node x p) → ((way_to node y).root ≡ (way_to node x).root) × (rest : List (List ℕ)) × (rules_at node y ≡ rules_at node x ++ rest)
      by again (inl same) = (ap (λ z. (way_to node z).root) (sym same), [], ap (rules_at node) (sym same) ∙ sym (append-nil (rules_at node x)))
      by again (inr (p, below, up)) =
          let (q, q_at, more) = parent_there node parents p y n at below in
          let (root, rest, rules) = again p q q_at (omega (arith, deep, more)) up in
          (root_further y n at p below ∙ root, rest ++ n.name ∷ [], rules_further y n at p below ∙ ap (λ l. l ++ n.name ∷ []) rules ∙ append_assoc (rules_at node x) rest (n.name ∷ []))

  pub below_from_way : (x y : ℕ) → IsOnWay node x y → IsBelow (forest_in node) x y
  below_from_way x y on =
      let (n, n_at) = way_leads node x y on in
      let (m, m_at, less) = on_way node parents x y n n_at on in
      let (root, rest, rules) = leads_from n.depth x y n n_at refl on in
      record {
        above = member_of (way_to node x) m;
        below = member_of (way_to node y) n;
        above_at = member_at node x m m_at;
        below_at = member_at node y n n_at;
        is_below = (sym root, rest, rules);
      }

  -- ---- from roots and rules

  word_is : (z : ℕ) (q : Node) → node z ≡ Some q → word_in node z ≡ printed (along (At (Begin (way_to node z).root)) (rules_at node z))
  word_is z q at = ap (λ (o : Option Member). printed (option_map_or moment o (At Start))) (member_at node z q at)

  one_node : (x y : ℕ) (m n : Node) → node x ≡ Some m → node y ≡ Some n → (way_to node y).root ≡ (way_to node x).root → rules_at node y ≡ rules_at node x → x ≡ y
  one_node x y m n m_at n_at root rules =
      sym (one_word node placed y x (some_is (node y) n n_at) (some_is (node x) m m_at) (word_is y n n_at ∙ (λ i. printed (along (At (Begin (root i))) (rules i))) ∙ sym (word_is x m m_at)))

  rules_deep : (y : ℕ) (n : Node) → node y ≡ Some n → length (rules_at node y) ≡ n.depth
  rules_deep y n at = length-map (way_to node y).links (λ (l : Link). l.rule) ∙ length-links node y n at

  way_from_rules : (d x y : ℕ) (m n : Node) → node x ≡ Some m → node y ≡ Some n → n.depth ≡ d → (way_to node y).root ≡ (way_to node x).root → (rest : List (List ℕ)) → rules_at node y ≡ rules_at node x ++ rest → IsOnWay node x y
  way_from_rules d x y m n m_at n_at deep root [] rules = subst (IsOnWay node x) (one_node x y m n m_at n_at root (rules ∙ append-nil (rules_at node x))) (on_own node x m m_at)
  way_from_rules zero x y m n m_at n_at deep root (r ∷ rest) rules =
      absurd (let long = rules_deep y n n_at in let parts = ap length rules ∙ length-append (rules_at node x) (r ∷ rest) in let all : length (r ∷ rest) ≡ suc (length rest) = refl in omega (arith, deep, long, parts, all))
  way_from_rules (suc d) x y m n m_at n_at deep root (r ∷ rest) rules = by (way_from_rules d x) n.above refl (parents y n n_at)
    where
      by : ((z : ℕ) (k q : Node) → node x ≡ Some k → node z ≡ Some q → q.depth ≡ d → (way_to node z).root ≡ (way_to node x).root → (left : List (List ℕ)) → rules_at node z ≡ rules_at node x ++ left → IsOnWay node x z)
          → (o : Option Above) → n.above ≡ o → MatchOption o (n.depth ≡ 0) (HasParent node n) → IsOnWay node x y
      by again None above level = absurd (omega (arith, deep, level))
      by again (Some a) above has =
          let below : parent_of n ≡ Some a.parent = ap (option_map (λ (c : Above). c.parent)) above in
          let (q, q_at, more) = parent_there node parents a.parent y n n_at below in
          let (front, last, split) = last_split r rest in
          let whole : rules_at node a.parent ++ n.name ∷ [] ≡ (rules_at node x ++ front) ++ last ∷ [] =
          sym (rules_further y n n_at a.parent below) ∙ rules ∙ ap (λ l. rules_at node x ++ l) split ∙ sym (append_assoc (rules_at node x) front (last ∷ [])) in
          on_further node parents x a.parent y (n, n_at, below)
          (again a.parent m q m_at q_at (omega (arith, deep, more)) (sym (root_further y n n_at a.parent below) ∙ root) front (front_same (rules_at node a.parent) (rules_at node x ++ front) n.name last whole))

  pub way_from_below : (x y : ℕ) → IsBelow (forest_in node) x y → IsOnWay node x y
  way_from_below x y b =
      let (m, m_at, m_is) = node_of_member node x b.above b.above_at in
      let (n, n_at, n_is) = node_of_member node y b.below b.below_at in
      way_from_rules n.depth x y m n m_at n_at refl
      (ap (λ (k : Member). k.root) (sym n_is) ∙ sym b.is_below.0 ∙ ap (λ (k : Member). k.root) m_is) b.is_below.1
      (ap (λ (k : Member). rules_of k) (sym n_is) ∙ b.is_below.2 ∙ ap (λ (k : Member). rules_of k ++ b.is_below.1) m_is)
