-- The order of nodes is total, and tells nodes apart.
use Rattle.std.proofs.Common.{◌≡◌, ℕ, true, false, List, [], ◌∷◌, ◌++◌, map, Option, Some, None, IsSome, refl, sym, ap, ◌∙◌, subst, inl, inr}
use Rattle.std.specs.declared.cmp.Ordering.{Ordering}
use Rattle.std.specs.declared.cmp.Ordering.TheVariants.{Less, Equal, Greater}
use Rattle.std.specs.Option.{is_some}
use Rattle.std.specs.Ordering.{bool_cmp, int_cmp, nat_cmp, ordering_then, is_eq}
use Rattle.std.specs.Cmp.{IsTotalOrder, bool_cmp_total, unsigned_ties}
use Rattle.std.specs.Cmp.Lexicographic.{slice_cmp, lists_ties, bytes_decides, nat_list_cmp_total}
use Rattle.std.proofs.lemmas.Cmp.{then_total, on_total, int_cmp_total}
use Rattle.tmm_model.specs.Names.{is_name}
use Rattle.tmm_model.specs.Points.{slashed}
use Rattle.list_theory.proofs.Elements.{In}
use Rattle.belief_theory.proofs.Spelt.{no_slash}
use Rattle.occ_tree.specs.Ends.{way_ends}
use Rattle.occ_tree.specs.Nodes.{Nodes, name_at, date_in, way_to, ArePlaced}
use Rattle.occ_tree.specs.Words.{word_in, node_cmp, rank_in}
use Rattle.occ_tree.proofs.Ways.{way_of_live}
use Rattle.occ_tree.proofs.Grown.{some_node}
use Rattle.occ_tree.proofs.Wording.{Follows, LeadsDown, leads_down, text_on, word-on, tail_follows, name_word, name_of}

pub nodes_total : (node : Nodes) → IsTotalOrder (node_cmp node)
nodes_total node = then_total (on_total (date_in node) int_cmp_total) (on_total (word_in node) nat_list_cmp_total)

pub rank_total : (node : Nodes) → IsTotalOrder (rank_in node)
rank_total node = then_total (on_total (λ x. is_some (node x)) bool_cmp_total) (nodes_total node)

-- numbers of nodes are in the order of nodes
pub rank_of_nodes : (node : Nodes) (x y : ℕ) → IsSome (node x) → IsSome (node y) → rank_in node x y ≡ node_cmp node x y
rank_of_nodes node x y x_live y_live = λ i. ordering_then (bool_cmp (x_live i) (y_live i)) (node_cmp node x y)

-- texts that tie are one
tied_text : (a b : List ℕ) → slice_cmp nat_cmp a b ≡ Equal → a ≡ b
tied_text a b e = (bytes_decides a b).0 (lists_ties nat_cmp unsigned_ties a b ∙ ap is_eq e)

-- a text is cut in one way at its first slash
cut_name : (p q s t : List ℕ) → p ++ s ≡ q ++ t → (In 47 p → ⊥) → (In 47 q → ⊥) → Follows s → Follows t → (p ≡ q) × (s ≡ t)
cut_name [] [] s t e no_p no_q f g = (refl, e)
cut_name [] (c ∷ q) [] t e no_p no_q f g = let no : [] ≡ c ∷ (q ++ t) = e in cc
cut_name [] (c ∷ q) (b ∷ s) t e no_p no_q f g = let same : b ≡ c = cc in absurd (no_q (inl (sym same ∙ f)))
cut_name (c ∷ p) [] s [] e no_p no_q f g = let no : c ∷ (p ++ s) ≡ [] = e in cc
cut_name (c ∷ p) [] s (b ∷ t) e no_p no_q f g = let same : c ≡ b = cc in absurd (no_p (inl (same ∙ g)))
cut_name (c ∷ p) (d ∷ q) s t e no_p no_q f g =
    let heads : c ≡ d = cc in
    let tails : p ++ s ≡ q ++ t = cc in
    let rest = cut_name p q s t tails (λ at. no_p (inr at)) (λ at. no_q (inr at)) f g in
    ((λ i. heads i ∷ (rest.0) i), rest.1)

last_one : (f g : List ℕ) (x y : ℕ) → f ++ x ∷ [] ≡ g ++ y ∷ [] → x ≡ y
last_one [] [] x y e = cc
last_one [] (b ∷ []) x y e = let no : [] ≡ y ∷ [] = cc in cc
last_one [] (b ∷ (d ∷ g)) x y e = let no : [] ≡ d ∷ (g ++ y ∷ []) = cc in cc
last_one (a ∷ []) [] x y e = let no : x ∷ [] ≡ [] = cc in cc
last_one (a ∷ (d ∷ f)) [] x y e = let no : d ∷ (f ++ x ∷ []) ≡ [] = cc in cc
last_one (a ∷ f) (b ∷ g) x y e = last_one f g x y (cc)

some_text : (p t : List ℕ) → is_name p ≡ true → p ++ t ≡ [] → ⊥
some_text [] t word e = let no : false ≡ true = word in cc
some_text (c ∷ p) t word e = let no : c ∷ (p ++ t) ≡ [] = e in cc

module _ (node : Nodes) (placed : ArePlaced node) where
  -- names on a way and what follows tell the way
  one_tail : (above : Option ℕ) (u v : List ℕ) → LeadsDown node above u → LeadsDown node above v → slashed (map (name_at node) u) ≡ slashed (map (name_at node) v) → u ≡ v
  one_tail above [] [] down_u down_v e = refl
  one_tail above [] (y ∷ v) down_u down_v e = let no : [] ≡ 47 ∷ (name_at node y ++ slashed (map (name_at node) v)) = e in cc
  one_tail above (x ∷ u) [] down_u down_v e = let no : 47 ∷ (name_at node x ++ slashed (map (name_at node) u)) ≡ [] = e in cc
  one_tail above (x ∷ u) (y ∷ v) ((m, m_at, m_above), down_u) ((n, n_at, n_above), down_v) e =
      let tails : name_at node x ++ slashed (map (name_at node) u) ≡ name_at node y ++ slashed (map (name_at node) v) = cc in
      let cut = cut_name (name_at node x) (name_at node y) (slashed (map (name_at node) u)) (slashed (map (name_at node) v)) tails
      (no_slash (name_at node x) (name_word node placed x m m_at)) (no_slash (name_at node y) (name_word node placed y n n_at)) (tail_follows node u) (tail_follows node v) in
      let one : x ≡ y = placed.apart x y m n m_at n_at (m_above ∙ sym n_above) (sym (name_of node x m m_at) ∙ cut.0 ∙ name_of node y n n_at) in
      (λ i. one i ∷ one_tail (Some x) u v down_u (subst (λ z. LeadsDown node (Some z) v) (sym one) down_v) cut.1 i)

  one_way : (u v : List ℕ) → LeadsDown node None u → LeadsDown node None v → text_on node u ≡ text_on node v → u ≡ v
  one_way [] [] down_u down_v e = refl
  one_way [] (y ∷ v) down_u ((n, n_at, n_above), down_v) e = absurd (some_text (name_at node y) (slashed (map (name_at node) v)) (name_word node placed y n n_at) (sym e))
  one_way (x ∷ u) [] ((m, m_at, m_above), down_u) down_v e = absurd (some_text (name_at node x) (slashed (map (name_at node) u)) (name_word node placed x m m_at) e)
  one_way (x ∷ u) (y ∷ v) ((m, m_at, m_above), down_u) ((n, n_at, n_above), down_v) e =
      let cut = cut_name (name_at node x) (name_at node y) (slashed (map (name_at node) u)) (slashed (map (name_at node) v)) e
      (no_slash (name_at node x) (name_word node placed x m m_at)) (no_slash (name_at node y) (name_word node placed y n n_at)) (tail_follows node u) (tail_follows node v) in
      let one : x ≡ y = placed.apart x y m n m_at n_at (m_above ∙ sym n_above) (sym (name_of node x m m_at) ∙ cut.0 ∙ name_of node y n n_at) in
      (λ i. one i ∷ one_tail (Some x) u v down_u (subst (λ z. LeadsDown node (Some z) v) (sym one) down_v) cut.1 i)

  pub one_word : (x y : ℕ) → IsSome (node x) → IsSome (node y) → word_in node x ≡ word_in node y → x ≡ y
  one_word x y x_live y_live same =
      let (m, m_at) = some_node node x x_live in
      let (n, n_at) = some_node node y y_live in
      let ways = one_way (way_to node x).numbers (way_to node y).numbers (leads_down node placed x m m_at) (leads_down node placed y n n_at) (sym (word-on node x m m_at) ∙ same ∙ word-on node y n n_at) in
      let (f, first) = way_ends node x (way_of_live node x x_live) in
      let (g, second) = way_ends node y (way_of_live node y y_live) in
      last_one f g x y (sym first ∙ ways ∙ second)

  pub node_strict : (x y : ℕ) → IsSome (node x) → IsSome (node y) → node_cmp node x y ≡ Equal → x ≡ y
  node_strict x y x_live y_live tie = by (int_cmp (date_in node x) (date_in node y)) (slice_cmp nat_cmp (word_in node x) (word_in node y)) refl tie
    where
      by : (r q : Ordering) → slice_cmp nat_cmp (word_in node x) (word_in node y) ≡ q → ordering_then r q ≡ Equal → x ≡ y
      by Less q e t = cc
      by Greater q e t = cc
      by Equal Less e t = cc
      by Equal Greater e t = cc
      by Equal Equal e t = one_word x y x_live y_live (tied_text (word_in node x) (word_in node y) e)
