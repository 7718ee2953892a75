-- Words along ways, and where two of them part.
use Rattle.std.proofs.Common.{◌≡◌, ◌≢◌, inl, inr, ℕ, zero, suc, Bool, true, false, cond, eqb, ◌<◌, pos, List, [], ◌∷◌, ◌++◌, map, length, take, drop, Option, Some, None, refl, sym, ap, ◌∙◌, subst, arith, option_map, append_assoc, eqb-true, eq-eqb}
use Rattle.std.specs.Prelude.{MatchOption}
use Rattle.std.specs.Option.{option_map_or}
use Rattle.std.specs.declared.cmp.Ordering.{Ordering}
use Rattle.std.specs.declared.cmp.Ordering.TheVariants.{Less, Equal, Greater}
use Rattle.std.specs.Ordering.{nat_cmp, ordering_then, ordering_reverse}
use Rattle.std.specs.Cmp.Lexicographic.{slice_cmp}
use Rattle.std.proofs.lemmas.Cmp.{nat_cmp_total, ranked}
use Rattle.std.proofs.lemmas.List.{append-nil, map_push}
use Rattle.ancestors.specs.Ways.{shared_front}
use Rattle.tmm_model.specs.declared.bound.Bound.TheVariants.{Free}
use Rattle.tmm_model.specs.declared.point.PointName.TheVariants.{Start, Begin}
use Rattle.tmm_model.specs.Moments.{At, along, printed}
use Rattle.tmm_model.specs.Names.{is_name}
use Rattle.tmm_model.specs.Points.{slashed}
use Rattle.list_theory.proofs.Elements.{In}
use Rattle.belief_theory.proofs.Moments.{along-push}
use Rattle.belief_theory.proofs.Spelt.{no_slash}
use Rattle.spots.specs.declared.link.Link.{Link}
use Rattle.occ_tree.specs.declared.node.Node.{Node}
use Rattle.occ_tree.specs.declared.node.Above.{Above}
use Rattle.spots.specs.Forest.{Member, moment}
use Rattle.occ_tree.specs.Nodes.{Nodes, Way, further, link_of, parent_of, name_at, link_at, parent_at, way_from, way_to, HasParent, ArePlaced}
use Rattle.occ_tree.specs.Words.{word_in, first_piece, piece_at}
use Rattle.occ_tree.specs.Ends.{ends_from}
use Rattle.occ_tree.proofs.Ways.{way_to-at, parent_at-is, length-way_from, HaveParents}
use Rattle.occ_tree.proofs.Placing.{have_parents}
use Rattle.occ_tree.proofs.Effects.{member_at}

-- ---- texts that begin alike

pub nat_cmp-itself : (x : ℕ) → nat_cmp x x ≡ Equal
nat_cmp-itself x = by (nat_cmp x x) refl
  where
    by : (o : Ordering) → nat_cmp x x ≡ o → nat_cmp x x ≡ Equal
    by Equal is = is
    by Less is = let turned : Less ≡ Greater = sym is ∙ nat_cmp_total.antisymm x x ∙ ap ordering_reverse is in cc
    by Greater is = let turned : Greater ≡ Less = sym is ∙ nat_cmp_total.antisymm x x ∙ ap ordering_reverse is in cc

pub cmp-front : (p s t : List ℕ) → slice_cmp nat_cmp (p ++ s) (p ++ t) ≡ slice_cmp nat_cmp s t
cmp-front [] s t = refl
cmp-front (x ∷ p) s t = ap (λ o. ordering_then o (slice_cmp nat_cmp (p ++ s) (p ++ t))) (nat_cmp-itself x) ∙ cmp-front p s t

-- nothing is there, or what begins with a slash
abbrev pub Follows : List ℕ → Type 0
Follows [] = Unit {0}
Follows (c ∷ s) = c ≡ 47

-- another byte than a slash decides against one
decided : (c : ℕ) → c ≢ 47 → (a b e f : Ordering) → (ordering_then (nat_cmp 47 c) a ≡ ordering_then (nat_cmp 47 c) b) × (ordering_then (nat_cmp c 47) e ≡ ordering_then (nat_cmp c 47) f)
decided c other a b e f = (one (nat_cmp 47 c) refl, two (nat_cmp c 47) refl)
  where
    one : (o : Ordering) → o ≡ nat_cmp 47 c → ordering_then o a ≡ ordering_then o b
    one Less is = refl
    one Greater is = refl
    one Equal is = absurd (other (sym (ranked 47 c Equal is)))

    two : (o : Ordering) → o ≡ nat_cmp c 47 → ordering_then o e ≡ ordering_then o f
    two Less is = refl
    two Greater is = refl
    two Equal is = absurd (other (ranked c 47 Equal is))

-- two names that differ decide, with the slashes behind them
pub cmp_parted : (p q s t : List ℕ) → p ≢ q → (In 47 p → ⊥) → (In 47 q → ⊥) → Follows s → Follows t → slice_cmp nat_cmp (p ++ s) (q ++ t) ≡ slice_cmp nat_cmp (p ++ take 1 s) (q ++ take 1 t)
cmp_parted [] [] s t differ no_p no_q f g = absurd (differ refl)
cmp_parted [] (c ∷ q) [] t differ no_p no_q f g = refl
cmp_parted [] (c ∷ q) (b ∷ s) t differ no_p no_q f g =
    subst (λ z. ordering_then (nat_cmp z c) (slice_cmp nat_cmp s (q ++ t)) ≡ ordering_then (nat_cmp z c) (slice_cmp nat_cmp [] (q ++ take 1 t))) (sym f)
    (decided c (λ is. no_q (inl is)) (slice_cmp nat_cmp s (q ++ t)) (slice_cmp nat_cmp [] (q ++ take 1 t)) Less Less).0
cmp_parted (c ∷ p) [] s [] differ no_p no_q f g = refl
cmp_parted (c ∷ p) [] s (b ∷ t) differ no_p no_q f g =
    subst (λ z. ordering_then (nat_cmp c z) (slice_cmp nat_cmp (p ++ s) t) ≡ ordering_then (nat_cmp c z) (slice_cmp nat_cmp (p ++ take 1 s) [])) (sym g)
    (decided c (λ is. no_p (inl is)) Less Less (slice_cmp nat_cmp (p ++ s) t) (slice_cmp nat_cmp (p ++ take 1 s) [])).1
cmp_parted (c ∷ p) (d ∷ q) s t differ no_p no_q f g = by (λ same. cmp_parted p q s t (λ rest. differ (λ i. same i ∷ rest i)) (λ at. no_p (inr at)) (λ at. no_q (inr at)) f g) (nat_cmp c d) refl
  where
    by : (c ≡ d → slice_cmp nat_cmp (p ++ s) (q ++ t) ≡ slice_cmp nat_cmp (p ++ take 1 s) (q ++ take 1 t)) → (o : Ordering) → o ≡ nat_cmp c d → ordering_then o (slice_cmp nat_cmp (p ++ s) (q ++ t)) ≡ ordering_then o (slice_cmp nat_cmp (p ++ take 1 s) (q ++ take 1 t))
    by again Less is = refl
    by again Greater is = refl
    by again Equal is = again (ranked c d Equal is)

-- ---- words along ways

-- the text of a way
text : Way → List ℕ
text w = printed (along (At (Begin w.root)) (map (λ (l : Link). l.rule) w.links))

text-further : (w : Way) (x : ℕ) (l : Link) → text (further w x l) ≡ text w ++ 47 ∷ l.rule
unfolding text
text-further w x l =
    ap (λ rs. printed (along (At (Begin w.root)) rs)) (map_push (λ (k : Link). k.rule) w.links l)
    ∙ ap printed (along-push (At (Begin w.root)) (map (λ (k : Link). k.rule) w.links) l.rule)

-- the names of nodes, parted by slashes
abbrev pub text_on : Nodes → List ℕ → List ℕ
text_on node [] = []
text_on node (x ∷ xs) = name_at node x ++ slashed (map (name_at node) xs)

slashed-push : (names : List (List ℕ)) (r : List ℕ) → slashed (names ++ r ∷ []) ≡ slashed names ++ 47 ∷ r
slashed-push [] r = ap (λ (t : List ℕ). 47 ∷ t) (append-nil r)
slashed-push (q ∷ names) r = ap (λ (t : List ℕ). 47 ∷ (q ++ t)) (slashed-push names r) ∙ ap (λ (t : List ℕ). 47 ∷ t) (sym (append_assoc q (slashed names) (47 ∷ r)))

pub text_on-push : (node : Nodes) (u : List ℕ) (x : ℕ) → 0 < length u → text_on node (u ++ x ∷ []) ≡ text_on node u ++ 47 ∷ name_at node x
text_on-push node [] x some = absurd (omega (arith, some))
text_on-push node (y ∷ u) x some =
    ap (λ names. name_at node y ++ slashed names) (map_push (name_at node) u x)
    ∙ ap (λ t. name_at node y ++ t) (slashed-push (map (name_at node) u) (name_at node x))
    ∙ sym (append_assoc (name_at node y) (slashed (map (name_at node) u)) (47 ∷ name_at node x))

pub rule_at : (node : Nodes) (x : ℕ) → (link_at node x).rule ≡ name_at node x
rule_at node x = by (node x) refl
  where
    by : (o : Option Node) → node x ≡ o → (link_at node x).rule ≡ name_at node x
    by None at = ap (λ o. (option_map_or link_of o (record { rule = []; lo = pos 0; hi = Free })).rule) at ∙ sym (ap (λ o. option_map_or (λ (n : Node). n.name) o []) at)
    by (Some n) at = ap (λ o. (option_map_or link_of o (record { rule = []; lo = pos 0; hi = Free })).rule) at ∙ sym (ap (λ o. option_map_or (λ (n : Node). n.name) o []) at)

text-from : (node : Nodes) (d x : ℕ) → text (way_from node d x) ≡ text_on node (way_from node d x).numbers
unfolding text
text-from node zero x = sym (append-nil (name_at node x))
text-from node (suc d) x =
    let w = way_from node d (parent_at node x) in
    text-further w x (link_at node x)
    ∙ (λ i. text-from node d (parent_at node x) i ++ 47 ∷ rule_at node x i)
    ∙ sym (text_on-push node w.numbers x (let long = length-way_from node d (parent_at node x) in omega (arith, long)))

-- the word of a node is the names on its way
pub word-on : (node : Nodes) (x : ℕ) (n : Node) → node x ≡ Some n → word_in node x ≡ text_on node (way_to node x).numbers
unfolding text
word-on node x n at =
    ap (λ (o : Option Member). printed (option_map_or moment o (At Start))) (member_at node x n at)
    ∙ ap text (way_to-at node x n at)
    ∙ text-from node n.depth x
    ∙ ap (λ (w : Way). text_on node w.numbers) (sym (way_to-at node x n at))

-- ---- where two ways part

-- each number is of a node below the one before it
abbrev pub LeadsDown : Nodes → Option ℕ → List ℕ → Type 0
LeadsDown node above [] = Unit {0}
LeadsDown node above (x ∷ xs) = ((n : Node) × (node x ≡ Some n) × (parent_of n ≡ above)) × LeadsDown node (Some x) xs

leads-push : (node : Nodes) (q : Option ℕ) (front : List ℕ) (p x : ℕ) (n : Node) → node x ≡ Some n → parent_of n ≡ Some p → LeadsDown node q (front ++ p ∷ []) → LeadsDown node q ((front ++ p ∷ []) ++ x ∷ [])
leads-push node q [] p x n at below (first, rest) = (first, ((n, at, below), tt))
leads-push node q (y ∷ front) p x n at below (first, rest) = (first, leads-push node (Some y) front p x n at below rest)

leads-from : (node : Nodes) → HaveParents node → (d x : ℕ) (n : Node) → node x ≡ Some n → n.depth ≡ d → LeadsDown node None (way_from node d x).numbers
leads-from node parents zero x n at deep = ((n, at, by n.above refl (parents x n at)), tt)
  where
    by : (o : Option Above) → n.above ≡ o → MatchOption o (n.depth ≡ 0) (HasParent node n) → parent_of n ≡ None
    by None above root = ap (option_map (λ (a : Above). a.parent)) above
    by (Some a) above (p, p_at, more, begin) = absurd (omega (arith, deep, more))
leads-from node parents (suc d) x n at deep = by (leads-from node parents d) n.above refl (parents x n at)
  where
    by : ((y : ℕ) (q : Node) → node y ≡ Some q → q.depth ≡ d → LeadsDown node None (way_from node d y).numbers) → (o : Option Above) → n.above ≡ o → MatchOption o (n.depth ≡ 0) (HasParent node n) → LeadsDown node None (way_from node (suc d) x).numbers
    by again None above root = absurd (omega (arith, deep, root))
    by again (Some a) above (p, p_at, more, begin) =
        let is : parent_at node x ≡ a.parent = parent_at-is node x n a at above in
        let up : LeadsDown node None (way_from node d (parent_at node x)).numbers = subst (λ z. LeadsDown node None (way_from node d z).numbers) (sym is) (again a.parent p p_at (omega (arith, deep, more))) in
        let (front, ends) = ends_from node d (parent_at node x) in
        subst (λ l. LeadsDown node None (l ++ x ∷ [])) (sym ends)
        (leads-push node None front (parent_at node x) x n at (ap (option_map (λ (b : Above). b.parent)) above ∙ ap (λ z. Some z) (sym is)) (subst (LeadsDown node None) ends up))

pub leads_down : (node : Nodes) → ArePlaced node → (x : ℕ) (n : Node) → node x ≡ Some n → LeadsDown node None (way_to node x).numbers
leads_down node placed x n at = subst (λ (w : Way). LeadsDown node None w.numbers) (sym (way_to-at node x n at)) (leads-from node (have_parents node placed) n.depth x n at refl)

pub tail_follows : (node : Nodes) (u : List ℕ) → Follows (slashed (map (name_at node) u))
tail_follows node [] = tt
tail_follows node (x ∷ u) = refl

pub name_of : (node : Nodes) (x : ℕ) (n : Node) → node x ≡ Some n → name_at node x ≡ n.name
name_of node x n at = ap (λ o. option_map_or (λ (q : Node). q.name) o []) at

pub name_word : (node : Nodes) → ArePlaced node → (x : ℕ) (n : Node) → node x ≡ Some n → is_name (name_at node x) ≡ true
name_word node placed x n at = ap is_name (name_of node x n at) ∙ (placed.each x n at).word

module _ (node : Nodes) (placed : ArePlaced node) where
  names : List ℕ → List (List ℕ)
  names u = map (name_at node) u

  tail_of : List ℕ → List ℕ
  tail_of u = slashed (names u)

  piece-is : (x : ℕ) (u : List ℕ) → first_piece (names (x ∷ u)) ≡ name_at node x ++ take 1 (tail_of u)
  unfolding tail_of names
  piece-is x [] = sym (append-nil (name_at node x))
  piece-is x (y ∷ u) = refl

  less_than : (p t : List ℕ) → is_name p ≡ true → (slice_cmp nat_cmp [] (p ++ t) ≡ Less) × (slice_cmp nat_cmp (p ++ t) [] ≡ Greater)
  less_than [] t word = let e : false ≡ true = word in cc
  less_than (c ∷ p) t word = (refl, refl)

  before_piece : (y : ℕ) (v : List ℕ) → is_name (name_at node y) ≡ true → (slice_cmp nat_cmp [] (first_piece (names (y ∷ v))) ≡ Less) × (slice_cmp nat_cmp (first_piece (names (y ∷ v))) [] ≡ Greater)
  before_piece y v word =
      let less = less_than (name_at node y) (take 1 (tail_of v)) word in
      (ap (slice_cmp nat_cmp []) (piece-is y v) ∙ less.0, ap (λ t. slice_cmp nat_cmp t []) (piece-is y v) ∙ less.1)

  parted : (above : Option ℕ) (x y : ℕ) (u v : List ℕ) → LeadsDown node above (x ∷ u) → LeadsDown node above (y ∷ v) → eqb x y ≡ false
      → slice_cmp nat_cmp (name_at node x ++ tail_of u) (name_at node y ++ tail_of v) ≡ slice_cmp nat_cmp (first_piece (names (x ∷ u))) (first_piece (names (y ∷ v)))
  unfolding tail_of names
  parted above x y u v ((m, m_at, m_above), down_u) ((n, n_at, n_above), down_v) other =
      let differ : name_at node x ≢ name_at node y = λ same.
      let one : x ≡ y = placed.apart x y m n m_at n_at (m_above ∙ sym n_above) (sym (name_of node x m m_at) ∙ same ∙ name_of node y n n_at) in
      let t : eqb x y ≡ true = eq-eqb x y one in
      let both : false ≡ true = sym other ∙ t in cc in
      cmp_parted (name_at node x) (name_at node y) (tail_of u) (tail_of v) differ (no_slash (name_at node x) (name_word node placed x m m_at)) (no_slash (name_at node y) (name_word node placed y n n_at)) (tail_follows node u) (tail_follows node v)
      ∙ (λ i. slice_cmp nat_cmp (sym (piece-is x u) i) (sym (piece-is y v) i))

  cmp_tails : (above : Option ℕ) (u v : List ℕ) → LeadsDown node above u → LeadsDown node above v
      → slice_cmp nat_cmp (tail_of u) (tail_of v) ≡ slice_cmp nat_cmp (first_piece (names (drop (length (shared_front u v)) u))) (first_piece (names (drop (length (shared_front u v)) v)))
  unfolding tail_of names
  cmp_tails above [] [] down_u down_v = refl
  cmp_tails above [] (y ∷ v) down_u ((n, n_at, n_above), down_v) = sym (before_piece y v (name_word node placed y n n_at)).0
  cmp_tails above (x ∷ u) [] ((m, m_at, m_above), down_u) down_v = sym (before_piece x u (name_word node placed x m m_at)).1
  cmp_tails above (x ∷ u) (y ∷ v) (here_u, down_u) (here_v, down_v) = by (λ (same : x ≡ y). cmp_tails (Some x) u v down_u (subst (λ z. LeadsDown node (Some z) v) (sym same) down_v)) (eqb x y) refl
    where
      by : (x ≡ y → slice_cmp nat_cmp (tail_of u) (tail_of v) ≡ slice_cmp nat_cmp (first_piece (names (drop (length (shared_front u v)) u))) (first_piece (names (drop (length (shared_front u v)) v))))
          → (t : Bool) → eqb x y ≡ t → slice_cmp nat_cmp (tail_of (x ∷ u)) (tail_of (y ∷ v)) ≡ slice_cmp nat_cmp (first_piece (names (drop (length (cond t (x ∷ shared_front u v) [])) (x ∷ u)))) (first_piece (names (drop (length (cond t (x ∷ shared_front u v) [])) (y ∷ v))))
      by again true same =
          let is = eqb-true x y same in
          ap (λ z. slice_cmp nat_cmp (name_at node x ++ tail_of u) (name_at node z ++ tail_of v)) (sym is) ∙ cmp-front (name_at node x) (tail_of u) (tail_of v) ∙ again is
      by again false other = parted above x y u v (here_u, down_u) (here_v, down_v) other

  cmp_texts : (u v : List ℕ) → LeadsDown node None u → LeadsDown node None v
      → slice_cmp nat_cmp (text_on node u) (text_on node v) ≡ slice_cmp nat_cmp (first_piece (names (drop (length (shared_front u v)) u))) (first_piece (names (drop (length (shared_front u v)) v)))
  unfolding tail_of names
  cmp_texts [] [] down_u down_v = refl
  cmp_texts [] (y ∷ v) down_u ((n, n_at, n_above), down_v) = (less_than (name_at node y) (tail_of v) (name_word node placed y n n_at)).0 ∙ sym (before_piece y v (name_word node placed y n n_at)).0
  cmp_texts (x ∷ u) [] ((m, m_at, m_above), down_u) down_v = (less_than (name_at node x) (tail_of u) (name_word node placed x m m_at)).1 ∙ sym (before_piece x u (name_word node placed x m m_at)).1
  cmp_texts (x ∷ u) (y ∷ v) (here_u, down_u) (here_v, down_v) = by (eqb x y) refl
    where
      by : (t : Bool) → eqb x y ≡ t → slice_cmp nat_cmp (text_on node (x ∷ u)) (text_on node (y ∷ v)) ≡ slice_cmp nat_cmp (first_piece (names (drop (length (cond t (x ∷ shared_front u v) [])) (x ∷ u)))) (first_piece (names (drop (length (cond t (x ∷ shared_front u v) [])) (y ∷ v))))
      by true same =
          let is = eqb-true x y same in
          ap (λ z. slice_cmp nat_cmp (name_at node x ++ tail_of u) (name_at node z ++ tail_of v)) (sym is) ∙ cmp-front (name_at node x) (tail_of u) (tail_of v)
          ∙ cmp_tails (Some x) u v down_u (subst (λ z. LeadsDown node (Some z) v) (sym is) down_v)
      by false other = parted None x y u v (here_u, down_u) (here_v, down_v) other

  -- two words are in the order of what stands in them where their ways part
  pub cmp_words_by : (x y k : ℕ) (m n : Node) → node x ≡ Some m → node y ≡ Some n → k ≡ length (shared_front (way_to node x).numbers (way_to node y).numbers)
      → slice_cmp nat_cmp (word_in node x) (word_in node y) ≡ slice_cmp nat_cmp (piece_at node x k) (piece_at node y k)
  unfolding names
  cmp_words_by x y k m n m_at n_at is =
      (λ i. slice_cmp nat_cmp (word-on node x m m_at i) (word-on node y n n_at i))
      ∙ cmp_texts (way_to node x).numbers (way_to node y).numbers (leads_down node placed x m m_at) (leads_down node placed y n n_at)
      ∙ ap (λ z. slice_cmp nat_cmp (piece_at node x z) (piece_at node y z)) (sym is)
