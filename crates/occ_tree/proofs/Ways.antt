-- Ways among nodes that stay, also where dates change.
use Rattle.std.proofs.Common.{◌≡◌, ℕ, zero, suc, ◌+◌, ◌<◌, pos, [], ◌∷◌, length, Option, Some, None, IsSome, refl, sym, ap, ◌∙◌, subst, arith}
use Rattle.std.specs.Prelude.{MatchOption}
use Rattle.std.specs.Option.{option_map, option_map_or}
use Rattle.std.proofs.lemmas.List.{length_push}
use Rattle.tmm_model.specs.declared.bound.Bound.TheVariants.{Free}
use Rattle.occ_tree.specs.declared.node.Node.{Node}
use Rattle.occ_tree.specs.declared.node.Above.{Above}
use Rattle.occ_tree.specs.Nodes.{Nodes, Way, no_way, further, link_of, parent_of, link_at, parent_at, way_from, way_to, HasParent}

-- the node, whatever its date
abbrev pub fixed : Node → Node
fixed n = record n { early = pos 0 }

-- each node is among the others, maybe with another date
abbrev pub Extends : Nodes → Nodes → Type 0
Extends a b = (y : ℕ) (n : Node) → a y ≡ Some n → (m : Node) × (b y ≡ Some m) × (fixed m ≡ fixed n)

-- each node has its parent, or is no deeper than a root
abbrev pub HaveParents : Nodes → Type 0
HaveParents node = (y : ℕ) (n : Node) → node y ≡ Some n → MatchOption n.above (n.depth ≡ 0) (HasParent node n)

-- ---- one way

pub way_to-at : (node : Nodes) (x : ℕ) (n : Node) → node x ≡ Some n → way_to node x ≡ way_from node n.depth x
way_to-at node x n at = ap (λ o. option_map_or (λ (q : Node). way_from node q.depth x) o no_way) at

pub length-way_from : (node : Nodes) (d x : ℕ) → length (way_from node d x).numbers ≡ d + 1
length-way_from node zero x = refl
length-way_from node (suc d) x = length_push (way_from node d (parent_at node x)).numbers x ∙ (let less = length-way_from node d (parent_at node x) in omega (arith, less))

pub length-links_from : (node : Nodes) (d x : ℕ) → length (way_from node d x).links ≡ d
length-links_from node zero x = refl
length-links_from node (suc d) x = length_push (way_from node d (parent_at node x)).links (link_at node x) ∙ (let less = length-links_from node d (parent_at node x) in omega (arith, less))

pub length-way : (node : Nodes) (x : ℕ) (n : Node) → node x ≡ Some n → length (way_to node x).numbers ≡ n.depth + 1
length-way node x n at = ap (λ (w : Way). length w.numbers) (way_to-at node x n at) ∙ length-way_from node n.depth x

pub length-links : (node : Nodes) (x : ℕ) (n : Node) → node x ≡ Some n → length (way_to node x).links ≡ n.depth
length-links node x n at = ap (λ (w : Way). length w.links) (way_to-at node x n at) ∙ length-links_from node n.depth x

-- a number with a way is of a node
pub node_on_way : (node : Nodes) (x : ℕ) → 0 < length (way_to node x).numbers → (n : Node) × (node x ≡ Some n)
node_on_way node x some = by (node x) refl
  where
    by : (o : Option Node) → node x ≡ o → (n : Node) × (node x ≡ Some n)
    by (Some n) at = (n, at)
    by None at = absurd (let none : length (way_to node x).numbers ≡ 0 = ap (λ (o : Option Node). length (option_map_or (λ (q : Node). way_from node q.depth x) o no_way).numbers) at in omega (arith, some, none))

pub parent_at-is : (node : Nodes) (x : ℕ) (n : Node) (a : Above) → node x ≡ Some n → n.above ≡ Some a → parent_at node x ≡ a.parent
parent_at-is node x n a at above =
    ap (λ o. option_map_or (λ (q : Node). option_map_or (λ (p : ℕ). p) (parent_of q) 0) o 0) at
    ∙ ap (λ (o : Option Above). option_map_or (λ (p : ℕ). p) (option_map (λ (b : Above). b.parent) o) 0) above

pub link_at-is : (node : Nodes) (x : ℕ) (n : Node) → node x ≡ Some n → link_at node x ≡ link_of n
link_at-is node x n at = ap (λ o. option_map_or link_of o (record { rule = []; lo = pos 0; hi = Free })) at

-- the way to a node leads on from the one to its parent
pub way-further : (node : Nodes) (x : ℕ) (n : Node) (a : Above) → node x ≡ Some n → n.above ≡ Some a → HasParent node n a → way_to node x ≡ further (way_to node a.parent) x (link_of n)
way-further node x n a at above (p, p_at, deep, begin) =
    let depth : n.depth ≡ suc p.depth = omega (arith, deep) in
    way_to-at node x n at ∙ ap (λ d. way_from node d x) depth
    ∙ (λ i. further (way_from node p.depth (parent_at-is node x n a at above i)) x (link_at-is node x n at i))
    ∙ ap (λ (w : Way). further w x (link_of n)) (sym (way_to-at node a.parent p p_at))

-- ---- ways that stay

module _ (a b : Nodes) (more : Extends a b) where
  same_at : {A : Type 0} (f : Node → A) (none : A) (x : ℕ) (n : Node) → a x ≡ Some n → option_map_or (λ (q : Node). f (fixed q)) (b x) none ≡ option_map_or (λ (q : Node). f (fixed q)) (a x) none
  same_at f none x n at =
      let (m, here, same) = more x n at in
      ap (λ o. option_map_or (λ (q : Node). f (fixed q)) o none) here ∙ ap f same ∙ ap (λ o. option_map_or (λ (q : Node). f (fixed q)) o none) (sym at)

  module _ (parents : HaveParents a) where
    pub way_from-same : (d x : ℕ) (n : Node) → a x ≡ Some n → n.depth ≡ d → way_from b d x ≡ way_from a d x
    way_from-same zero x n at deep = λ i. record { numbers = x ∷ []; root = same_at (λ (q : Node). q.name) [] x n at i; links = [] }
    way_from-same (suc d) x n at deep =
        let way = by (way_from-same d) n.above refl (parents x n at) in
        λ i. further (way i) x (same_at link_of (record { rule = []; lo = pos 0; hi = Free }) x n at i)
      where
        by : ((y : ℕ) (q : Node) → a y ≡ Some q → q.depth ≡ d → way_from b d y ≡ way_from a d y) → (o : Option Above) → n.above ≡ o → MatchOption o (n.depth ≡ 0) (HasParent a n) → way_from b d (parent_at b x) ≡ way_from a d (parent_at a x)
        by again None above root = absurd (omega (arith, deep, root))
        by again (Some up) above (p, p_at, depth, begin) =
            let is : parent_at a x ≡ up.parent = parent_at-is a x n up at above in
            let same : parent_at b x ≡ parent_at a x = same_at (λ (q : Node). option_map_or (λ (p : ℕ). p) (parent_of q) 0) 0 x n at in
            ap (way_from b d) (same ∙ is) ∙ again up.parent p p_at (omega (arith, deep, depth)) ∙ ap (way_from a d) (sym is)

    pub way-same : (x : ℕ) (n : Node) → a x ≡ Some n → way_to b x ≡ way_to a x
    way-same x n at =
        let (m, here, same) = more x n at in
        way_to-at b x m here ∙ ap (λ d. way_from b d x) (ap (λ (q : Node). q.depth) same) ∙ way_from-same n.depth x n at refl ∙ sym (way_to-at a x n at)

-- ---- nodes and their ways

pub way_of_live : (node : Nodes) (x : ℕ) → IsSome (node x) → 0 < length (way_to node x).numbers
way_of_live node x live = by (node x) refl live
  where
    by : (o : Option Node) → node x ≡ o → IsSome o → 0 < length (way_to node x).numbers
    by None at live = absurd (cc)
    by (Some n) at live = let long = length-way node x n at in omega (arith, long)

pub live_by_way : (node : Nodes) (x : ℕ) → 0 < length (way_to node x).numbers → IsSome (node x)
live_by_way node x some = let (n, at) = node_on_way node x some in subst (λ (o : Option Node). IsSome o) (sym at) refl
