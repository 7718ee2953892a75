-- Nodes, and the ways that lead down to them.
use Rattle.std.specs.Prelude.{◌≡◌, ◌≢◌, ℕ, zero, suc, ℤ, pos, ◌+ℤ◌, ◌+◌, ◌*◌, true, List, [], ◌∷◌, ◌++◌, take, Option, Some, None, MatchOption}
use Rattle.std.specs.Option.{option_map, option_map_or}
use Rattle.ancestors.specs.Jumps.{jump_depth}
use Rattle.tmm_model.specs.declared.token.Shape.{Shape}
use Rattle.tmm_model.specs.declared.bound.Bound.TheVariants.{Free}
use Rattle.tmm_model.specs.Bounds.{IsWithin}
use Rattle.tmm_model.specs.Names.{is_name}
use Rattle.spots.specs.declared.link.Link.{Link}
use Rattle.occ_tree.specs.declared.node.Node.{Node}
use Rattle.occ_tree.specs.declared.node.Above.{Above}
use Rattle.spots.specs.Forest.{Forest, Member, HasClass}
use Rattle.spots.specs.Light.{AreLight}
use Rattle.spots.specs.Sums.{AreSums}

-- the node of each number, none where the number is of no node
abbrev pub Nodes : Type 0
Nodes = ℕ → Option Node

-- the rule that leads to a node from its parent; of a root, its name
abbrev pub link_of : Node → Link
link_of n = record { rule = n.name; lo = n.lo; hi = n.hi }

-- the number of the node right above, none for a root
abbrev pub parent_of : Node → Option ℕ
parent_of n = option_map (λ (a : Above). a.parent) n.above

-- the number of the root of node x
abbrev pub root_of : ℕ → Node → ℕ
root_of x n = option_map_or (λ (a : Above). a.root) n.above x

-- the number of the node to which node x jumps; a root stays where it is
abbrev pub jump_of : ℕ → Node → ℕ
jump_of x n = option_map_or (λ (a : Above). a.jump) n.above x

-- ---- ways

-- a way down from a root: the numbers of the nodes on it, the name of the root, and the rules on it
pub record Way : Type 0 where
  pub numbers : List ℕ
  pub root : List ℕ
  pub links : List Link

-- a way of no nodes
abbrev pub no_way : Way
no_way = record { numbers = []; root = []; links = [] }

-- the way, and on by a rule to node x
abbrev pub further : Way → ℕ → Link → Way
further w x link = record { numbers = w.numbers ++ x ∷ []; root = w.root; links = w.links ++ link ∷ [] }

-- the name of a node
abbrev pub name_at : Nodes → ℕ → List ℕ
name_at node x = option_map_or (λ (n : Node). n.name) (node x) []

-- the rule that leads to a node
abbrev pub link_at : Nodes → ℕ → Link
link_at node x = option_map_or link_of (node x) (record { rule = []; lo = pos 0; hi = Free })

-- the number of the node right above
abbrev pub parent_at : Nodes → ℕ → ℕ
parent_at node x = option_map_or (λ (n : Node). option_map_or (λ (p : ℕ). p) (parent_of n) 0) (node x) 0

-- the way to node x from the node that is so many above
abbrev pub way_from : Nodes → ℕ → ℕ → Way
way_from node zero x = record { numbers = x ∷ []; root = name_at node x; links = [] }
way_from node (suc d) x = further (way_from node d (parent_at node x)) x (link_at node x)

-- the way to a node, its root first
abbrev pub way_to : Nodes → ℕ → Way
way_to node x = option_map_or (λ (n : Node). way_from node n.depth x) (node x) no_way

-- ---- occurrences

-- what a node says of its occurrence, to which this way leads
abbrev pub member_of : Way → Node → Member
member_of w n = record { root = w.root; links = w.links; begin = n.begin; end = n.end; what = n.what; class = n.class; shape = n.shape }

-- the nodes as occurrences, by their numbers
abbrev pub forest_in : Nodes → Forest
forest_in node x = option_map (member_of (way_to node x)) (node x)

-- the earliest date that is kept of a node, 0 where there is none
abbrev pub date_in : Nodes → ℕ → ℤ
date_in node x = option_map_or (λ (n : Node). n.early) (node x) (pos 0)

-- each date that is kept is that of the root and the least delays on the way
abbrev pub FollowRoots : Nodes → Type 0
FollowRoots node = (x : ℕ) (n : Node) → node x ≡ Some n → n.early ≡ date_in node (root_of x n) +ℤ n.sums.low

-- ---- what holds of nodes

-- the node right above is there, and has one rule less
abbrev pub HasParent : Nodes → Node → Above → Type 0
HasParent node n a = (p : Node) × (node a.parent ≡ Some p) × (n.depth ≡ p.depth + 1) × (n.begin ≡ p.begin)

-- the date is within what a root's date and its delays come to
abbrev pub IsDated : Node → Type 0
IsDated n = IsWithin (1000000000000 + n.depth * 1000000000) n.early

-- the node stands where it says, and has the sums of the rules that lead to it
pub record IsPlaced (node : Nodes) (x : ℕ) (n : Node) : Type 0 where
  pub parent : MatchOption n.above (n.depth ≡ 0) (HasParent node n)
  pub root : (way_to node (root_of x n)).numbers ≡ take 1 (way_to node x).numbers
  pub jump : (way_to node (jump_of x n)).numbers ≡ take (jump_depth n.depth + 1) (way_to node x).numbers
  pub light : AreLight (way_to node x).links
  pub sums : AreSums n.sums (way_to node x).links
  pub word : is_name n.name ≡ true
  pub class : HasClass n.class n.shape
  pub date : IsDated n

-- each node stands where it says, and no two of one name have one parent
pub record ArePlaced (node : Nodes) : Type 0 where
  pub each : (x : ℕ) (n : Node) → node x ≡ Some n → IsPlaced node x n
  pub apart : (x y : ℕ) (m n : Node) → node x ≡ Some m → node y ≡ Some n → parent_of m ≡ parent_of n → m.name ≡ n.name → x ≡ y

-- ---- a new node

-- a node that is to come is right below another
pub record ComesBelow (node : Nodes) (n : Node) (a : Above) : Type 0 where
  pub above : Node
  pub at : node a.parent ≡ Some above
  pub depth : n.depth ≡ above.depth + 1
  pub begin : n.begin ≡ above.begin
  pub root : a.root ≡ root_of a.parent above
  pub jump : (way_to node a.jump).numbers ≡ take (jump_depth (above.depth + 1) + 1) (way_to node a.parent).numbers
  pub light : AreLight ((way_to node a.parent).links ++ link_of n ∷ [])
  pub sums : AreSums n.sums ((way_to node a.parent).links ++ link_of n ∷ [])

-- a node that is to come stands where it says
pub record WillBePlaced (node : Nodes) (n : Node) : Type 0 where
  pub apart : (y : ℕ) (m : Node) → node y ≡ Some m → parent_of m ≡ parent_of n → m.name ≢ n.name
  pub root : n.above ≡ None → (n.depth ≡ 0) × AreSums n.sums []
  pub parent : (a : Above) → n.above ≡ Some a → ComesBelow node n a
  pub word : is_name n.name ≡ true
  pub class : HasClass n.class n.shape
  pub date : IsDated n

-- what a rule leads to from the event of a number, with its earliest date
pub record IsEffect (node : Nodes) (parent : ℕ) (link : Link) (what : List ℕ) (class : Option (List ℕ)) (list : Option ℕ) (shape : Shape) (n : Node) : Type 0 where
  pub parent_is : parent_of n ≡ Some parent
  pub link_is : link_of n ≡ link
  pub end_is : n.end ≡ None
  pub what_is : n.what ≡ what
  pub class_is : n.class ≡ class
  pub list_is : n.list ≡ list
  pub shape_is : n.shape ≡ shape
  pub early_is : n.early ≡ date_in node parent +ℤ link.lo

-- a declared event, token or span, with its earliest date
pub record IsRoot (name : List ℕ) (begin : ℕ) («end» : Option ℕ) (what : List ℕ) (class : Option (List ℕ)) (list : Option ℕ) (shape : Shape) (early : ℤ) (n : Node) : Type 0 where
  pub above_is : n.above ≡ None
  pub name_is : n.name ≡ name
  pub begin_is : n.begin ≡ begin
  pub end_is : n.end ≡ «end»
  pub what_is : n.what ≡ what
  pub class_is : n.class ≡ class
  pub list_is : n.list ≡ list
  pub shape_is : n.shape ≡ shape
  pub early_is : n.early ≡ early
