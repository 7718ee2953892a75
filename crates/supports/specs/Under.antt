-- Nodes under others, and the way that leads to a node.
use Rattle.std.specs.Prelude.{◌≡◌, ℕ, List, [], ◌++◌, Some}
use Rattle.std.specs.List.{All, Contains}
use Rattle.spots.specs.declared.link.Link.{Link}
use Rattle.spots.specs.Forest.{Forest, Member, member}

-- y is node x or below it: behind the rules that lead to x come more that lead to y, from one root
pub record IsUnder (f : Forest) (x y : ℕ) : Type 0 where
  pub above : Member
  pub below : Member
  pub above_at : member f x ≡ Some above
  pub below_at : member f y ≡ Some below
  pub root : above.root ≡ below.root
  pub rest : List Link
  pub links : below.links ≡ above.links ++ rest

-- one of the numbers is of the node to which these rules lead from this root
pub record HasNode (f : Forest) (root : List ℕ) (links : List Link) (numbers : List ℕ) : Type 0 where
  pub node : ℕ
  pub m : Member
  pub among : Contains numbers node
  pub at : member f node ≡ Some m
  pub root_is : m.root ≡ root
  pub links_are : m.links ≡ links

-- the numbers are of nodes to which y belongs, and for each of the first rules that lead to y there
-- is the node to which these lead
pub record IsWay (f : Forest) (y : ℕ) (numbers : List ℕ) : Type 0 where
  pub own : All (λ x. IsUnder f x y) numbers
  pub all : (m : Member) (front back : List Link) → member f y ≡ Some m → m.links ≡ front ++ back → HasNode f m.root front numbers

-- the number is of the root from which rules lead to y
pub record IsRootOf (f : Forest) (x y : ℕ) : Type 0 where
  pub under : IsUnder f x y
  pub none : under.above.links ≡ []
