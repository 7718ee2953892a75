-- A token that enters or leaves, and the events at which it bears on no decision.
use Rattle.std.specs.Prelude.{◌≡◌, ◌⊎◌, ℕ, ℤ, ◌≤ℤ◌, Bool, true, false, not, ◌&&◌, ◌||◌, List, Option, Some, None, IfSome}
use Rattle.std.specs.Borrow.{Bor}
use Rattle.std.specs.List.{All, list_any}
use Rattle.tmm_model.specs.declared.bound.Bound.{Bound}
use Rattle.tmm_model.specs.declared.token.TokenRow.{TokenRow}
use Rattle.tmm_model.specs.Points.{same_name}
use Rattle.tmm_model.specs.Tokens.{is_before}
use Rattle.dist_net.specs.Net.{Net}
use Rattle.row_links.specs.Lists.{IsOn}
use Rattle.spots.specs.declared.spot.Spot.{Spot}
use Rattle.spots.specs.declared.spot.Spot.TheVariants.{Node}
use Rattle.spots.specs.Forest.{Forest, Member, member, IsLive}
use Rattle.spots.specs.Spots.{spot_distance, token_row}
use Rattle.occ_tree.specs.OfLists.{IsTreeIn}
use Rattle.occ_tree.specs.Places.{forest}
use Rattle.occ_tree.specs.Standing.{Kept, present, early}
use Rattle.revisions.specs.Walls.{begins_by, AreWallsAt}
use Rattle.bearing.specs.declared.moving_tokens.Window.{Window}

-- ---- what is asked

-- the token is that of a node that neither enters nor leaves
pub record IsOfOther (f : Forest) (moving : List ℕ) (k : TokenRow Spot) : Type 0 where
  pub number : ℕ
  pub node : Member
  pub here : member f number ≡ Some node
  pub stays : IsOn moving number → ⊥
  pub is : token_row number node ≡ Some k

-- two tokens of other nodes are walls between the token k and node t
pub record IsWalledOff (net : Net) (f : Forest) (moving : List ℕ) (t : ℕ) (k : TokenRow Spot) : Type 0 where
  pub one : TokenRow Spot
  pub other : TokenRow Spot
  pub one_stays : IsOfOther f moving one
  pub other_stays : IsOfOther f moving other
  pub walls : AreWallsAt (spot_distance net f) (Node t) k one other

-- the token of node x, which enters or leaves with these, bears on no decision at node t
pub record IsSparedBy (net : Net) (f : Forest) (moving : List ℕ) (x t : ℕ) : Type 0 where
  pub node : Member
  pub here : member f x ≡ Some node
  pub row : TokenRow Spot
  pub is : token_row x node ≡ Some row
  pub spared : (begins_by (spot_distance net f) (Node t) row ≡ false) ⊎ IsWalledOff net f moving t row

-- ---- how it is told

-- whether two of these tokens have surely begun by node t, and are of two facts
abbrev pub are_two : (Spot → Spot → Bound) → ℕ → List (TokenRow Spot) → Bool
are_two far t walls = list_any (λ v. begins_by far (Node t) v && list_any (λ w. begins_by far (Node t) w && not (same_name v.fact w.fact)) walls) walls

-- whether the token has not surely begun by node t, or two of the others have
abbrev pub is_spared : (Spot → Spot → Bound) → TokenRow Spot → List (TokenRow Spot) → ℕ → Bool
is_spared far k walls t = not (begins_by far (Node t) k) || are_two far t walls

-- from the date on the token has surely begun at each event
abbrev pub HasBegunFrom : Net → Kept → TokenRow Spot → ℤ → Type 0
HasBegunFrom net tree k date = (t : ℕ) → IsLive (forest tree) t → date ≤ℤ early (present tree) t → begins_by (spot_distance net (forest tree)) (Node t) k ≡ true

-- from the date on two of the tokens have, of two facts
abbrev pub AreTwoFrom : Net → Kept → List (TokenRow Spot) → ℤ → Type 0
AreTwoFrom net tree walls date = (t : ℕ) → IsLive (forest tree) t → date ≤ℤ early (present tree) t → are_two (spot_distance net (forest tree)) t walls ≡ true

-- ---- a window

-- the token is that of a node
abbrev pub IsOfNode : Forest → TokenRow Spot → Type 0
IsOfNode f k = (x : ℕ) × (m : Member) × (member f x ≡ Some m) × (token_row x m ≡ Some k)

-- the token w, of the class of k and of another node, is surely after k, which has no end
pub record IsWall (net : Net) (f : Forest) (moving : List ℕ) (k w : TokenRow Spot) : Type 0 where
  pub of_other : IsOfOther f moving w
  pub class : w.class ≡ k.class
  pub after : is_before (spot_distance net f) k.spot w.spot ≡ true
  pub endless : k.end ≡ None

-- the nodes by whose distances a window tells
abbrev pub tree_in : Window → Kept
tree_in w = w.order.tree.now

-- the network by whose distances it tells
abbrev pub net_in : Window → Net
net_in w = w.order.net.now.present

-- the window is that of the token of node x, which enters or leaves with these: all others in it
-- are walls behind it, and from the date that it tells two of them have surely begun
pub record IsWindowOf (moving : List ℕ) (x : ℕ) (w : Window) : Type 0 where
  pub tree : IsTreeIn (net_in w) (tree_in w)
  pub node : Member
  pub here : member (forest (tree_in w)) x ≡ Some node
  pub is : token_row x node ≡ Some w.token
  pub walls : All (IsWall (net_in w) (forest (tree_in w)) moving w.token) w.walls.items
  pub until : IfSome w.until (AreTwoFrom (net_in w) (tree_in w) w.walls.items)

-- it is the window of some token
abbrev pub IsWindow : Window → Type 0
IsWindow w = (moving : List ℕ) × (x : ℕ) × IsWindowOf moving x w

-- whether by the window its token spares node t; without a window none is spared
abbrev pub spares_in : Option (Bor Window) → ℕ → Bool
spares_in None t = false
spares_in (Some w) t = is_spared (spot_distance (net_in w.now) (forest (tree_in w.now))) w.now.token w.now.walls.items t
