-- Laws of dates: what leaves the dates that are kept those of a network.
use Rattle.std.specs.Prelude.{◌≡◌, ℕ, ℤ, ◌+ℤ◌, List, [], Option, Some, None}
use Rattle.tmm_model.specs.declared.token.Shape.{Shape}
use Rattle.dist_net.specs.Net.{Net}
use Rattle.spots.specs.declared.link.Link.{Link}
use Rattle.spots.specs.Forest.{Forest, Member, child_member}
use Rattle.spots.specs.OfLists.{HasList}
use Rattle.spots.specs.Spots.{links_low, node_early}
use Rattle.occ_tree.specs.Dated.{IsDatedBy, point_early, DatesFollow, HaveRoots}
use Rattle.occ_tree.specs.Edits.{Grows, Shrinks}
use Rattle.occ_tree.specs.Standing.{State, forest, early}

-- the date of a node in a network is that of its point and the least delays on the way
abbrev pub PointsDateNodes : Type 0
PointsDateNodes =
    (net : Net) (f : Forest) (x : ℕ) (m : Member) → f x ≡ Some m → HasList net f → node_early net f x ≡ point_early net m.begin +ℤ links_low m.links

-- **A new root with the date of its point leaves all dates those of the network.**
abbrev pub RootsKeepDates : Type 0
RootsKeepDates =
    (net : Net) (old new : State) (x : ℕ) (m : Member) (date : ℤ) → m.links ≡ [] → date ≡ point_early net m.begin
    → Grows old new x m None date → HasList net (forest new) → IsDatedBy net old → IsDatedBy net new

-- **What a rule leads to, with the date of its event and the least delay, leaves them so.**
abbrev pub EffectsKeepDates : Type 0
EffectsKeepDates =
    (net : Net) (old new : State) (parent x : ℕ) (m : Member) (link : Link) (what : List ℕ) (class : Option (List ℕ)) (shape : Shape)
    → forest old parent ≡ Some m → Grows old new x (child_member m link what class shape) (Some parent) (early old parent +ℤ link.lo)
    → HasList net (forest new) → IsDatedBy net old → IsDatedBy net new

-- **Nodes that go leave them so.**
abbrev pub WithdrawalsKeepDates : Type 0
WithdrawalsKeepDates = (net : Net) (old new : State) (x : ℕ) → Shrinks old new x → IsDatedBy net old → IsDatedBy net new

-- **Where roots have the dates of their points, all dates are those of the network.**
abbrev pub RootsDateAll : Type 0
RootsDateAll =
    (net : Net) (s : State) → HasList net (forest s) → DatesFollow s → HaveRoots s
    → ((x : ℕ) (m : Member) → forest s x ≡ Some m → m.links ≡ [] → early s x ≡ point_early net m.begin)
    → IsDatedBy net s
