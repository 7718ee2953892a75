-- The spots of the tokens that a rule watches.
use Rattle.std.specs.Prelude.{◌≡◌, ◌⊎◌, ℕ, true, false, List, Some, IsSome}
use Rattle.std.specs.List.{All}
use Rattle.tmm_model.specs.declared.premise.Premise.{Premise}
use Rattle.tmm_model.specs.Beliefs.{class_of, says_against}
use Rattle.tmm_model.specs.Points.{same_name}
use Rattle.tmm_model.specs.Sorts.{class_in}
use Rattle.tmm_model.specs.Standing.{Standing}
use Rattle.list_theory.proofs.Elements.{In}
use Rattle.spots.specs.declared.spot.Spot.{Spot}
use Rattle.spots.specs.declared.spot.Spot.TheVariants.{Declared, Node}
use Rattle.spots.specs.Forest.{Forest, Member, member}
use Rattle.joined.specs.Gaps.{IsClassSpot, IsFactSpot}

-- the class of each token is that of its fact
abbrev pub AreClassed : Standing → Forest → Type 0
AreClassed s f = (x : ℕ) (m : Member) (class : List ℕ) → member f x ≡ Some m → m.class ≡ Some class → class ≡ class_of s m.what

-- a class declares each of these facts
abbrev pub AreDeclared : Standing → List (List ℕ) → Type 0
AreDeclared s facts = All (λ fact. IsSome (class_in s.premises fact)) facts

-- the spot is one of a token of the class of one of these facts
abbrev pub IsSpotRead : Standing → Forest → List (List ℕ) → Spot → Type 0
IsSpotRead s f facts p = (fact : List ℕ) × In fact facts × IsClassSpot f (class_of s fact) p

-- the premise says of one of these facts, which is another one, that this one contradicts it
abbrev pub IsSaid : List (List ℕ) → Premise → List ℕ → Type 0
IsSaid facts premise fact = (g : List ℕ) × In g facts × (same_name g fact ≡ false) × (says_against g fact premise ≡ true)

-- the spot is one of a token of whose fact the premise says that it contradicts one of these facts
abbrev pub IsSpotSaid : Forest → List (List ℕ) → Premise → Spot → Type 0
IsSpotSaid f facts premise p = (fact : List ℕ) × IsSaid facts premise fact × IsFactSpot f fact p

-- so one of the premises says
abbrev pub IsSpotAgainst : Forest → List (List ℕ) → List Premise → Spot → Type 0
IsSpotAgainst f facts premises p = (premise : Premise) × In premise premises × IsSpotSaid f facts premise p

-- the spot is one of a token of this class and this fact
abbrev pub IsTokenSpot : Forest → List ℕ → List ℕ → Spot → Type 0
IsTokenSpot f class fact p =
    (x : ℕ) × (m : Member) × (member f x ≡ Some m) × (m.class ≡ Some class) × (m.what ≡ fact) × ((p ≡ Node x) ⊎ ((e : ℕ) × (m.end ≡ Some e) × (p ≡ Declared e)))
