-- Occurrences as numbered nodes.
use Rattle.std.specs.Prelude.{◌≡◌, ◌≢◌, ℕ, ◌<◌, List, [], ◌∷◌, ◌++◌, map, length, Option, Some, None, IsSome, IsNone, MatchOption}
use Rattle.std.specs.Option.{option_map_or}
use Rattle.tmm_model.specs.declared.point.PointName.TheVariants.{Start, Begin}
use Rattle.tmm_model.specs.declared.token.Shape.{Shape}
use Rattle.tmm_model.specs.declared.token.Shape.TheVariants.{Event, Persistence, Span}
use Rattle.tmm_model.specs.Moments.{Moment, At, along}
use Rattle.spots.specs.declared.link.Link.{Link}

-- what a node says of its occurrence: the name of its root, the rules that lead on from it, the
-- numbers of the root's point and of a span's end, its kind or fact, the class of a fact, and its
-- shape
pub record Member : Type 0 where
  pub root : List ℕ
  pub links : List Link
  pub begin : ℕ
  pub «end» : Option ℕ
  pub what : List ℕ
  pub class : Option (List ℕ)
  pub shape : Shape

-- the node of each number, none where the number is of no node
abbrev pub Forest : Type 0
Forest = ℕ → Option Member

-- the node of a number, none where the number is of no node
abbrev pub member : Forest → ℕ → Option Member
member f x = f x

-- the number is of a node
abbrev pub IsLive : Forest → ℕ → Type 0
IsLive f x = IsSome (member f x)

-- the rules that lead to the node, the first one first
abbrev pub rules_of : Member → List (List ℕ)
rules_of m = map (λ l. l.rule) m.links

-- the moment at which the occurrence begins
abbrev pub moment : Member → Moment
moment m = along (At (Begin m.root)) (rules_of m)

-- the moment of the node of a number
abbrev pub moment_at : Forest → ℕ → Moment
moment_at f x = option_map_or moment (member f x) (At Start)

-- ---- what enters and leaves

-- at this number, which was of none, stands this node, and all others stay
pub record Enters (old new : Forest) (x : ℕ) (m : Member) : Type 0 where
  pub free : member old x ≡ None
  pub entered : member new x ≡ Some m
  pub others : (y : ℕ) → y ≢ x → member new y ≡ member old y

-- every node stays
abbrev pub SameMembers : Forest → Forest → Type 0
SameMembers old new = (x : ℕ) → member new x ≡ member old x

-- a declared event, token or span
abbrev pub root_member : List ℕ → ℕ → Option ℕ → List ℕ → Option (List ℕ) → Shape → Member
root_member name begin «end» what class shape = record { root = name; links = []; begin = begin; end = «end»; what = what; class = class; shape = shape }

-- what a rule leads to from an event
abbrev pub child_member : Member → Link → List ℕ → Option (List ℕ) → Shape → Member
child_member m link what class shape = record { root = m.root; links = m.links ++ link ∷ []; begin = m.begin; end = None; what = what; class = class; shape = shape }

-- no node is of the root
abbrev pub IsNoRoot : Forest → List ℕ → Type 0
IsNoRoot f name = (x : ℕ) (m : Member) → member f x ≡ Some m → m.root ≢ name

-- a class is given exactly for what holds a fact
abbrev pub HasClass : Option (List ℕ) → Shape → Type 0
HasClass class Event = IsNone class
HasClass class Persistence = IsSome class
HasClass class Span = IsSome class

-- an end is given exactly for a span
abbrev pub HasEnd : Option ℕ → Shape → Type 0
HasEnd «end» Event = IsNone «end»
HasEnd «end» Persistence = IsNone «end»
HasEnd «end» Span = IsSome «end»

-- the node is an event with room for one rule more, and no node is its effect by this rule
pub record IsTrigger (f : Forest) (m : Member) (rule : List ℕ) : Type 0 where
  pub event : m.shape ≡ Event
  pub room : length m.links < 100000
  pub new : (y : ℕ) (n : Member) → member f y ≡ Some n → n.root ≡ m.root → rules_of n ≢ rules_of m ++ rule ∷ []

-- the rules of y begin with those of x, from the same root
abbrev pub IsBelow : Member → Member → Type 0
IsBelow x y = (x.root ≡ y.root) × (rest : List (List ℕ)) × (rules_of y ≡ rules_of x ++ rest)

-- the node x is gone with all below it, and all others stay
pub record Withdraws (old new : Forest) (x : Member) : Type 0 where
  pub gone : (y : ℕ) (m : Member) → member old y ≡ Some m → IsBelow x m → member new y ≡ None
  pub others : (y : ℕ) (m : Member) → member old y ≡ Some m → (IsBelow x m → ⊥) → member new y ≡ Some m
  pub none : (y : ℕ) → member old y ≡ None → member new y ≡ None

-- ---- what is asked of nodes

-- the number of the occurrence at this moment, none where no node is of it
abbrev pub IsFound : Forest → Moment → Option ℕ → Type 0
IsFound f k found =
    MatchOption found ((x : ℕ) (m : Member) → member f x ≡ Some m → moment m ≢ k) (λ x. (m : Member) × (member f x ≡ Some m) × (moment m ≡ k))

-- each occurrence has one number
abbrev pub IsOnce : Forest → Type 0
IsOnce f = (x y : ℕ) (m n : Member) → member f x ≡ Some m → member f y ≡ Some n → moment m ≡ moment n → x ≡ y

-- ---- what is told of a node

-- the parent of m is the event whose effect it is; a root has none
abbrev pub IsParent : Forest → Member → Option ℕ → Type 0
IsParent f m parent =
    MatchOption parent (m.links ≡ []) (λ y. (n : Member) × (link : Link) × (member f y ≡ Some n) × (n.root ≡ m.root) × (m.links ≡ n.links ++ link ∷ []))

-- the last of the names of a root and its rules
abbrev pub last_name : List ℕ → List Link → List ℕ
last_name name [] = name
last_name name (l ∷ links) = last_name l.rule links
