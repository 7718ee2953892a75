-- The nodes of a fact's tokens, and the first of them.
use Rattle.std.specs.Prelude.{◌≡◌, ℕ, ◌<◌, true, false, List, [], map, take, length, ◌-◌, Option, Some, None, unwrap_or, IsSome, slice_index_or}
use Rattle.std.specs.List.{filter_map}
use Rattle.tmm_model.specs.declared.token.TokenRow.{TokenRow}
use Rattle.tmm_model.specs.Answers.{Fault, Finding, fails, fault, most_blames, failing, tokens_for}
use Rattle.tmm_model.specs.Beliefs.{token_of, holder}
use Rattle.tmm_model.specs.Maps.{TimeMap, built}
use Rattle.tmm_model.specs.Moments.{Moment, At}
use Rattle.tmm_model.specs.Points.{same_name}
use Rattle.tmm_model.specs.Standing.{Standing, far_in}
use Rattle.tmm_model.specs.declared.point.PointName.TheVariants.{Start}
use Rattle.spots.specs.declared.spot.Spot.{Spot}
use Rattle.spots.specs.declared.spot.Spot.TheVariants.{Declared, Node}
use Rattle.spots.specs.Forest.{Forest, Member, member, moment_at}
use Rattle.tt_query.specs.declared.firsts.Placed.{Placed}

-- the node at which a row stands
abbrev pub node_at : Spot → Option ℕ
node_at (Node x) = Some x
node_at (Declared p) = None

-- the node of a row, none where it is of another fact
abbrev pub node_for : List ℕ → TokenRow Spot → Option ℕ
node_for fact row = elim (same_name row.fact fact) [ true ↦ node_at row.spot | false ↦ None ]

-- the nodes of the rows of a fact, in their order
abbrev pub nodes_of : List ℕ → List (TokenRow Spot) → List ℕ
nodes_of fact rows = filter_map (node_for fact) rows

-- the token of the node stands at the place among the rows
pub record IsPlaced (rows : List (TokenRow Spot)) (t : Placed) : Type 0 where
  pub within : t.place < length rows
  pub at : (d : TokenRow Spot) → (slice_index_or rows t.place d).spot ≡ Node t.node

-- the nodes of tokens
abbrev pub placed_nodes : List Placed → List ℕ
placed_nodes tokens = map (λ t. t.node) tokens

-- the token that stands at a node, at a moment; one of no meaning where none does
abbrev pub token_at_node : TimeMap → Forest → ℕ → TokenRow Moment
token_at_node m f x = unwrap_or (token_of m.list (moment_at f x)) (record { spot = At Start; end = None; fact = []; class = [] })

-- a token, and why it does not support its fact throughout p to q
abbrev pub blame_at : TimeMap → Forest → Moment → Moment → ℕ → Moment × Fault
blame_at m f p q x = (moment_at f x, fault m p q (token_at_node m f x))

-- what is found of a fact that has no supporter
abbrev pub failing_of : TimeMap → List ℕ → Moment → Moment → Finding
failing_of m fact p q = failing m p q (tokens_for m fact)

-- the node is of a token of the fact
abbrev pub IsOfFact : Forest → List ℕ → ℕ → Type 0
IsOfFact f fact x = (m : Member) × (member f x ≡ Some m) × IsSome m.class × (m.what ≡ fact)

-- the node is of a token of a fact that no believed token supports throughout p to q
abbrev pub HasNoSupporter : Standing → Forest → Moment → Moment → ℕ → Type 0
HasNoSupporter s f p q x = (fact : List ℕ) × IsOfFact f fact x × (holder s (far_in s.premises) (built s).believed fact p q ≡ None)

-- what is found of a fact that has these tokens, in their order, and no supporter
abbrev pub found_of : TimeMap → Forest → Moment → Moment → List ℕ → Finding
found_of m f p q nodes = fails (map (blame_at m f p q) (take most_blames nodes)) (length nodes - most_blames)
