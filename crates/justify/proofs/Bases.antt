-- The declared points from which rules lead to spots.
use Rattle.std.proofs.Common.{◌≡◌, ◌∙◌, ℕ, ap, sym}
use Rattle.std.specs.Option.{option_map_or}
use Rattle.spots.specs.Forest.{Forest, Member, member, IsLive}
use Rattle.spots.proofs.Nodes.{node_at}
use Rattle.spots.specs.declared.node_row.NodeRow.{NodeRow}
use Rattle.spots.specs.Rows.{IsRowOf}

-- a row tells the number of the root's point
pub begin_is : (f : Forest) (x : ℕ) → IsLive f x → (row : NodeRow) → IsRowOf f x row → row.begin ≡ option_map_or (λ m. m.begin) (member f x) 0
begin_is f x live row is = let (m, at) = node_at f x live in (is m at).begin ∙ sym (ap (λ o. option_map_or (λ (n : Member). n.begin) o 0) at)
