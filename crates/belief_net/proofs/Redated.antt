-- Roots that get the dates of their points.
use Rattle.std.proofs.Common.{◌≡◌, ◌∙◌, ℕ, [], Some, None, ap, subst, inl, inr}
use Rattle.std.specs.List.{Contains}
use Rattle.tmm_model.specs.Moments.{negated}
use Rattle.dist_net.specs.Net.{Net, Nets, IsMovedAt, IsInUse}
use Rattle.list_theory.proofs.Elements.{In-from_Contains}
use Rattle.spots.specs.Forest.{Member, member}
use Rattle.spots.specs.OfLists.{HasList}
use Rattle.spots.proofs.InUse.{begin_in_use, zero_in_use}
use Rattle.occ_tree.specs.Dated.{DatesAll, point_early}
use Rattle.occ_tree.specs.Edits.{Stays}
use Rattle.occ_tree.specs.Standing.{Kept, present, forest, early, below}
use Rattle.occ_tree.specs.Places.{forest as nodes_of}
use Rattle.belief_net.specs.Dating.{KeepsNodes, AreDatedBefore}

pub keeps_dated : (net : Net) (old new : Kept) → DatesAll net old new → KeepsNodes old new
keeps_dated net old new dates = record { nodes = λ i y. dates.nodes y i; roots = dates.lists None; committed_is = dates.committed_is }

pub keeps_stayed : (old new : Kept) → Stays old new → KeepsNodes old new
keeps_stayed old new stays = record { nodes = ap forest stays.present_is; roots = ap (λ s. below s None) stays.present_is; committed_is = stays.committed_is }

no_member : (p : ℕ) → Contains [] p → ⊥
no_member p on = In-from_Contains [] p on

-- where no distance moved, each root has the date of its point
pub none_moved : (nets : Nets) (k : Kept) → HasList nets.present (nodes_of k) → AreDatedBefore nets k → nets.moved ≡ [] → IsMovedAt nets.moved nets.committed nets.present
    → IsInUse nets.committed.names 0
    → (x : ℕ) (m : Member) → member (nodes_of k) x ≡ Some m → m.links ≡ [] → early (present k) x ≡ point_early nets.present m.begin
none_moved nets k list before none moved start x m at root = elim (before x m at root) [
  | inl now ↦ now
  | inr then_ ↦ elim (moved m.begin 0 then_.0 start (begin_in_use nets.present (nodes_of k) list x m at) (zero_in_use nets.present (nodes_of k) list)) [
    | inl same ↦ then_.1 ∙ ap negated same
    | inr some ↦ elim some [
      | inl c ↦ absurd (no_member m.begin (subst (λ l. Contains l m.begin) none c))
      | inr c ↦ absurd (no_member 0 (subst (λ l. Contains l 0) none c))
    ]
  ]
]
