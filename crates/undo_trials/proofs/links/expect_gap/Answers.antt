use Rattle.std.proofs.Common.{◌≡◌, ℕ, ◌<◌, ◌≤◌, List, [], ◌∷◌, length, nat_eq, ◌∙◌, refl, ap, arith, rules}
use Rattle.std.specs.Prelude.{Some, None, slice_index_or}
use Rattle.std.specs.List.{list_any}
use Rattle.row_links.specs.Lists.{Lists, list_of}
use Rattle.row_links.specs.Families.{family_of}
use Rattle.undo_trials.proofs.links.expect_gap.Goals as goal

pub link_last-requires : goal.link_last-requires
link_last-requires g c =
    let links = c.reserve_rows.new.self in
    let made : (f h : ℕ) → slice_index_or (Some 0 ∷ Some 0 ∷ []) f None ≡ Some h → (3 ≤ (family_of links f).rows) × (h < length (family_of links f).lists) = search rules in
    let room = made 1 0 refl in
    let same = (c.reserve_rows.ensures.kept.each 1).lists in
    (omega arith, (room.1, (omega (arith, room.0), λ h. ap (list_any (nat_eq 2)) (same h ∙ ap (λ (l : List Lists). list_of (family_of l 1) h) c.requires))))
