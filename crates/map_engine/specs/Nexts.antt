-- What is read of the believed occurrences once a pending edit is made.
use Rattle.std.specs.Prelude.{◌≡◌, ◌<◌, Bool, true, false, [], length, Option, Some, None}
use Rattle.std.specs.List.{All, filter_map}
use Rattle.tmm_model.specs.declared.premise.Edit.{Edit}
use Rattle.tmm_model.specs.declared.premise.Edit.TheVariants.{Add}
use Rattle.tmm_model.specs.declared.premise.Premise.{Premise}
use Rattle.tmm_model.specs.declared.premise.Premise.TheVariants.{Protect}
use Rattle.tmm_model.specs.Changes.{protection_name}
use Rattle.tmm_model.specs.Standing.{Standing}
use Rattle.belief_list.specs.KeptRows.{rows_after}
use Rattle.protections.specs.Found.{found_in, after_review, HasRoomFor}
use Rattle.map_engine.specs.declared.kept_view.KeptView.{KeptView}
use Rattle.map_engine.specs.declared.kept_view.NextView.{NextView}
use Rattle.map_engine.specs.declared.next.Next.{Next}
use Rattle.map_engine.specs.declared.next.Next.TheVariants.{Nothing, Same, Reviewed, Changed}
use Rattle.map_engine.specs.Reads.{Read, read_of}

-- what is read once these are taken over, where v was kept before
abbrev pub read_next : KeptView → NextView → Read
read_next v n = record { size = n.size; rows = rows_after v.rows.items n.differences.items; broken = after_review (found_in v.broken) n.review }

-- each node that differs has a place in what is kept, and each report has room
pub record HasPlacesFor (v : KeptView) (n : NextView) : Type 0 where
  pub places : All (λ d. d.node < length v.rows.items) n.differences.items
  pub room : HasRoomFor v.broken n.review

-- what is read when the edit is made, and v was kept before
abbrev pub after : KeptView → Next → Read
after v Nothing = read_of v
after v Same = read_of v
after v (Reviewed review) = record (read_of v) { broken = after_review (found_in v.broken) review }
after v (Changed n) = read_next v n

-- what is to be taken over has its places
abbrev pub HasPlacesIn : KeptView → Next → Type 0
HasPlacesIn v (Changed n) = HasPlacesFor v n
HasPlacesIn v (Reviewed review) = HasRoomFor v.broken review
HasPlacesIn v _ = Unit {0}

-- the list that a pending edit leaves, none where no edit is pending
abbrev pub pending_list : Standing → Next → Option Standing
pending_list s Nothing = None
pending_list s _ = Some s

-- no premise of the list is a protection
abbrev pub IsUnguarded : Standing → Type 0
IsUnguarded s = filter_map protection_name s.premises ≡ []

-- whether the premise is a protection
abbrev pub is_protection : Premise → Bool
is_protection (Protect name fact from to) = true
is_protection _ = false

-- whether the edit adds one
abbrev pub adds_protection : Edit → Bool
adds_protection (Add premise) = is_protection premise
adds_protection _ = false
