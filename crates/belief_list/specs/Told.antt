-- What is told of differences, and the order in which it is told.
use Rattle.std.specs.Prelude.{◌≡◌, ℕ, Bool, true, false, not, ◌&&◌, ◌||◌, List, map, Option, Some, None, nat_eq}
use Rattle.std.specs.List.Sorted.{IsSortedBy}
use Rattle.std.specs.Option.{option_and_then, option_eq, is_some, is_none}
use Rattle.std.specs.declared.cmp.Ordering.{Ordering}
use Rattle.std.specs.Ordering.{int_cmp, nat_cmp, is_lt, on, then_cmp}
use Rattle.std.specs.Cmp.Lexicographic.{slice_cmp}
use Rattle.tmm_model.specs.Moments.{Moment, is_derived, moment_of, printed}
use Rattle.spots.specs.Forest.{Forest, member, moment_at}
use Rattle.occ_tree.specs.Ranks.{rank_cmp}
use Rattle.occ_tree.specs.Standing.{State}
use Rattle.belief_list.specs.declared.left_nodes.LeftNode.{LeftNode}
use Rattle.belief_list.specs.declared.kept_rows.KeptRow.{KeptRow}
use Rattle.belief_list.specs.declared.kept_rows.Difference.{Difference}
use Rattle.belief_list.specs.declared.told_changes.Told.{Told}
use Rattle.belief_list.specs.LeftNodes.{if_derived}
use Rattle.belief_list.specs.Tables.{item_under}

-- what clips a node, by what is kept of it
abbrev pub clip_of : Option KeptRow → Option ℕ
clip_of row = option_and_then (λ r. r.clip) row

-- ---- what is told of a present node

-- whether the node was not there, and a rule brings it about
abbrev pub is_entered : Forest → Difference → Bool
is_entered f d = is_none d.was && is_derived (moment_at f d.node)

-- whether the node was clipped, and is no longer
abbrev pub is_loosened : Difference → Bool
is_loosened d = is_some (clip_of d.was) && is_none (clip_of d.now)

-- the clip, if it is a node and not the one that was
abbrev pub if_new : Forest → Option ℕ → Option ℕ → Option ℕ
if_new f was None = None
if_new f was (Some by) = elim (is_some (member f by) && not (option_eq nat_eq was (Some by))) [ true ↦ Some by | false ↦ None ]

-- what clips the node, if that is new
abbrev pub new_clip : Forest → Difference → Option ℕ
new_clip f d = if_new f (clip_of d.was) (clip_of d.now)

-- whether something is told of the node
abbrev pub is_told : Forest → Difference → Bool
is_told f d = is_some (member f d.node) && (is_entered f d || (is_loosened d || is_some (new_clip f d)))

-- the occurrence of the node, if it is told that it entered
abbrev pub entered_at : Forest → Difference → Option Moment
entered_at f d = elim (is_entered f d) [ true ↦ Some (moment_at f d.node) | false ↦ None ]

-- the occurrence of the node, if it is told that it is clipped no longer
abbrev pub loosened_at : Forest → Difference → Option Moment
loosened_at f d = elim (is_loosened d) [ true ↦ Some (moment_at f d.node) | false ↦ None ]

-- the occurrence of the node with its clip, if that is told
abbrev pub clipped_at : Forest → Difference → Option (Moment × Moment)
clipped_at f d = elim (new_clip f d) [ Some by ↦ Some (moment_at f d.node, moment_at f by) | None ↦ None ]

-- ---- what is told of a node that is gone

-- the occurrence of a node that was there and is gone, if a rule brings it about
abbrev pub left_at : List LeftNode → List (Option ℕ) → Difference → Option Moment
left_at left places d =
    elim (is_some d.was && is_none d.now) [
      | true ↦ option_and_then (λ n. if_derived (moment_of n.occ.now)) (item_under left places d.node)
      | false ↦ None
    ]

-- ---- the order in which it is told

-- the differences of which something is told
abbrev pub differences_of : List Told → List Difference
differences_of told = map (λ t. t.difference) told

-- by the date, and then by the bytes of the word
abbrev pub told_cmp : Told → Told → Ordering
told_cmp = then_cmp (on (λ t. t.early) int_cmp) (on (λ t. t.word.items) (slice_cmp nat_cmp))

-- the occurrences of tokens, each with that of what clips it, by their numbers
abbrev pub pairs_of : Forest → List (ℕ × ℕ) → List (Moment × Moment)
pairs_of f pairs = map (λ p. (moment_at f p.0, moment_at f p.1)) pairs

-- present nodes are in their order
abbrev pub AreRanked : State → List Difference → Type 0
AreRanked s told = IsSortedBy (λ p q. is_lt (rank_cmp s p.node q.node)) told

-- none stands before one that it comes after
abbrev pub AreInOrder : List Told → Type 0
AreInOrder told = IsSortedBy (λ p q. is_lt (told_cmp p q)) told

-- these are the date that was kept of a node, and the word of what is told of it
pub record IsToldThen (left : List LeftNode) (places : List (Option ℕ)) (t : Told) : Type 0 where
  pub early : (r : KeptRow) → t.difference.was ≡ Some r → t.early ≡ r.early
  pub word : (k : Moment) → left_at left places t.difference ≡ Some k → t.word.items ≡ printed k
