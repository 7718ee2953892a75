-- What present nodes are compared by before their words.
use Rattle.std.specs.Prelude.{◌≡◌, ℕ, zero, suc, ◌+◌, ◌*◌, ◌<◌, List, ◌++◌, map, take, Some, slice_index_or}
use Rattle.std.specs.List.Sorted.{IsSortedBy}
use Rattle.std.specs.declared.cmp.Ordering.{Ordering}
use Rattle.std.specs.Ordering.{int_cmp, nat_cmp, is_lt, on, then_cmp}
use Rattle.tmm_model.specs.Points.{slashed}
use Rattle.spots.specs.Forest.{Member, member, IsLive, rules_of}
use Rattle.occ_tree.specs.Ranks.{rank_cmp}
use Rattle.occ_tree.specs.Standing.{State, forest, early}
use Rattle.belief_list.specs.declared.kept_rows.Difference.{Difference}
use Rattle.belief_list.specs.declared.told_changes.Headed.{Headed}

-- the differences of nodes
abbrev pub told_in : List Headed → List Difference
told_in headed = map (λ h. h.difference.now) headed

-- the first bytes of a text as a number, so many of them; zeros stand behind a shorter text
abbrev pub front : ℕ → List ℕ → ℕ
front zero text = 0
front (suc n) text = front n text * 256 + slice_index_or text n 0

-- the first of the text are bytes, so many of them
abbrev pub AreBytes : ℕ → List ℕ → Type 0
AreBytes n text = (i : ℕ) → i < n → slice_index_or text i 0 < 256

-- the root, and `/` where a rule leads on from it: with this the word of the node begins
abbrev pub head_text : Member → List ℕ
head_text m = m.root ++ take 1 (slashed (rules_of m))

-- it has the date of its node, and the first bytes of the node's word
pub record IsHeaded (s : State) (h : Headed) : Type 0 where
  pub live : IsLive (forest s) h.difference.now.node
  pub date : h.early ≡ early s h.difference.now.node
  pub head : (m : Member) → member (forest s) h.difference.now.node ≡ Some m → h.head ≡ front 8 (head_text m)
  pub bytes : (m : Member) → member (forest s) h.difference.now.node ≡ Some m → AreBytes 8 (head_text m)

-- by their heads, and then as their nodes
abbrev pub head_cmp : State → Headed → Headed → Ordering
head_cmp s = then_cmp (on (λ h. h.head) nat_cmp) (on (λ h. h.difference.now.node) (rank_cmp s))

-- by their dates, and then by their heads
abbrev pub headed_cmp : State → Headed → Headed → Ordering
headed_cmp s = then_cmp (on (λ h. h.early) int_cmp) (head_cmp s)

-- none stands before one that it comes after
abbrev pub AreHeadsInOrder : State → List Headed → Type 0
AreHeadsInOrder s headed = IsSortedBy (λ p q. is_lt (headed_cmp s p q)) headed
