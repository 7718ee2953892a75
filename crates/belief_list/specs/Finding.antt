-- Differences of what is kept of nodes, as they are found.
use Rattle.std.specs.Prelude.{◌≡◌, ◌⊎◌, ℕ, ◌<◌, ◌≤◌, ℤ, ◌<ℤ◌, ◌≤ℤ◌, Bool, true, false, ◌||◌, List, length, Option, Some, None, IfSome, MatchOption, nat_eq, slice_index_or}
use Rattle.std.specs.List.{All, Contains, IsDistinct, list_any}
use Rattle.std.specs.Option.{option_and_then, is_some}
use Rattle.tmm_model.specs.Beliefs.{are_rivals}
use Rattle.tmm_model.specs.Points.{same_name}
use Rattle.tmm_model.specs.Standing.{Standing}
use Rattle.premise_list.specs.Rivalries.{rivalries, AreChanges}
use Rattle.premise_list.specs.States.{States}
use Rattle.dist_net.specs.Net.{Net}
use Rattle.spots.specs.Forest.{Forest, Member, member, IsLive}
use Rattle.occ_tree.specs.Standing.{Kept, forest, present, early}
use Rattle.projection.specs.Queues.{weight_at}
use Rattle.occ_tree.specs.Tokens.{numbers_in}
use Rattle.supports.specs.Behind.{IsClip}
use Rattle.belief_list.specs.declared.differing.Touched.{Touched}
use Rattle.belief_list.specs.declared.kept_rows.KeptRow.{KeptRow}
use Rattle.belief_list.specs.declared.kept_rows.Difference.{Difference}
use Rattle.belief_list.specs.KeptRows.{row_under, rows_after, numbers_of}
use Rattle.belief_list.specs.Told.{clip_of}

-- ---- what is to be kept of a node

-- What clips the node, whose class this is: nothing clips an event; of a token it is found anew, or
-- it is what clipped it, where its class is not among those that may have been touched.
abbrev pub IsClipNow : Standing → Net → Forest → List (List ℕ) → Option KeptRow → ℕ → Option (List ℕ) → Option ℕ → Type 0
IsClipNow s net g classes was x None clip = clip ≡ None
IsClipNow s net g classes was x (Some class) clip =
    (IsClip s net g x clip × IfSome clip (IsLive g)) ⊎ ((Contains classes class → ⊥) × (clip ≡ option_and_then (λ r. r.clip) was))

-- the row has the date of the node, what it counts, and what clips it
pub record IsNow (s : Standing) (net : Net) (tree : Kept) (classes : List (List ℕ)) (was : Option KeptRow) (x : ℕ) (m : Member) (r : KeptRow) : Type 0 where
  pub date : r.early ≡ early (present tree) x
  pub weight : r.weight ≡ weight_at s (forest (present tree)) x
  pub clip : IsClipNow s net (forest (present tree)) classes was x m.class r.clip

-- what is to be kept under a number: the row of the node, nothing where none is
abbrev pub IsNowUnder : Standing → Net → Kept → List (List ℕ) → Option KeptRow → ℕ → Option KeptRow → Type 0
IsNowUnder s net tree classes was x now =
    MatchOption now (member (forest (present tree)) x ≡ None) (λ r. (m : Member) × (member (forest (present tree)) x ≡ Some m) × IsNow s net tree classes was x m r)

-- ---- marks of numbers that were looked at

-- whether the number was looked at; one beyond the marks was, as no node has it
abbrev pub mark_under : List Bool → ℕ → Bool
mark_under marks x = slice_index_or marks x true

-- what is marked stays marked
abbrev pub MarksStay : List Bool → List Bool → Type 0
MarksStay old new = (x : ℕ) → mark_under old x ≡ true → mark_under new x ≡ true

-- all these numbers are
abbrev pub AreMarked : List Bool → List ℕ → Type 0
AreMarked marks nodes = (x : ℕ) → Contains nodes x → mark_under marks x ≡ true

-- ---- what an edit touched

-- no premise of either list says that another fact contradicts this one
abbrev pub IsUnrivalled : States → List ℕ → Type 0
IsUnrivalled lists f = (g : List ℕ) → (are_rivals lists.committed f g ≡ false) × (are_rivals lists.present f g ≡ false)

-- the date of the node is there, if it is a token
abbrev pub HasDate : Kept → List ℤ → ℕ → Type 0
HasDate tree dates x = (m : Member) → member (forest (present tree)) x ≡ Some m → is_some m.class ≡ true → Contains dates (early (present tree) x)

-- the date of each token among the nodes is there
abbrev pub HaveDates : Kept → List ℕ → List ℤ → Type 0
HaveDates tree nodes dates = (x : ℕ) → Contains nodes x → HasDate tree dates x

-- the date of each token among the nodes is there, or no premise of either list says of any facts
-- that they contradict each other, and no date is asked for
abbrev pub HaveDatesAsked : States → Kept → List ℕ → List ℤ → Type 0
HaveDatesAsked lists tree nodes dates = ((f : List ℕ) → IsUnrivalled lists f) ⊎ HaveDates tree nodes dates

-- the dates rise
abbrev pub AreRising : List ℤ → Type 0
AreRising dates = (i j : ℕ) (d : ℤ) → i ≤ j → j < length dates → slice_index_or dates i d ≤ℤ slice_index_or dates j d

-- it is the first of the dates that is later than this one, none exactly where none is
abbrev pub IsFirstAfter : List ℤ → ℤ → Option ℤ → Type 0
IsFirstAfter dates date found =
    MatchOption found ((d : ℤ) → Contains dates d → d ≤ℤ date) (λ t. Contains dates t × (date <ℤ t) × ((d : ℤ) → Contains dates d → date <ℤ d → t ≤ℤ d))

-- whether the pair has the fact
abbrev pub has_fact : List ℕ → List ℕ × List ℕ → Bool
has_fact f pair = same_name pair.0 f || same_name pair.1 f

-- **This is what an edit touched**: all these numbers are marked, the dates of the tokens among
-- them are there where a premise sets facts against each other, and so are the pairs of facts that
-- one of both lists alone sets so.
pub record AreTouched (lists : States) (tree : Kept) (nodes : List ℕ) (touched : Touched) : Type 0 where
  pub marks : AreMarked touched.marks.items nodes
  pub dates : HaveDatesAsked lists tree nodes touched.dates.items
  pub pairs : AreChanges (rivalries lists.committed.premises) (rivalries lists.present.premises) touched.pairs.items

-- ---- tokens of touched classes whose clips stay

-- what clips a token has an earlier date than this
abbrev pub IsClippedBefore : List (Option KeptRow) → Option ℕ → ℤ → Type 0
IsClippedBefore kept clip d = (c : ℕ) × (q : KeptRow) × (clip ≡ Some c) × (row_under kept c ≡ Some q) × (q.early <ℤ d)

-- What clips a token is not marked as touched, and if `next` is the date of the first touched token
-- behind it, what clips it has an earlier date.
pub record IsAhead (kept : List (Option KeptRow)) (touched : List Bool) (clip : Option ℕ) (next : Option ℤ) : Type 0 where
  pub free : (c : ℕ) → clip ≡ Some c → mark_under touched c ≡ false
  pub ahead : (d : ℤ) → next ≡ Some d → IsClippedBefore kept clip d

-- no pair that changed has the fact, and what clips a token of this date comes before all touched
-- ones of later dates, whatever their facts
pub record IsBeforeAll (kept : List (Option KeptRow)) (touched : Touched) (f : List ℕ) (clip : Option ℕ) (date : ℤ) : Type 0 where
  pub unchanged : list_any (has_fact f) touched.pairs.items ≡ false
  pub next : Option ℤ
  pub first : IsFirstAfter touched.dates.items date next
  pub ahead : IsAhead kept touched.marks.items clip next

-- no token that premises set against one of this fact and date comes before what clips it
abbrev pub IsPastRivals : States → List (Option KeptRow) → Touched → List ℕ → Option ℕ → ℤ → Type 0
IsPastRivals lists kept touched f clip date = IsUnrivalled lists f ⊎ IsBeforeAll kept touched f clip date

-- premises set the same facts against this one in both lists
abbrev pub AreRivalsKept : States → List ℕ → Type 0
AreRivalsKept lists f = (g : List ℕ) → are_rivals lists.committed f g ≡ are_rivals lists.present f g

-- the token is of the class, or premises set its fact against this one
abbrev pub MayClip : Standing → List ℕ → List ℕ → Member → Type 0
MayClip s class f m = (m.class ≡ Some class) ⊎ ((is_some m.class ≡ true) × (are_rivals s f m.what ≡ true))

-- **A token of the class keeps what clipped it**: neither it nor that was touched, premises set the
-- same facts against its own as before, and each touched token that contradicts it and has a later
-- date than it has a later date than what clipped it, too.
pub record KeepsClip (lists : States) (tree : Kept) (nodes : List ℕ) (kept : List (Option KeptRow)) (class : List ℕ) (x : ℕ) : Type 0 where
  pub own : Contains nodes x → ⊥
  pub rivals : (m : Member) → member (forest (present tree)) x ≡ Some m → AreRivalsKept lists m.what
  pub free : (c : ℕ) → clip_of (row_under kept x) ≡ Some c → Contains nodes c → ⊥
  pub ahead : (m n : Member) (y : ℕ) → member (forest (present tree)) x ≡ Some m → member (forest (present tree)) y ≡ Some n → MayClip lists.present class m.what n → Contains nodes y
      → early (present tree) x <ℤ early (present tree) y → IsClippedBefore kept (clip_of (row_under kept x)) (early (present tree) y)

-- the tokens of the class that are not wanted keep what clipped them
abbrev pub AreOthersKept : States → Kept → List ℕ → List (Option KeptRow) → List ℕ → List Bool → Type 0
AreOthersKept lists tree nodes kept class wanted =
    (i : ℕ) → i < length ((present tree).tokens class) → slice_index_or wanted i true ≡ false → KeepsClip lists tree nodes kept class (slice_index_or (numbers_in ((present tree).tokens class)) i 0)

-- each token of the class is marked, or keeps what clipped it
abbrev pub IsClassSettled : States → Kept → List ℕ → List (Option KeptRow) → List Bool → List ℕ → Type 0
IsClassSettled lists tree nodes kept marks class =
    (x : ℕ) (m : Member) → member (forest (present tree)) x ≡ Some m → m.class ≡ Some class → (mark_under marks x ≡ true) ⊎ KeepsClip lists tree nodes kept class x

-- each token of each of the classes is, or does
abbrev pub AreClassesSettled : States → Kept → List ℕ → List (Option KeptRow) → List Bool → List (List ℕ) → Type 0
AreClassesSettled lists tree nodes kept marks classes = (class : List ℕ) → Contains classes class → IsClassSettled lists tree nodes kept marks class

-- ---- both together

-- **These are the differences of the numbers that were looked at**: with them the rows are what is
-- to be kept under each of these, and each is told once, with the row that was there.
pub record AreFound (s : Standing) (net : Net) (tree : Kept) (classes : List (List ℕ)) (kept : List (Option KeptRow)) (marks : List Bool) (found : List Difference) : Type 0 where
  pub told : (x : ℕ) → mark_under marks x ≡ true → IsNowUnder s net tree classes (row_under kept x) x (rows_after kept found x)
  pub marked : All (λ d. mark_under marks d.node ≡ true) found
  pub places : All (λ d. d.node < length kept) found
  pub were : All (λ d. d.was ≡ row_under kept d.node) found
  pub once : IsDistinct nat_eq (numbers_of found)
