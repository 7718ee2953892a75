-- The occurrences of a timeline in their order, as the code has them.
use Rattle.std.specs.Prelude.{◌≡◌, List, [], ◌∷◌, ◌++◌, map, Option}
use Rattle.std.specs.List.Sorted.{IsPermutation, IsSorted}
use Rattle.std.specs.declared.cmp.Ordering.{Ordering}
use Rattle.std.specs.Ordering.{int_cmp, nat_cmp, on, then_cmp, eq_by_cmp}
use Rattle.std.specs.Cmp.{IsTotalOrder, IsEquivalence}
use Rattle.std.specs.Cmp.Lexicographic.{slice_cmp, nat_list_cmp_total}
use Rattle.std.proofs.lemmas.Cmp.{then_total, on_total, int_cmp_total, eq_by_cmp_equiv}
use Rattle.tmm_model.specs.declared.bound.Bound.{Bound}
use Rattle.tmm_model.specs.declared.timeline.Dated.{Dated}
use Rattle.tmm_model.specs.Maps.{TimeMap}
use Rattle.tmm_model.specs.Moments.{Moment, moment_of, printed}
use Rattle.tmm_model.specs.Points.{occ_word}
use Rattle.belief_theory.specs.Right.{Occurs}
use Rattle.list_theory.proofs.Distinct.{Distinct}
use Rattle.list_theory.proofs.Elements.{In}
use Rattle.timeline.specs.declared.entry.Entry.{Entry}
use Rattle.timeline.specs.declared.row.Row.{Row}
use Rattle.timeline.specs.Days.{played, played_row}
use Rattle.timeline.specs.Rows.{moment}
use Rattle.timeline.specs.Told.{row_of}

-- by the date, and then by the bytes of the word
abbrev pub entry_cmp : Entry → Entry → Ordering
entry_cmp = then_cmp (on (λ (e : Entry). e.dated.date) int_cmp) (on (λ (e : Entry). e.word.items) (slice_cmp nat_cmp))

pub entry_total : IsTotalOrder entry_cmp
entry_total = then_total (on_total (λ (e : Entry). e.dated.date) int_cmp_total) (on_total (λ (e : Entry). e.word.items) nat_list_cmp_total)

pub entry_equiv : IsEquivalence (eq_by_cmp entry_cmp)
entry_equiv = eq_by_cmp_equiv entry_total

-- what occurs
abbrev pub occurs_in : Entry → Moment
occurs_in e = moment_of e.dated.occ

-- the entry is of the row, and holds until then
pub record IsEntryOf (row : Row) (lasting : Option Bound) (e : Entry) : Type 0 where
  pub word : e.word.items ≡ occ_word row.occ
  pub date : e.dated.date ≡ row.date
  pub is : occurs_in e ≡ moment row
  pub what : e.dated.what ≡ row.what
  pub until : e.dated.until ≡ lasting

-- the entries are of the rows, one after the other, each of which holds until then
abbrev pub AreEntriesOf : (Row → Option Bound) → List Row → List Entry → Type 0
AreEntriesOf until [] [] = Unit {0}
AreEntriesOf until (r ∷ rows) (e ∷ entries) = IsEntryOf r (until r) e × AreEntriesOf until rows entries
AreEntriesOf until rows entries = ⊥

-- behind the entries that were there stand those of the rows
pub record AddsEntries (rows : List Row) (until : Row → Option Bound) (old new : List Entry) : Type 0 where
  pub made : List Entry
  pub grown : new ≡ old ++ made
  pub own : AreEntriesOf until rows made

-- the rows are those of the entries, in order
pub record IsInOrder (entries : List Entry) (told : List Dated) : Type 0 where
  pub sorted : List Entry
  pub permutation : IsPermutation entries sorted
  pub in_order : IsSorted entry_cmp sorted
  pub rows : told ≡ map (λ e. e.dated) sorted

-- the entry says of what occurs in the map what the timeline does
pub record IsEntry (m : TimeMap) (e : Entry) : Type 0 where
  pub occurs : Occurs m.list (occurs_in e)
  pub word : e.word.items ≡ printed (occurs_in e)
  pub row : row_of e.dated ≡ played_row m (played m) (occurs_in e)

-- the entries are of all that occurs in the map, each once
pub record AreEntries (m : TimeMap) (entries : List Entry) : Type 0 where
  pub each : (e : Entry) → In e entries → IsEntry m e
  pub once : Distinct (map occurs_in entries)
  pub into : (x : Moment) → In x (map occurs_in entries) → In x (played m)
  pub back : (x : Moment) → In x (played m) → In x (map occurs_in entries)
