-- Entries of rows, one after the other.
use Rattle.std.proofs.Common.{◌≡◌, ◌∙◌, ℕ, ◌+◌, ◌<◌, List, [], ◌∷◌, ◌++◌, take, length, sym, ap, subst, append-nil, append_assoc}
use Rattle.std.specs.Prelude.{Option, slice_index_or}
use Rattle.std.proofs.lemmas.List.{take_more}
use Rattle.tmm_model.specs.declared.bound.Bound.{Bound}
use Rattle.timeline.specs.declared.entry.Entry.{Entry}
use Rattle.timeline.specs.declared.row.Row.{Row}
use Rattle.timeline.specs.Entries.{IsEntryOf, AreEntriesOf, AddsEntries}

module _ (until : Row → Option Bound) where
  pub adds_none : (old : List Entry) → AddsEntries [] until old old
  adds_none old = record { made = []; grown = sym (append-nil old); own = tt }

  one_entry : (rows : List Row) (made : List Entry) (r : Row) (e : Entry) → AreEntriesOf until rows made → IsEntryOf r (until r) e → AreEntriesOf until (rows ++ r ∷ []) (made ++ e ∷ [])
  one_entry [] [] r e all own = (own, tt)
  one_entry (x ∷ rows) (y ∷ made) r e all own = (all.0, one_entry rows made r e all.1 own)
  one_entry [] (y ∷ made) r e all own = absurd all
  one_entry (x ∷ rows) [] r e all own = absurd all

  pub adds_more : (rows : List Row) (i : ℕ) (r : Row) (e : Entry) (old now new : List Entry) → i < length rows → r ≡ slice_index_or rows i r → AddsEntries (take i rows) until old now → IsEntryOf r (until r) e → new ≡ now ++ e ∷ []
      → AddsEntries (take (i + 1) rows) until old new
  adds_more rows i r e old now new below is adds own grown = record {
    made = adds.made ++ e ∷ [];
    grown = grown ∙ ap (λ l. l ++ e ∷ []) adds.grown ∙ append_assoc old adds.made (e ∷ []);
    own = subst (λ l. AreEntriesOf until l (adds.made ++ e ∷ [])) (sym (take_more rows i r below ∙ ap (λ y. take i rows ++ y ∷ []) (sym is))) (one_entry (take i rows) adds.made r e adds.own own);
  }
