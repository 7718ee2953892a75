-- What a log of changes leads back to.
use Rattle.std.proofs.Common.{◌≡◌, ℕ, ◌<◌, ◌≤◌, List, [], ◌∷◌, ◌++◌, length, refl, sym, ap, ◌∙◌, subst, arith, slice_index_or, slice_set, lt_of_lt_of_le, insert, remove}
use Rattle.std.proofs.lemmas.List.Edits.{length-remove, length-insert}
use Rattle.undo_lists.specs.declared.change.Change.{Change}
use Rattle.undo_lists.specs.declared.change.Change.TheVariants.{Inserted, Removed}
use Rattle.undo_lists.specs.Rooms.{ListRoom, list_at, items_in, rooms_in, with_item, without_item, HaveGrown}
use Rattle.undo_lists.specs.Changes.{before, undone, CanUndo, CanUndoAll}
use Rattle.undo_lists.proofs.Written.{IsWritten, IsWritten-inserted, IsWritten-removed, read_there, with_list-same, with_list-back, remove-insert, insert-remove}

module _ {T : Type 0} where
  -- ---- the latest change

  undone-push : (log : List (Change T)) (change : Change T) (lists : ℕ → List T) → undone (log ++ change ∷ []) lists ≡ undone log (before change lists)
  undone-push [] change lists = refl
  undone-push (first ∷ log) change lists = ap (before first) (undone-push log change lists)

  CanUndoAll-push : (room : ℕ → ℕ) (log : List (Change T)) (change : Change T) (lists : ℕ → List T) → CanUndo room change lists → CanUndoAll room log (before change lists) → CanUndoAll room (log ++ change ∷ []) lists
  CanUndoAll-push room [] change lists can all = (can, tt)
  CanUndoAll-push room (first ∷ log) change lists can (own, rest) = (subst (CanUndo room first) (sym (undone-push log change lists)) own, CanUndoAll-push room log change lists can rest)

  CanUndoAll-pop : (room : ℕ → ℕ) (log : List (Change T)) (change : Change T) (lists : ℕ → List T) → CanUndoAll room (log ++ change ∷ []) lists → CanUndo room change lists × CanUndoAll room log (before change lists)
  CanUndoAll-pop room [] change lists (can, all) = (can, tt)
  CanUndoAll-pop room (first ∷ log) change lists (own, rest) =
      let (can, all) = CanUndoAll-pop room log change lists rest in
      (can, (subst (CanUndo room first) (undone-push log change lists) own, all))

  -- what holds where the latest change is undone
  pub record IsUndone (room : ℕ → ℕ) (log rest : List (Change T)) (change : Change T) (lists : ℕ → List T) : Type 0 where
    pub can : CanUndo room change lists
    pub all : CanUndoAll room rest (before change lists)
    pub leads : undone rest (before change lists) ≡ undone log lists

  pub latest : (room : ℕ → ℕ) (log rest : List (Change T)) (change : Change T) (lists : ℕ → List T) → log ≡ rest ++ change ∷ [] → CanUndoAll room log lists → IsUndone room log rest change lists
  latest room log rest change lists is all =
      let (can, others) = CanUndoAll-pop room rest change lists (subst (λ l. CanUndoAll room l lists) is all) in
      record { can = can; all = others; leads = sym (ap (λ l. undone l lists) is ∙ undone-push rest change lists) }

  -- ---- more room

  CanUndo-more : (old new : ℕ → ℕ) → ((n : ℕ) → old n ≤ new n) → (change : Change T) (lists : ℕ → List T) → CanUndo old change lists → CanUndo new change lists
  CanUndo-more old new more (Inserted n place) lists can = can
  CanUndo-more old new more (Removed n place item) lists (can, room) = (can, lt_of_lt_of_le room (more n))

  CanUndoAll-more : (old new : ℕ → ℕ) → ((n : ℕ) → old n ≤ new n) → (log : List (Change T)) (lists : ℕ → List T) → CanUndoAll old log lists → CanUndoAll new log lists
  CanUndoAll-more old new more [] lists all = tt
  CanUndoAll-more old new more (change ∷ log) lists (can, all) = (CanUndo-more old new more change (undone log lists) can, CanUndoAll-more old new more log lists all)

  pub CanUndoAll-grown : (old new : List (ListRoom T)) (log same : List (Change T)) → HaveGrown old new → same ≡ log → CanUndoAll (rooms_in old) log (items_in old) → CanUndoAll (rooms_in new) same (items_in new)
  CanUndoAll-grown old new log same grown is all =
      subst (λ l. CanUndoAll (rooms_in new) l (items_in new)) (sym is)
      (subst (CanUndoAll (rooms_in new) log) (sym grown.items) (CanUndoAll-more (rooms_in old) (rooms_in new) grown.rooms log (items_in old) all))

  -- ---- a change that is logged

  -- the log with the change can be undone, and leads back to where it led; no room has changed
  pub record IsLogged (old new : List (ListRoom T)) (log log_after : List (Change T)) (lists : ℕ → List T) : Type 0 where
    pub all : CanUndoAll (rooms_in new) log_after (items_in new)
    pub present : items_in new ≡ lists
    pub committed : undone log_after (items_in new) ≡ undone log (items_in old)
    pub rooms : rooms_in new ≡ rooms_in old

  IsLogged-by : (old new : List (ListRoom T)) (log log_after : List (Change T)) (change : Change T) (lists : ℕ → List T) → IsWritten old new lists → log_after ≡ log ++ change ∷ [] → CanUndoAll (rooms_in old) log (items_in old) → CanUndo (rooms_in old) change lists → before change lists ≡ items_in old → IsLogged old new log log_after lists
  IsLogged-by old new log log_after change lists written is all can back =
      let room = rooms_in old in
      let can_new : CanUndo room change (items_in new) = subst (CanUndo room change) (sym written.items) can in
      let back_new : before change (items_in new) ≡ items_in old = ap (before change) written.items ∙ back in
      let all_new : CanUndoAll room (log ++ change ∷ []) (items_in new) = CanUndoAll-push room log change (items_in new) can_new (subst (CanUndoAll room log) (sym back_new) all) in
      record {
        all = subst (λ r. CanUndoAll r log_after (items_in new)) (sym written.rooms) (subst (λ l. CanUndoAll room l (items_in new)) (sym is) all_new);
        present = written.items;
        committed = ap (λ l. undone l (items_in new)) is ∙ undone-push log change (items_in new) ∙ ap (undone log) back_new;
        rooms = written.rooms;
      }

  -- the list of a number was read as `was` and written as `l`
  module _ (lists : List (ListRoom T)) (log log_after : List (Change T)) (n place : ℕ) (item : T) (was l : ListRoom T) (read : was ≡ slice_index_or lists n was) (room : l.room ≡ was.room) (all : CanUndoAll (rooms_in lists) log (items_in lists)) where
    pub IsLogged-inserted : place ≤ length (items_in lists n) → length (items_in lists n) < rooms_in lists n → l.items ≡ insert was.items place item → log_after ≡ log ++ Inserted n place ∷ [] → IsLogged lists (slice_set lists n l) log log_after (with_item (items_in lists) n place item)
    IsLogged-inserted fits less is pushed =
        let old = items_in lists in
        let items : List T = insert (old n) place item in
        let own = with_list-same old n items in
        let long = length-insert (old n) place item fits in
        IsLogged-by lists (slice_set lists n l) log log_after (Inserted n place) (with_item old n place item) (IsWritten-inserted lists n place was l read room item less is) pushed all
        (subst (λ (xs : List T). place < length xs) (sym own) (omega (arith, long, fits)))
        (with_list-back old n items (remove (with_item old n place item n) place) (ap (λ (xs : List T). remove xs place) own ∙ remove-insert (old n) place item fits))

    pub IsLogged-removed : place < length (items_in lists n) → item ≡ slice_index_or was.items place item → l.items ≡ remove was.items place → length l.items < l.room → log_after ≡ log ++ Removed n place item ∷ [] → IsLogged lists (slice_set lists n l) log log_after (without_item (items_in lists) n place)
    IsLogged-removed there at is left pushed =
        let it : was ≡ list_at lists n = read_there lists n place was there read in
        let old = items_in lists in
        let items : List T = remove (old n) place in
        let own = with_list-same old n items in
        let long = length-remove (old n) place there in
        let less : length items < rooms_in lists n =
        subst (λ r. length items < r) (room ∙ ap (λ (q : ListRoom T). q.room) it) (subst (λ (xs : List T). length xs < l.room) (is ∙ ap (λ (q : ListRoom T). remove q.items place) it) left) in
        IsLogged-by lists (slice_set lists n l) log log_after (Removed n place item) (without_item old n place) (IsWritten-removed lists n place was l read room there is) pushed all
        (subst (λ (xs : List T). (place ≤ length xs) × (length xs < rooms_in lists n)) (sym own) (omega (arith, long, there), less))
        (with_list-back old n items (insert (without_item old n place n) place item) (ap (λ (xs : List T). insert xs place item) own ∙ insert-remove (old n) place item there (at ∙ ap (λ (q : ListRoom T). slice_index_or q.items place item) it)))
