-- Rows that are gone, and the log that says so.
use Rattle.std.proofs.Common.{◌≡◌, ◌≢◌, ℕ, true, false, List, [], ◌∷◌, ◌++◌, Option, Some, None, refl, sym, ap, ◌∙◌, subst, inl, inr, option_map, ◌⊎◌}
use Rattle.std.proofs.lemmas.Bool.{cases_eq, both_ways}
use Rattle.undo_rows.specs.declared.row.Row.{Row}
use Rattle.undo_rows.specs.declared.change.Change.{Change}
use Rattle.undo_rows.specs.declared.change.Change.TheVariants.{Entered, Linked, Unlinked, Replaced, Removed}
use Rattle.undo_rows.specs.Tables.{Table, with_row}
use Rattle.undo_rows.specs.Changes.{before}
use Rattle.undo_rows.specs.RowsInside.{IsLogged, AreLogged}
use Rattle.undo_rows.proofs.Written.{with_row-same, with_row-other}

module _ {T : Type 0} where
  module _ (c : Change T) where
    pub IsLogged-push : (log : List (Change T)) (d : Change T) → IsLogged c log → IsLogged c (log ++ d ∷ [])
    IsLogged-push [] d logged = elim logged [ ]
    IsLogged-push (e ∷ log) d (inl same) = inl same
    IsLogged-push (e ∷ log) d (inr rest) = inr (IsLogged-push log d rest)

    pub IsLogged-last : (log : List (Change T)) → IsLogged c (log ++ c ∷ [])
    IsLogged-last [] = inl refl
    IsLogged-last (e ∷ log) = inr (IsLogged-last log)

    pub IsLogged-pop : (log : List (Change T)) (d : Change T) → IsLogged c (log ++ d ∷ []) → IsLogged c log ⊎ (d ≡ c)
    IsLogged-pop [] d (inl same) = inr same
    IsLogged-pop [] d (inr rest) = elim rest [ ]
    IsLogged-pop (e ∷ log) d (inl same) = inl (inl same)
    IsLogged-pop (e ∷ log) d (inr rest) = elim (IsLogged-pop log d rest) [ inl there ↦ inl (inr there) | inr last ↦ inr last ]

  -- logs that grow
  pub IsLogged-longer : (c : Change T) (log more : List (Change T)) → IsLogged c log → IsLogged c (log ++ more)
  IsLogged-longer c [] more logged = elim logged [ ]
  IsLogged-longer c (e ∷ log) more (inl same) = inl same
  IsLogged-longer c (e ∷ log) more (inr rest) = inr (IsLogged-longer c log more rest)

  -- another change was the latest
  other_latest : (x : ℕ) (log : List (Change T)) (d : Change T) → (d ≡ Removed x → ⊥) → IsLogged (Removed x) (log ++ d ∷ []) → IsLogged (Removed x) log
  other_latest x log d other logged = elim (IsLogged-pop (Removed x) log d logged) [ inl there ↦ there | inr same ↦ absurd (other same) ]

module _ {T : Type 0} {F : ℕ} where
  module _ (row : ℕ → Option (Row T F)) (log : List (Change T)) where
    -- a row that is written as `o` at y, and was gone there before if it is now
    written : (y : ℕ) (o : Option (Row T F)) (d : Change T) → ((r : Row T F) → o ≡ Some r → r.gone ≡ true → (s : Row T F) × (row y ≡ Some s) × (s.gone ≡ true)) → ((x : ℕ) → x ≢ y → d ≡ Removed x → ⊥) → ((r : Row T F) → o ≡ Some r → r.gone ≡ true → d ≡ Removed y → ⊥) → AreLogged row (log ++ d ∷ []) → AreLogged (with_row row y o) log
    written y o d own other mine logged x r is gone =
        elim (cases_eq x y) [
          | inl same ↦
              let here : o ≡ Some r = sym (with_row-same row y o) ∙ ap (with_row row y o) (sym same) ∙ is in
              let (s, was, was_gone) = own r here gone in
              subst (λ z. IsLogged (Removed z) log) (sym same) (other_latest y log d (mine r here gone) (logged y s was was_gone))
          | inr apart ↦ other_latest x log d (other x apart) (logged x r (sym (with_row-other row y o x apart) ∙ is) gone)
        ]

  -- the latest change undone
  pub AreLogged-before : (t : Table T F) (log : List (Change T)) (c : Change T) → AreLogged t.row (log ++ c ∷ []) → AreLogged (before c t).row log
  AreLogged-before t log (Entered y) logged = written t.row log y None (Entered y) (λ r is gone. let e : None ≡ Some r = is in absurd cc) (λ x apart same. cc) (λ r is gone same. cc) logged
  AreLogged-before t log (Linked f h y) logged = λ x r is gone. other_latest x log (Linked f h y) (λ same. cc) (logged x r is gone)
  AreLogged-before t log (Unlinked f gap y) logged = λ x r is gone. other_latest x log (Unlinked f gap y) (λ same. cc) (logged x r is gone)
  AreLogged-before t log (Replaced y value) logged = written t.row log y (option_map (λ (r : Row T F). record r { value = value }) (t.row y)) (Replaced y value) (own (t.row y) refl) (λ x apart same. cc) (λ r is gone same. cc) logged
    where
      own : (o : Option (Row T F)) → t.row y ≡ o → (r : Row T F) → option_map (λ (r : Row T F). record r { value = value }) o ≡ Some r → r.gone ≡ true → (s : Row T F) × (t.row y ≡ Some s) × (s.gone ≡ true)
      own None at r is gone = let e : None ≡ Some r = is in absurd cc
      own (Some s) at r is gone = let e : record s { value = value } ≡ r = cc in (s, at, ap (λ (q : Row T F). q.gone) e ∙ gone)
  AreLogged-before t log (Removed y) logged = written t.row log y (option_map (λ (r : Row T F). record r { gone = false }) (t.row y)) (Removed y) (own (t.row y) refl) (λ x apart same. let e : y ≡ x = cc in apart (sym e)) (mine (t.row y)) logged
    where
      stays : (s r : Row T F) → Some (record s { gone = false }) ≡ Some r → r.gone ≡ true → ⊥
      stays s r is gone = let e : record s { gone = false } ≡ r = cc in both_ways r.gone (ap (λ (q : Row T F). q.gone) (sym e)) gone

      own : (o : Option (Row T F)) → t.row y ≡ o → (r : Row T F) → option_map (λ (r : Row T F). record r { gone = false }) o ≡ Some r → r.gone ≡ true → (s : Row T F) × (t.row y ≡ Some s) × (s.gone ≡ true)
      own None at r is gone = let e : None ≡ Some r = is in absurd cc
      own (Some s) at r is gone = absurd (stays s r is gone)

      removed : Change T
      removed = Removed y

      mine : (o : Option (Row T F)) → (r : Row T F) → option_map (λ (r : Row T F). record r { gone = false }) o ≡ Some r → r.gone ≡ true → removed ≡ removed → ⊥
      mine None r is gone same = let e : None ≡ Some r = is in cc
      mine (Some s) r is gone same = stays s r is gone

  -- the latest change done with, where it was no removal
  pub AreLogged-done : (row : ℕ → Option (Row T F)) (log : List (Change T)) (c : Change T) → ((x : ℕ) → c ≡ Removed x → ⊥) → AreLogged row (log ++ c ∷ []) → AreLogged row log
  AreLogged-done row log c other logged x r is gone = other_latest x log c (other x) (logged x r is gone)

  -- and where a removed row was taken out
  pub AreLogged-freed : (row new : ℕ → Option (Row T F)) (log : List (Change T)) (y : ℕ) → ((r : Row T F) → new y ≡ Some r → r.gone ≡ false) → ((x : ℕ) → x ≢ y → new x ≡ row x) → AreLogged row (log ++ Removed y ∷ []) → AreLogged new log
  AreLogged-freed row new log y own others logged x r is gone =
      elim (cases_eq x y) [
        | inl same ↦ absurd (both_ways r.gone (own r (ap new (sym same) ∙ is)) gone)
        | inr apart ↦ other_latest x log (Removed y) (λ same. let e : y ≡ x = cc in apart (sym e)) (logged x r (sym (others x apart) ∙ is) gone)
      ]

  -- rows that were gone before
  pub AreLogged-more : (row new : ℕ → Option (Row T F)) (log log_after more : List (Change T)) → log_after ≡ log ++ more → ((x : ℕ) (r : Row T F) → new x ≡ Some r → r.gone ≡ true → (s : Row T F) × (row x ≡ Some s) × (s.gone ≡ true)) → AreLogged row log → AreLogged new log_after
  AreLogged-more row new log log_after more is were logged x r there gone =
      let (s, was, was_gone) = were x r there gone in
      subst (IsLogged (Removed x)) (sym is) (IsLogged-longer (Removed x) log more (logged x s was was_gone))

  -- one row written, that is not gone if it was not
  pub AreLogged-written : (row : ℕ → Option (Row T F)) (new : ℕ → Option (Row T F)) (log log_after more : List (Change T)) (y : ℕ) (o : Option (Row T F)) → new ≡ with_row row y o → log_after ≡ log ++ more → ((r : Row T F) → o ≡ Some r → r.gone ≡ true → (s : Row T F) × (row y ≡ Some s) × (s.gone ≡ true)) → AreLogged row log → AreLogged new log_after
  AreLogged-written row new log log_after more y o is longer own logged =
      AreLogged-more row new log log_after more longer (λ x r there gone. elim (cases_eq x y) [
        | inl same ↦
            let here : o ≡ Some r = sym (with_row-same row y o) ∙ ap (with_row row y o) (sym same) ∙ ap (λ (f : ℕ → Option (Row T F)). f x) (sym is) ∙ there in
            let (s, was, was_gone) = own r here gone in
            (s, ap row same ∙ was, was_gone)
        | inr apart ↦ (r, sym (with_row-other row y o x apart) ∙ ap (λ (f : ℕ → Option (Row T F)). f x) (sym is) ∙ there, gone)
      ]) logged

  -- a row removed, the removal of which is the latest change
  pub AreLogged-removed : (row new : ℕ → Option (Row T F)) (log log_after more : List (Change T)) (y : ℕ) → ((x : ℕ) → x ≢ y → new x ≡ row x) → log_after ≡ (log ++ more) ++ Removed y ∷ [] → AreLogged row log → AreLogged new log_after
  AreLogged-removed row new log log_after more y others is logged x r there gone =
      subst (IsLogged (Removed x)) (sym is) (elim (cases_eq x y) [
        | inl same ↦ subst (λ z. IsLogged (Removed z) ((log ++ more) ++ Removed y ∷ [])) (sym same) (IsLogged-last (Removed y) (log ++ more))
        | inr apart ↦ IsLogged-push (Removed x) (log ++ more) (Removed y) (IsLogged-longer (Removed x) log more (logged x r (sym (others x apart) ∙ there) gone))
      ])
