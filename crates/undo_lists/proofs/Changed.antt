-- Which lists a log changes.
use Rattle.std.proofs.Common.{◌≡◌, ◌≢◌, ℕ, List, [], ◌∷◌, ◌++◌, length, map, reverse, refl, sym, ◌∙◌, subst}
use Rattle.std.specs.List.{Contains}
use Rattle.std.proofs.lemmas.List.{reverse-append, append-nil}
use Rattle.std.proofs.lemmas.List.Elements.{Contains-push, Contains-append_left}
use Rattle.undo_lists.specs.declared.change.Change.{Change}
use Rattle.undo_lists.specs.declared.change.Change.TheVariants.{Inserted, Removed}
use Rattle.undo_lists.specs.Changes.{before, undone, list_of}
use Rattle.undo_lists.proofs.Written.{with_list-other}

module _ {T : Type 0} where
  -- the numbers of the lists of a log, the latest change first
  abbrev pub lists_of : List (Change T) → List ℕ
  lists_of log = reverse (map list_of log)

  -- a change leaves all lists but its own
  before-other : (change : Change T) (lists : ℕ → List T) (n : ℕ) → n ≢ list_of change → before change lists n ≡ lists n
  before-other (Inserted k place) lists n other = with_list-other lists k _ n other
  before-other (Removed k place item) lists n other = with_list-other lists k _ n other

  lists_of-first : (change : Change T) (log : List (Change T)) → lists_of (change ∷ log) ≡ lists_of log ++ list_of change ∷ []
  lists_of-first change log = reverse-append (list_of change ∷ []) (map list_of log)

  -- **A list of another number is as it was before all changes.**
  pub others_stay : (log : List (Change T)) (lists : ℕ → List T) (n : ℕ) → (Contains (lists_of log) n → ⊥) → lists n ≡ undone log lists n
  others_stay [] lists n other = refl
  others_stay (change ∷ log) lists n other =
      let first = lists_of-first change log in
      let not_own : n ≢ list_of change = λ same. other (subst (λ l. Contains l n) (sym first) (subst (Contains (lists_of log ++ list_of change ∷ [])) (sym same) (Contains-push (lists_of log) (list_of change)))) in
      let not_rest : Contains (lists_of log) n → ⊥ = λ on. other (subst (λ l. Contains l n) (sym first) (Contains-append_left (lists_of log) (list_of change ∷ []) n on)) in
      others_stay log lists n not_rest ∙ sym (before-other change (undone log lists) n not_own)

  -- where nothing of the log is left, all numbers are told
  pub all_told : (all log : List (Change T)) (told : List ℕ) → length log ≡ 0 → told ++ lists_of log ≡ lists_of all → told ≡ lists_of all
  all_told all [] told none so_far = sym (append-nil told) ∙ so_far
  all_told all (change ∷ log) told none so_far = absurd (cc)
