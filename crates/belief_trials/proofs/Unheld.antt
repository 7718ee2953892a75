-- Tokens of which none supports a fact.
use Rattle.std.proofs.Common.{◌≡◌, ◌∙◌, ℕ, List, Bool, true, false, Some, slice_index_or, refl, sym, ap, subst}
use Rattle.std.specs.List.{slice_get, list_any}
use Rattle.std.proofs.lemmas.Option.{slice_get_within, get_or_from_slice_get}
use Rattle.std.proofs.lemmas.List.Folds.{list_any_at}
use Rattle.tmm_model.specs.declared.bound.Bound.{Bound}
use Rattle.tmm_model.specs.declared.token.TokenRow.{TokenRow}
use Rattle.tmm_model.specs.Tokens.{supports}

-- where none passes a test, the one at a place does not
none_at : {A : Type 0} (test : A → Bool) (xs : List A) (k : ℕ) (x : A) → slice_get xs k ≡ Some x → list_any test xs ≡ false → test x ≡ false
none_at test xs k x at none = by (test x) refl
  where
    by : (b : Bool) → test x ≡ b → test x ≡ false
    by false e = e
    by true e =
        let any : list_any test xs ≡ true = list_any_at test xs k x (slice_get_within xs k x at) (ap test (get_or_from_slice_get xs k x x at) ∙ e) in
        cc

-- where no token supports the fact of the one at a place, that one does not
pub unheld : {P : Type 0} (contradicts : TokenRow P → TokenRow P → Bool) (far : P → P → Bound) (among tokens : List (TokenRow P)) (k : ℕ) (row x : TokenRow P) (p q : P) → row ≡ slice_index_or tokens k row → slice_get tokens k ≡ Some x
    → list_any (supports contradicts far among row.fact p q) tokens ≡ false → supports contradicts far among x.fact p q x ≡ false
unheld {P} contradicts far among tokens k row x p q here at none =
    subst (λ (t : TokenRow P). list_any (supports contradicts far among t.fact p q) tokens ≡ false → supports contradicts far among x.fact p q x ≡ false)
    (sym (here ∙ get_or_from_slice_get tokens k x row at)) (none_at (supports contradicts far among x.fact p q) tokens k x at) none
