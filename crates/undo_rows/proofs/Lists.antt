-- Lists after one family more has changed.
use Rattle.std.proofs.Common.{◌≡◌, ◌≢◌, ℕ, cond, ◌+◌, ◌<◌, ◌≤◌, List, Option, sym, ap, ◌∙◌, subst, inl, inr, arith}
use Rattle.std.proofs.lemmas.Bool.{cases_eq}
use Rattle.row_links.specs.Lists.{Lists}
use Rattle.row_links.specs.Families.{list_in}
use Rattle.undo_rows.specs.Tables.{is_head}

-- the lists of a row's heads have changed in the first families, and all others have stayed
pub record AreChanged (old now : List Lists) (heads : ℕ → Option ℕ) (change : List ℕ → List ℕ) (n : ℕ) : Type 0 where
  pub done : (f h : ℕ) → f < n → list_in now f h ≡ cond (is_head (heads f) h) (change (list_in old f h)) (list_in old f h)
  pub rest : (f h : ℕ) → n ≤ f → list_in now f h ≡ list_in old f h

module _ (old now new : List Lists) (heads : ℕ → Option ℕ) (change : List ℕ → List ℕ) (n : ℕ) where
  pub AreChanged-next : AreChanged old now heads change n → ((h : ℕ) → list_in new n h ≡ cond (is_head (heads n) h) (change (list_in now n h)) (list_in now n h)) → ((f h : ℕ) → f ≢ n → list_in new f h ≡ list_in now f h) → AreChanged old new heads change (n + 1)
  AreChanged-next so_far own others = record {
    done = λ f h below. elim (cases_eq f n) [
      | inl same ↦
          subst (λ k. list_in new k h ≡ cond (is_head (heads k) h) (change (list_in old k h)) (list_in old k h)) (sym same)
          (own h ∙ ap (λ l. cond (is_head (heads n) h) (change l) l) (so_far.rest n h (omega arith)))
      | inr other ↦ others f h other ∙ so_far.done f h (omega arith)
    ];
    rest = λ f h above. others f h (λ same. omega arith) ∙ so_far.rest f h (omega arith);
  }
