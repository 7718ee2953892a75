-- What is found of an erasure on a copy, and of an edit after it.
use Rattle.std.proofs.Common.{◌≡◌, ◌∙◌, ℕ, Bool, true, List, sym, ap, subst, rules, false}
use Rattle.std.proofs.lemmas.Bool.{false≢true}
use Rattle.std.specs.Prelude.{Option, Some, IsTrue}
use Rattle.tmm_model.specs.declared.premise.Edit.{Edit}
use Rattle.tmm_model.specs.declared.premise.Edit.TheVariants.{Erase}
use Rattle.tmm_model.specs.Changes.{Delta, changes}
use Rattle.tmm_model.specs.Edits.{next_list, list_without}
use Rattle.tmm_model.specs.Kept.{IsAccepted}
use Rattle.tmm_model.specs.Standing.{Standing}
use Rattle.repairs.specs.Told.{tell_mended}
use Rattle.repairs.specs.Trials.{IsMendingAfter}

-- the erasure is made on a map of the same list, and kept
pub record IsLeft (s done : Standing) (name : List ℕ) (changed : Delta) : Type 0 where
  pub accepted : IsAccepted s (Erase name)
  pub leaves : done ≡ list_without s name
  pub told : changed ≡ changes s (list_without s name)

pub left : (s copied done : Standing) (name : List ℕ) (told : Delta) (pending : Option Standing) → copied ≡ s → IsAccepted copied (Erase name)
    → pending ≡ Some (next_list copied (Erase name)) → pending ≡ Some done → told ≡ changes copied (next_list copied (Erase name)) → IsLeft s done name told
left s copied done name told pending same accepted made kept changed =
    let both : Some done ≡ Some (list_without copied name) = sym kept ∙ made in
    let one : done ≡ list_without copied name = cc in
    record {
      accepted = subst (λ l. IsAccepted l (Erase name)) same accepted;
      leaves = one ∙ ap (λ l. list_without l name) same;
      told = changed ∙ ap (λ l. changes l (list_without l name)) same;
    }

module _ (s listed : Standing) (n name : List ℕ) (edit : Edit) (first second : Delta) (b : Bool)
    (leaves : listed ≡ list_without s n) (before : first ≡ changes s (list_without s n))
    (accepted : IsAccepted listed edit) (after : second ≡ changes listed (next_list listed edit)) (is : b ≡ tell_mended s name first second) where
  same : b ≡ tell_mended s name (changes s (list_without s n)) (changes (list_without s n) (next_list (list_without s n) edit))
  same =
      is ∙ ap (λ d. tell_mended s name d second) before
      ∙ ap (tell_mended s name (changes s (list_without s n))) (after ∙ ap (λ l. changes l (next_list l edit)) leaves)

  -- both edits tell so exactly where the second is one that mends after the erasure
  pub mending_after : (IsTrue b → IsMendingAfter s n name edit) × (IsMendingAfter s n name edit → IsTrue b)
  mending_after = (λ t. found b t same, λ m. holds b same m.told)
    where
      found : (b : Bool) → IsTrue b → b ≡ tell_mended s name (changes s (list_without s n)) (changes (list_without s n) (next_list (list_without s n) edit)) → IsMendingAfter s n name edit
      found true t e = record { accepted = subst (λ l. IsAccepted l edit) leaves accepted; told = sym e }
      found false t e = absurd (search rules)

      holds : (b : Bool) → b ≡ tell_mended s name (changes s (list_without s n)) (changes (list_without s n) (next_list (list_without s n) edit))
          → tell_mended s name (changes s (list_without s n)) (changes (list_without s n) (next_list (list_without s n) edit)) ≡ true → IsTrue b
      holds true e t = search rules
      holds false e t = absurd (false≢true (e ∙ t))
