-- What one edit, and two edits in turn, are found to be.
use Rattle.std.specs.Prelude.{◌≡◌, ℕ, true, List, Option, None}
use Rattle.tmm_model.specs.declared.premise.Edit.{Edit}
use Rattle.tmm_model.specs.declared.premise.Edit.TheVariants.{Erase}
use Rattle.tmm_model.specs.Changes.{changes, delta_of}
use Rattle.tmm_model.specs.Edits.{next_list, list_without}
use Rattle.tmm_model.specs.Kept.{IsAccepted}
use Rattle.tmm_model.specs.Standing.{Standing}
use Rattle.repairs.specs.declared.trials.Erased.{Erased}
use Rattle.repairs.specs.Told.{tells_mended, tell_mended}

-- the edit is accepted, and what it changes tells that the protection of this name is mended
pub record IsMending (s : Standing) (name : List ℕ) (edit : Edit) : Type 0 where
  pub accepted : IsAccepted s edit
  pub told : tells_mended s name (changes s (next_list s edit)) ≡ true

-- An edit is accepted that comes after the erasure of a premise, and what both change tells that the
-- protection of this name is mended.
pub record IsMendingAfter (s : Standing) (erased name : List ℕ) (edit : Edit) : Type 0 where
  pub accepted : IsAccepted (list_without s erased) edit
  pub told : tell_mended s name (changes s (list_without s erased)) (changes (list_without s erased) (next_list (list_without s erased) edit)) ≡ true

module _ {M : Type 0} (list : M → Standing) (pending : M → Option Standing) where
  -- the erasure of the premise of this name is accepted, and what is kept is a map of what it leaves
  pub record IsErased (s : Standing) (name : List ℕ) (erased : Erased M) : Type 0 where
    pub accepted : IsAccepted s (Erase name)
    pub leaves : list erased.map ≡ list_without s name
    pub settled : pending erased.map ≡ None
    pub told : delta_of erased.changes ≡ changes s (list_without s name)
