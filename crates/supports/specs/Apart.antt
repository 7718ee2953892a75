-- Which classes an edit left as they were, with all that contradicts their facts.
use Rattle.std.specs.Prelude.{◌≡◌, ◌⊎◌, ℕ, true, List, Some}
use Rattle.std.specs.List.{Contains}
use Rattle.tmm_model.specs.Beliefs.{class_of, are_rivals}
use Rattle.tmm_model.specs.Sorts.{class_in}
use Rattle.premise_list.specs.States.{States}
use Rattle.dist_net.specs.Net.{Nets}
use Rattle.occ_tree.specs.Standing.{Kept}
use Rattle.occ_tree.specs.Touched.{IsUntouched}

-- The same facts are rivals of the fact in both lists, but for facts of its class, which contradict
-- it anyway.
abbrev pub HasSameRivals : States → List ℕ → List ℕ → Type 0
HasSameRivals lists class f =
    (g : List ℕ) → ((class_of lists.committed g ≡ class) × (class_of lists.present g ≡ class)) ⊎ (are_rivals lists.committed f g ≡ are_rivals lists.present f g)

-- the rivals that the fact has after the edit are of untouched classes
abbrev pub AreRivalsUntouched : States → Nets → Kept → List ℕ → Type 0
AreRivalsUntouched lists nets tree f =
    (g : List ℕ) → are_rivals lists.present f g ≡ true → (other : List ℕ) × (class_in lists.present.premises g ≡ Some other) × IsUntouched nets tree other

-- **The class is apart from all that the edit touched**: it is untouched, and its facts have the
-- rivals that they had, which are of untouched classes.
pub record IsApart (lists : States) (nets : Nets) (tree : Kept) (class : List ℕ) : Type 0 where
  pub untouched : IsUntouched nets tree class
  pub rivals : (f : List ℕ) → class_in lists.present.premises f ≡ Some class → HasSameRivals lists class f
  pub of_rivals : (f : List ℕ) → class_in lists.present.premises f ≡ Some class → AreRivalsUntouched lists nets tree f

-- every class that is not among these is apart
abbrev pub AreOthersApart : States → Nets → Kept → List (List ℕ) → Type 0
AreOthersApart lists nets tree classes = (class : List ℕ) → (Contains classes class → ⊥) → IsApart lists nets tree class
