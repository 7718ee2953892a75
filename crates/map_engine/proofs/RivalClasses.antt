-- Classes of facts that contradict others, as they are found.
use Rattle.std.proofs.Common.{ℕ, List, inl, inr}
use Rattle.std.specs.List.{Contains}
use Rattle.tmm_model.specs.Standing.{Standing}
use Rattle.map_engine.specs.RivalClasses.{HasClassOf, HasClassesOf, Follows, FollowsBoth, IsThereOr}

-- more classes are among more
abbrev pub AreKept : List (List ℕ) → List (List ℕ) → Type 0
AreKept old new = (class : List ℕ) → Contains old class → Contains new class

-- ---- what was found stays found

pub has_class_more : (s : Standing) (old new : List (List ℕ)) → AreKept old new → (f : List ℕ) → HasClassOf s f old → HasClassOf s f new
has_class_more s old new kept f has = λ class is. kept class (has class is)

pub has_classes_more : (s : Standing) (old new : List (List ℕ)) → AreKept old new → (pair : List ℕ × List ℕ) → HasClassesOf s pair old → HasClassesOf s pair new
has_classes_more s old new kept pair has = (has_class_more s old new kept pair.0 has.0, has_class_more s old new kept pair.1 has.1)

pub follows_more : (s : Standing) (touched old new : List (List ℕ)) → AreKept old new → (f g : List ℕ) → Follows s touched old f g → Follows s touched new f g
follows_more s touched old new kept f g (inl other) = inl other
follows_more s touched old new kept f g (inr has) = inr (has_class_more s old new kept f has)

pub follows_both_more : (s : Standing) (touched old new : List (List ℕ)) → AreKept old new → (pair : List ℕ × List ℕ) → FollowsBoth s touched old pair → FollowsBoth s touched new pair
follows_both_more s touched old new kept pair both = (follows_more s touched old new kept pair.0 pair.1 both.0, follows_more s touched old new kept pair.1 pair.0 both.1)

pub is_there_more : (s : Standing) (old new : List (List ℕ)) → AreKept old new → (pairs : List (List ℕ × List ℕ)) (pair : List ℕ × List ℕ) → IsThereOr s old pairs pair → IsThereOr s new pairs pair
is_there_more s old new kept pairs pair (inl there) = inl there
is_there_more s old new kept pairs pair (inr has) = inr (has_classes_more s old new kept pair has)
