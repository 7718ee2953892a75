-- Repairs: the small changes that mend a broken protection and break no other.
use Rattle.std.specs.Prelude.{◌≡◌, ◌⊎◌, ℕ, ◌<◌, Bool, true, false, List, [], ◌∷◌, ◌++◌, filter, codes, decimal, pos, Option, Some, None}
use Rattle.std.specs.List.{All, Contains, flat_map}
use Rattle.tmm_model.specs.declared.bound.Bound.TheVariants.{Finite, Free}
use Rattle.tmm_model.specs.declared.fix.Fix.{Fix}
use Rattle.tmm_model.specs.declared.fix.Fix.TheVariants.{Add as AddConstraint, Erase as ErasePremise, LoosenLo, LoosenHi}
use Rattle.tmm_model.specs.declared.point.PointName.{PointName}
use Rattle.tmm_model.specs.declared.point.PointName.TheVariants.{Begin, End}
use Rattle.tmm_model.specs.declared.premise.Edit.{Edit}
use Rattle.tmm_model.specs.declared.premise.Edit.TheVariants.{Add, Erase}
use Rattle.tmm_model.specs.declared.premise.Premise.{Premise}
use Rattle.tmm_model.specs.declared.premise.Premise.TheVariants.{Dist, Protect}
use Rattle.tmm_model.specs.Answers.{Fault, late, ends, Finding, holds, fails, unordered, ask, reports}
use Rattle.tmm_model.specs.Changes.{is_broken}
use Rattle.tmm_model.specs.Edits.{next_list}
use Rattle.tmm_model.specs.Erasure.{is_among}
use Rattle.tmm_model.specs.Kept.{IsAccepted}
use Rattle.tmm_model.specs.Maps.{built}
use Rattle.tmm_model.specs.Moments.{Moment, At}
use Rattle.tmm_model.specs.Sorts.{Sort, a_protection}
use Rattle.tmm_model.specs.Standing.{Standing, name_of, premise_in}
use Rattle.tmm_model.specs.Verdicts.{words_known}

-- a protection is wanted
abbrev pub is_protection : Sort → Bool
is_protection a_protection = true
is_protection _ = false

-- whether the premise is a protection
abbrev pub protects : Premise → Bool
protects (Protect name fact from to) = true
protects _ = false

-- ---- candidates

-- The constraint that might help against a blame of a protection from p to q: a declared token that
-- is late is to begin by p, and the end of a declared span that ends too soon is to come after q. A
-- clipped token surely ends within the time, and no constraint helps.
abbrev pub added_against : PointName → PointName → Moment × Fault → List Fix
added_against p q (At k, late) = AddConstraint k p (pos 0) ∷ []
added_against p q (At (Begin k), ends) = AddConstraint q (End k) (pos 1) ∷ []
added_against p q blame = []

-- the constraints that might mend a protection from p to q, by what is found of its fact
abbrev pub added_for : PointName → PointName → Finding → List Fix
added_for p q (holds k) = []
added_for p q unordered = AddConstraint p q (pos 0) ∷ []
added_for p q (fails blames more) = flat_map (added_against p q) blames

-- what might be taken from a premise: all of it, and of a constraint with two numbers either one
abbrev pub taken_from : Premise → List Fix
taken_from (Dist name from to (Finite lo) (Finite hi)) = ErasePremise name ∷ LoosenLo name ∷ LoosenHi name ∷ []
taken_from premise = ErasePremise (name_of premise) ∷ []

-- the candidates for a protection from p to q of whose fact this is found
abbrev pub candidates_for : Standing → PointName → PointName → Finding → List Fix
candidates_for s p q (holds k) = []
candidates_for s p q found = added_for p q found ++ flat_map taken_from s.premises

-- the candidates for a premise of the list
abbrev pub candidates_about : Standing → Option Premise → List Fix
candidates_about s (Some (Protect name fact p q)) = candidates_for s p q (ask (built s) fact (At p) (At q))
candidates_about s premise = []

-- **The candidates** for the protection of a name: where it is broken, constraints that might be
-- added, and then for each premise in turn what might be taken from it.
abbrev pub candidates_of : Standing → List ℕ → List Fix
candidates_of s name = candidates_about s (premise_in s.premises name)

-- ---- the edits of a candidate

-- the name `repair-i`
abbrev pub repair_name : ℕ → List ℕ
repair_name i = codes "repair-" ++ decimal i

-- whether the list declares the name
abbrev pub is_declared : Standing → List ℕ → Bool
is_declared s name = is_among (words_known s.premises) name

-- **The free name** of a list: the first of `repair-0`, `repair-1` and so on that it does not
-- declare.
pub record IsFreeName (s : Standing) (name : List ℕ) : Type 0 where
  pub number : ℕ
  pub spelt : name ≡ repair_name number
  pub free : is_declared s name ≡ false
  pub first : (i : ℕ) → i < number → is_declared s (repair_name i) ≡ true

-- a constraint without its lower bound
abbrev pub without_lo : Premise → Premise
without_lo (Dist name from to lo hi) = Dist name from to Free hi
without_lo premise = premise

-- a constraint without its upper bound
abbrev pub without_hi : Premise → Premise
without_hi (Dist name from to lo hi) = Dist name from to lo Free
without_hi premise = premise

-- the edit that adds the premise, changed so
abbrev pub added_again : (Premise → Premise) → Option Premise → List Edit
added_again change (Some premise) = Add (change premise) ∷ []
added_again change None = []

-- the edits of a fix, where a constraint that it adds has this name
abbrev pub edits_of : Standing → List ℕ → Fix → List Edit
edits_of s free (AddConstraint from to lo) = Add (Dist free from to (Finite lo) Free) ∷ []
edits_of s free (ErasePremise name) = Erase name ∷ []
edits_of s free (LoosenLo name) = Erase name ∷ added_again without_lo (premise_in s.premises name)
edits_of s free (LoosenHi name) = Erase name ∷ added_again without_hi (premise_in s.premises name)

-- ---- repairs

-- the edits are accepted in turn, and lead from the first list to the second
abbrev pub Lead : List Edit → Standing → Standing → Type 0
Lead [] old new = new ≡ old
Lead (edit ∷ edits) old new = IsAccepted old edit × Lead edits (next_list old edit) new

-- From one list to another the protection of this name is mended: all protections stand, this one
-- is not broken, and none is that was not broken before.
pub record Mends (name : List ℕ) (old new : Standing) : Type 0 where
  pub stand : All (Contains new.premises) (filter protects old.premises)
  pub mended : is_broken (built new) name ≡ false
  pub unharmed : All (λ r. is_broken (built old) r.0 ≡ true) (reports (built new))

-- **A repair**: its edits are accepted in turn, and lead to a list in which the protection is
-- mended.
pub record IsRepair (s : Standing) (name : List ℕ) (fix : Fix) : Type 0 where
  pub free : List ℕ
  pub is_free : IsFreeName s free
  pub new : Standing
  pub lead : Lead (edits_of s free fix) s new
  pub mends : Mends name s new

-- the second list has those of the first of which P holds, in their order
abbrev pub AreThose : {A : Type 0} → (A → Type 0) → List A → List A → Type 0
AreThose P [] ys = ys ≡ []
AreThose {A} P (x ∷ xs) ys = ((rest : List A) × P x × (ys ≡ x ∷ rest) × AreThose P xs rest) ⊎ ((P x → ⊥) × AreThose P xs ys)

-- **The repairs** of the protection of a name: those candidates that are repairs, in their order.
abbrev pub AreRepairs : Standing → List ℕ → List Fix → Type 0
AreRepairs s name fixes = AreThose (IsRepair s name) (candidates_of s name) fixes
