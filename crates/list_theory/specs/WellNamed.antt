-- Lists of premises in which each may follow those before it.
use Rattle.std.specs.Prelude.{◌≡◌, List, [], ◌∷◌, ◌++◌, None}
use Rattle.std.specs.List.{All}
use Rattle.tmm_model.specs.declared.premise.Premise.{Premise}
use Rattle.tmm_model.specs.Standing.{Standing, IsConsistent}
use Rattle.tmm_model.specs.Sorts.{declared_by, uses_of}
use Rattle.tmm_model.specs.Verdicts.{first_taken, uses_cause, words_known}
use Rattle.tmm_model.specs.Lines.{IsWellFormedPremise}

-- the names that the premise declares are new, and those that it uses are declared, of the wanted
-- sorts
pub record Follows (earlier : List Premise) (premise : Premise) : Type 0 where
  pub new : first_taken (words_known earlier) (declared_by premise) ≡ None
  pub known : uses_cause earlier (uses_of premise) ≡ None

-- each of the premises follows the earlier ones and those before it
abbrev pub AllFollow : List Premise → List Premise → Type 0
AllFollow earlier [] = Unit {0}
AllFollow earlier (premise ∷ premises) = Follows earlier premise × AllFollow (earlier ++ premise ∷ []) premises

-- All declared names are distinct, and none is reserved. Each name that a premise uses is declared
-- before it, as what is wanted there.
abbrev pub IsWellNamed : List Premise → Type 0
IsWellNamed premises = AllFollow [] premises

-- a list whose premises are well formed and well named, and that some dates satisfy
pub record IsSound (s : Standing) : Type 0 where
  pub well_formed : All IsWellFormedPremise s.premises
  pub well_named : IsWellNamed s.premises
  pub dates : IsConsistent s.premises
