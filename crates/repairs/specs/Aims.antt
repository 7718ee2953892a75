-- What holds while candidates are tried.
use Rattle.std.specs.Prelude.{◌≡◌, true, List, ◌++◌}
use Rattle.std.specs.List.{All}
use Rattle.tmm_model.specs.declared.fix.Fix.{Fix}
use Rattle.tmm_model.specs.Changes.{is_broken}
use Rattle.tmm_model.specs.Lines.{IsName, IsWellFormedPremise}
use Rattle.tmm_model.specs.Maps.{built}
use Rattle.tmm_model.specs.Standing.{Standing}
use Rattle.list_theory.specs.WellNamed.{IsWellNamed}
use Rattle.repairs.specs.declared.aim.Aim.{Aim}
use Rattle.repairs.specs.Repairs.{IsFreeName, IsRepair, AreThose}

-- The list's premises are well formed and well named, the name of the aim is free, and its
-- protection is broken.
pub record IsAim (s : Standing) (aim : Aim) : Type 0 where
  pub well_formed : All IsWellFormedPremise s.premises
  pub well_named : IsWellNamed s.premises
  pub free : IsFreeName s aim.free
  pub named : IsName aim.free
  pub broken : is_broken (built s) aim.name ≡ true

-- the second list goes on from the first with the repairs among these candidates, in their order
abbrev pub GrowsBy : Standing → Aim → List Fix → List Fix → List Fix → Type 0
GrowsBy s aim tried old new = (more : List Fix) × AreThose (IsRepair s aim.name) tried more × (new ≡ old ++ more)
