-- The standing list after an edit.
use Rattle.std.specs.Prelude.{ℕ, List, [], ◌∷◌, ◌++◌}
use Rattle.tmm_model.specs.declared.premise.Premise.{Premise}
use Rattle.tmm_model.specs.declared.premise.Edit.{Edit}
use Rattle.tmm_model.specs.declared.premise.Edit.TheVariants.{Add, Erase, Horizon, Upgrade}
use Rattle.tmm_model.specs.declared.version.Version.TheVariants.{Two}
use Rattle.tmm_model.specs.Standing.{Standing}
use Rattle.tmm_model.specs.Erasure.{kept_without}

-- the list with the premise last
abbrev pub list_with : Standing → Premise → Standing
list_with s premise = record { version = s.version; horizon = s.horizon; premises = s.premises ++ premise ∷ [] }

-- the list without what is retracted with the premise of this name
abbrev pub list_without : Standing → List ℕ → Standing
list_without s name = record { version = s.version; horizon = s.horizon; premises = kept_without name s.premises }

-- the list with this horizon
abbrev pub list_until : Standing → ℕ → Standing
list_until s n = record { version = s.version; horizon = n; premises = s.premises }

-- the list in version 2
abbrev pub upgraded : Standing → Standing
upgraded s = record { version = Two; horizon = s.horizon; premises = s.premises }

-- the list after an accepted edit
abbrev pub next_list : Standing → Edit → Standing
next_list s (Add premise) = list_with s premise
next_list s (Erase name) = list_without s name
next_list s (Horizon n) = list_until s n
next_list s Upgrade = upgraded s
