-- Whether the points that an edit moved are those whose distances beliefs read.
use Rattle.std.specs.Prelude.{ℕ, Bool, true, not, List, Option, None, slice_index_or}
use Rattle.std.specs.List.{list_all}
use Rattle.std.specs.Option.{is_some, option_map_or}
use Rattle.tmm_model.specs.declared.point.PointName.{PointName}
use Rattle.tmm_model.specs.declared.point.PointName.TheVariants.{Start, Begin, End}
use Rattle.tmm_model.specs.declared.premise.Premise.{Premise}
use Rattle.tmm_model.specs.Beliefs.{as_root}
use Rattle.tmm_model.specs.Standing.{premise_in}
use Rattle.net_theory.specs.Represents.{Names}

-- whether an event, a token or a span of this name is declared
abbrev pub occurs_in : List Premise → List ℕ → Bool
occurs_in premises name = is_some (as_root (premise_in premises name))

-- whether the point is `start`, or something that is declared to occur begins or ends there
abbrev pub is_anchor : List Premise → PointName → Bool
is_anchor premises Start = true
is_anchor premises (Begin name) = occurs_in premises name
is_anchor premises (End name) = occurs_in premises name

-- whether this is none of these points
abbrev pub is_elsewhere : List Premise → Option PointName → Bool
is_elsewhere premises point = option_map_or (λ p. not (is_anchor premises p)) point true

-- whether none of the numbers is of such a point
abbrev pub are_elsewhere : List Premise → Names → List ℕ → Bool
are_elsewhere premises names numbers = list_all (λ n. is_elsewhere premises (slice_index_or names n None)) numbers
