-- The believed occurrences of a list in their order, as an audit compares rows with them.
use Rattle.std.specs.Prelude.{List}
use Rattle.tmm_model.specs.Firsts.{sorted}
use Rattle.tmm_model.specs.Maps.{built, order}
use Rattle.tmm_model.specs.Moments.{Moment}
use Rattle.tmm_model.specs.Standing.{Standing}

-- **The believed occurrences of the list, in the order of occurrences, each once**
abbrev pub believed_in_order : Standing → List Moment
believed_in_order s = sorted (order (built s)) (built s).believed
