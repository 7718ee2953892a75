use Rattle.std.proofs.Common.{◌≡◌, List, take}
use Rattle.tmm_model.specs.declared.point.PointName.TheVariants.{Begin}
use Rattle.tmm_model.specs.Moments.{Moment, At, along}
use Rattle.spots.specs.Forest.{Forest, IsLive, moment_at}
use Rattle.just_check.specs.Origins.{Knows}
use Rattle.just_check.proofs.expected.Expected.find.Given as goal

abbrev pub invariant-loop-rule : goal.invariant-loop-rule
invariant-loop-rule l = (f : Forest) (b : List Moment) → Knows f b l.self → IsLive f l.x × (moment_at f l.x ≡ along (At (Begin l.fn.root)) (take l.rule-index l.rules))
