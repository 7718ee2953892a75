use Rattle.std.proofs.Common.{take}
use Rattle.std.specs.List.{filter_map}
use Rattle.tmm_model.specs.Beliefs.{root_of}
use Rattle.just_check.specs.Checking.{AwaitsRoots}
use Rattle.just_check.proofs.auditing.expected_roots.Given as goal

abbrev pub invariant-loop-place : goal.invariant-loop-place
invariant-loop-place l = AwaitsRoots (filter_map root_of (take l.place l.standing.present.premises)) l.expected
