use Rattle.belief_theory.proofs.OneRight.{one_right}
use Rattle.tmm_laws.proofs.beliefs.one_right_set.Goals as goal

pub returns : goal.returns
returns c = λ s far timed b c right_b right_c x. one_right s far timed s.horizon b c right_b right_c x
