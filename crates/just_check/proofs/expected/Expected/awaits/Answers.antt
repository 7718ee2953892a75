use Rattle.std.proofs.Common.{◌≡◌, ◌∙◌, Some, None}
use Rattle.just_check.specs.Origins.{entry_at}
use Rattle.just_check.proofs.Origins.{awaits_none}
use Rattle.just_check.proofs.expected.Expected.awaits.Goals as goal

pub returns-in-Some : goal.returns-in-Some
returns-in-Some c = awaits_none c.in-Some.node.now c.is_none.result (entry_at c.args.self.now c.args.origin.now) c.is_none.ensures c.in-Some.ensures.value

pub returns-in-None : goal.returns-in-None
returns-in-None c = ((λ h. absurd (cc)), (λ h. let never : None ≡ Some None = c.in-None.ensures.value ∙ h in absurd (cc)))
