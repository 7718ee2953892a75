-- What a verdict says of a rule at an event.
use Rattle.belief_theory.specs.Outcomes.{Outcome, fires, blocked, barred, beyond}
use Rattle.projection.specs.declared.judging.Verdict.{Verdict}
use Rattle.projection.specs.declared.judging.Verdict.TheVariants.{Fires, Blocked, Barred, Beyond}

-- what an outcome comes to, whichever tokens support
abbrev pub verdict_of : Outcome → Verdict
verdict_of (fires ks) = Fires
verdict_of (blocked place) = Blocked place
verdict_of (barred place) = Barred place
verdict_of beyond = Beyond
