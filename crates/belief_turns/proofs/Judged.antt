-- What a row keeps of a verdict.
use Rattle.std.proofs.Common.{◌≡◌, ◌∙◌, refl, ap}
use Rattle.belief_theory.specs.Outcomes.{Outcome, fires, blocked, barred, beyond}
use Rattle.decision_rows.specs.declared.row.Decision.{Decision}
use Rattle.decision_rows.specs.declared.row.Decision.TheVariants.{Fires, Blocked, Barred, Beyond}
use Rattle.projection.specs.declared.judging.Verdict.{Verdict}
use Rattle.projection.specs.declared.judging.Verdict.TheVariants.{Fires as JudgedFires, Blocked as JudgedBlocked, Barred as JudgedBarred, Beyond as JudgedBeyond}
use Rattle.projection.specs.Verdicts.{verdict_of}
use Rattle.joined.specs.Rows.{decision_of}

abbrev pub kept_of : Verdict → Decision
kept_of JudgedFires = Fires
kept_of (JudgedBlocked antecedent) = Blocked antecedent
kept_of (JudgedBarred exception) = Barred exception
kept_of JudgedBeyond = Beyond

pub judged_is : (o : Outcome) (v : Verdict) → v ≡ verdict_of o → kept_of v ≡ decision_of o
judged_is o v is = ap kept_of is ∙ by o
  where
    by : (o : Outcome) → kept_of (verdict_of o) ≡ decision_of o
    by (fires ks) = refl
    by (blocked place) = refl
    by (barred place) = refl
    by beyond = refl
