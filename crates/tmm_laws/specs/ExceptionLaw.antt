-- The law of exceptions: what a rule brings about has none of its exceptions at its event.
use Rattle.std.specs.Prelude.{ℕ, List, IsTrue}
use Rattle.std.specs.List.{Contains}
use Rattle.tmm_model.specs.declared.token.TokenRow.{TokenRow}
use Rattle.tmm_model.specs.Beliefs.{contradicts_in}
use Rattle.tmm_model.specs.Maps.{built, gap, believed_tokens}
use Rattle.tmm_model.specs.Moments.{Moment, After, rule_of}
use Rattle.tmm_model.specs.Standing.{Standing}
use Rattle.tmm_model.specs.Tokens.{supports}
use Rattle.list_theory.specs.WellNamed.{IsSound}

-- **No exception that the reason of a believed effect names has a supporter at its event**: in the
-- map of a sound list no believed token supports the fact throughout that moment.
abbrev pub ExceptionsLackSupport : Type 0
ExceptionsLackSupport =
    (s : Standing) → IsSound s → (t : Moment) (r fact : List ℕ)
    → Contains (built s).believed (After t r) → Contains (rule_of s r).exceptions fact
    → (k : TokenRow Moment) → Contains (believed_tokens (built s)) k
    → IsTrue (supports (contradicts_in s) (gap (built s)) (believed_tokens (built s)) fact t t k) → ⊥
