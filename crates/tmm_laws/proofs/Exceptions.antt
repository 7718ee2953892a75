-- What a rule brings about has none of its exceptions at its event.
use Rattle.std.proofs.Common.{◌≡◌, true, false, not, subst}
use Rattle.std.specs.List.{list_all, list_any}
use Rattle.tmm_model.specs.Beliefs.{contradicts_in, supported}
use Rattle.tmm_model.specs.Maps.{built, gap, believed_tokens}
use Rattle.tmm_model.specs.Moments.{After, rule_of}
use Rattle.tmm_model.specs.Standing.{far_in}
use Rattle.tmm_model.specs.Tokens.{supports}
use Rattle.list_theory.proofs.Elements.{both, In-from_Contains, In-list_any}
use Rattle.belief_theory.proofs.SoundBeliefs.{believed_right}
use Rattle.tmm_laws.specs.ExceptionLaw.{ExceptionsLackSupport}

pub exceptions_lack_support : ExceptionsLackSupport
exceptions_lack_support s sound t r fact at named k among supporting =
    let b = (built s).believed in
    let far = far_in s.premises in
    let fires = (believed_right s sound (After t r)).0 at in
    let rows = believed_tokens (built s) in
    let here : supported s far b t fact ≡ true =
    In-list_any (supports (contradicts_in s) (gap (built s)) rows fact t t) rows k (In-from_Contains rows k among) supporting in
    let one : list_any (supported s far b t) (rule_of s r).exceptions ≡ true =
    In-list_any (supported s far b t) (rule_of s r).exceptions fact (In-from_Contains (rule_of s r).exceptions fact named) here in
    let none : not (list_any (supported s far b t) (rule_of s r).exceptions) ≡ true = (both (list_all (supported s far b t) (rule_of s r).given) (not (list_any (supported s far b t) (rule_of s r).exceptions)) fires.free).1 in
    let never : false ≡ true = subst (λ v. not v ≡ true) one none in
    cc
