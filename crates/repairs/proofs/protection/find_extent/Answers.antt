use Rattle.std.proofs.Common.{◌≡◌, ◌≢◌, ◌∙◌, sym, ap, subst}
use Rattle.std.specs.Prelude.{None, Some, IfNone, unwrap_or}
use Rattle.std.specs.Option.{option_copied}
use Rattle.tmm_model.specs.Sorts.{a_protection, sort_in}
use Rattle.tmm_model.specs.Standing.{premise_in}
use Rattle.repairs.specs.Repairs.{protects}
use Rattle.repairs.proofs.Protected.{no_protection, own_protection, protects_not}
use Rattle.repairs.proofs.protection.find_extent.Goals as goal

pub returns-in_err-from-clause-other : goal.returns-in_err-from-clause-other
returns-in_err-from-clause-other c =
    let ps = c.args.standing.now.present.premises in
    let none : premise_in ps c.args.name ≡ None = sym c.get.ensures ∙ ap option_copied c.in_err-from.was in
    subst (λ o. IfNone o (sort_in ps c.args.name ≢ Some a_protection)) (sym c.from_residual.ensures) (no_protection ps c.args.name (λ p is protection. let never : None ≡ Some p = sym none ∙ is in cc))

pub returns-in-Protect-clause-found : goal.returns-in-Protect-clause-found
returns-in-Protect-clause-found c =
    let ps = c.args.standing.now.present.premises in
    (c.in-Protect.fact, own_protection ps c.args.name c.in-Protect.name c.in-Protect.fact c.in-Protect.from c.in-Protect.to (sym c.get.ensures ∙ ap option_copied c.in_ok-from.was ∙ ap Some c.in-Protect.is))

pub returns-in_default : goal.returns-in_default
returns-in_default c =
    let ps = c.args.standing.now.present.premises in
    let one : premise_in ps c.args.name ≡ Some c.in_ok-from.field-0.now = sym c.get.ensures ∙ ap option_copied c.in_ok-from.was in
    record {
      found = tt;
      other = no_protection ps c.args.name (λ p is protection.
          let same : c.in_ok-from.field-0.now ≡ p = ap (λ o. unwrap_or o p) (sym one ∙ is) in
          protects_not c.in_ok-from.field-0.now c.in_default.not-Protect (ap protects same ∙ protection));
    }
