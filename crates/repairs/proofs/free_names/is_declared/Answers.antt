use Rattle.std.proofs.Common.{◌≡◌, ◌∙◌, sym, ap, true, false, ◌||◌}
use Rattle.std.specs.Prelude.{is_some}
use Rattle.tmm_model.specs.Sorts.{class_in}
use Rattle.tmm_model.specs.Standing.{premise_in}
use Rattle.repairs.proofs.FreeNames.{known_by, is_some_copied}
use Rattle.repairs.proofs.free_names.is_declared.Goals as goal

pub returns-then-is_some : goal.returns-then-is_some
returns-then-is_some c =
    let ps = c.args.standing.now.present.premises in
    let some : is_some (premise_in ps c.args.name) ≡ true = sym (ap is_some c.get.ensures) ∙ is_some_copied c.get.result ∙ sym c.is_some.ensures ∙ c.if-is_some.true in
    c.if-is_some.true ∙ sym (ap (λ b. b || is_some (class_in ps c.args.name)) some) ∙ known_by ps c.args.name

pub returns-else-is_some : goal.returns-else-is_some
returns-else-is_some c =
    let ps = c.args.standing.now.present.premises in
    let none : is_some (premise_in ps c.args.name) ≡ false = sym (ap is_some c.get.ensures) ∙ is_some_copied c.get.result ∙ sym c.is_some.ensures ∙ c.if-is_some.false in
    c.is_some-else-is_some.ensures ∙ ap is_some c.class_of.ensures ∙ sym (ap (λ b. b || is_some (class_in ps c.args.name)) none) ∙ known_by ps c.args.name
