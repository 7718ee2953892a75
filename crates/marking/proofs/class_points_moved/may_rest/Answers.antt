use Rattle.std.proofs.Common.{◌≡◌, ◌∙◌, true, false, sym, inl, inr}
use Rattle.marking.proofs.class_points_moved.may_rest.Goals as goal

pub returns-then-not-has-clause-rests : goal.returns-then-not-has-clause-rests
returns-then-not-has-clause-rests c is = inl (λ moved. (
    let on = sym (c.has.ensures ∙ (c.requires.class.events c.args.x).1 moved) ∙ c.if-not-has.true in
    let no : true ≡ false = on in
    cc))

pub returns-else-not-has-clause-rests : goal.returns-else-not-has-clause-rests
returns-else-not-has-clause-rests c is = inr (c.is_spared.ensures is)

pub returns-else-not-has-clause-waits : goal.returns-else-not-has-clause-waits
returns-else-not-has-clause-waits c is = (c.requires.class.events c.args.x).0 (sym c.has.ensures ∙ c.if-not-has.false)
