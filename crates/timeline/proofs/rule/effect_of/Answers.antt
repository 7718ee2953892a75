use Rattle.std.proofs.Common.{◌∙◌, ap, rules}
use Rattle.std.specs.Prelude.{◌+ℤ◌}
use Rattle.timeline.specs.Rows.{held_from}
use Rattle.timeline.proofs.Rows.{effect_row}
use Rattle.timeline.proofs.rule.effect_of.Goals as goal

pub returns-clause-row : goal.returns-clause-row
returns-clause-row c =
    let s = c.args.standing.now.present in
    let t = c.args.trigger.now in
    let text = c.args.text.now in
    effect_row s c.requires.kept.sound t _ text.name c.requires.trigger c.requires.rule c.in_ok-after.ensures
    (search rules ∙ ap (λ z. t.date +ℤ z) c.requires.says.lo)
    c.requires.says.effect
    (c.held_from.ensures ∙ ap (held_from s) c.requires.says.effect)
