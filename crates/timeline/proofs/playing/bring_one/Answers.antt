use Rattle.std.proofs.Common.{sym, subst}
use Rattle.std.specs.Prelude.{pos, ◌≤ℤ◌}
use Rattle.timeline.specs.Kinds.{name_at}
use Rattle.timeline.specs.Rows.{moment}
use Rattle.timeline.proofs.Rows.{delayed, not_before}
use Rattle.timeline.proofs.playing.bring_one.Goals as goal

pub brings_about-requires-clause-delayed : goal.brings_about-requires-clause-delayed
brings_about-requires-clause-delayed c =
    let s = c.args.standing.now.present in
    subst (λ z. pos 1 ≤ℤ z) (sym c.rule_at-text.ensures.lo) (delayed s c.requires.kept.sound (moment c.args.trigger.now) (name_at s c.args.place) c.requires.stands)

pub effect_of-requires-clause-early : goal.effect_of-requires-clause-early
effect_of-requires-clause-early c = not_before c.args.standing.now.present c.requires.kept.sound c.args.trigger.now c.requires.row

pub effect_of-requires-clause-delayed : goal.effect_of-requires-clause-delayed
effect_of-requires-clause-delayed c =
    let s = c.args.standing.now.present in
    subst (λ z. pos 1 ≤ℤ z) (sym c.rule_at-text.ensures.lo) (delayed s c.requires.kept.sound (moment c.args.trigger.now) (name_at s c.args.place) c.requires.stands)

pub enter-requires-clause-soon : goal.enter-requires-clause-soon
enter-requires-clause-soon c = not_before c.args.standing.now.present c.requires.kept.sound c.in_ok-row.row c.in_ok-row.ensures.row
