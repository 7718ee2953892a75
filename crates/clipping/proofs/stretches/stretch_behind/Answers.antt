use Rattle.std.proofs.Common.{◌∙◌, sym}
use Rattle.clipping.proofs.OneFact.{stretch_on, stretch_begins}
use Rattle.clipping.proofs.stretches.stretch_behind.Goals as goal

pub returns-in-Some : goal.returns-in-Some
returns-in-Some g c = stretch_on c.args.tokens.now c.requires.stretches c.in-Some.last.now (sym c.in-Some.ensures.value) c.args.fact.now (sym c.eq.ensures ∙ c.if-eq.true)

pub returns-in_default : goal.returns-in_default
returns-in_default g c = stretch_begins c.args.tokens.now c.in-Some.last.now (sym c.in-Some.ensures.value) c.args.fact.now (sym c.eq.ensures ∙ c.if-eq.false)
