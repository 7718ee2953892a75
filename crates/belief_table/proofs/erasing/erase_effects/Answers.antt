use Rattle.std.proofs.Common.{◌∙◌, sym}
use Rattle.belief_table.proofs.Erased.{no_row_known}
use Rattle.belief_table.proofs.Thinned.{sheds_none, spares_none}
use Rattle.belief_table.proofs.erasing.erase_effects.Goals as goal

pub returns-in-None-clause-sheds : goal.returns-in-None-clause-sheds
returns-in-None-clause-sheds c = sheds_none c.args.beliefs.now c.args.departed.now c.requires.events

pub returns-in-None-clause-spares : goal.returns-in-None-clause-spares
returns-in-None-clause-spares c = λ s out. spares_none s c.args.beliefs.now

pub returns-in-None-clause-none : goal.returns-in-None-clause-none
returns-in-None-clause-none c =
    let (s, under) = c.requires.under in
    no_row_known s c.args.beliefs.now.decisions under c.find.ensures.own c.args.rule (sym c.find.ensures.place ∙ c.in-None.is)
