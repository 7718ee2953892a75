use Rattle.std.proofs.Common.{sym, ◌∙◌}
use Rattle.agents.proofs.Places.{held_in_place, held_without_place}
use Rattle.agents.proofs.batches.held_by.Goals as goal

pub returns-in-Some : goal.returns-in-Some
returns-in-Some c = c.as_slice.ensures.value ∙ sym (held_in_place c.args.agent c.args.holdings.now c.in-Some.place (sym c.place_of.ensures.place ∙ c.in-Some.is) c.index-holdings-place.result)

pub returns-in-None : goal.returns-in-None
returns-in-None c = sym (held_without_place c.args.agent c.args.holdings.now (sym c.place_of.ensures.place ∙ c.in-None.is))
