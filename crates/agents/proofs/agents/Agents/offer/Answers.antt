use Rattle.std.proofs.Common.{List, ap, sym, subst, ◌∙◌}
use Rattle.std.specs.Prelude.{All}
use Rattle.tmm_model.specs.Lines.{IsWellFormedEdit}
use Rattle.agents.specs.declared.batches.Held.{Held}
use Rattle.agents.specs.declared.batches.Holding.{Holding}
use Rattle.agents.specs.Holdings.{IsHeld}
use Rattle.agents.proofs.Places.{held_well_formed}
use Rattle.agents.proofs.agents.Agents.offer.Goals as goal

pub make_all-requires-clause-well_formed : goal.make_all-requires-clause-well_formed
make_all-requires-clause-well_formed g c =
    subst (λ (es : List Held). All (λ held. IsWellFormedEdit held.edit) es) (sym c.held_by-held.ensures)
    (held_well_formed c.as_slice.result.now c.args.agent (subst (λ (hs : List Holding). All IsHeld hs) (sym (c.as_slice.ensures.value ∙ ap (λ holdings. holdings.items) c.level.ensures.holdings)) c.requires.settled.held))
