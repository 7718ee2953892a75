use Rattle.std.proofs.Common.{List, Option, map, ap, sym, subst, ◌∙◌}
use Rattle.std.specs.Prelude.{All}
use Rattle.tmm_model.specs.Lines.{IsWellFormedEdit}
use Rattle.agents.specs.declared.agents.Offer.{Offer}
use Rattle.agents.specs.declared.batches.Held.{Held}
use Rattle.agents.specs.Commits.{list_after}
use Rattle.agents.specs.Holdings.{batch_of}
use Rattle.agents.specs.States.{IsOffer}
use Rattle.agents.proofs.Places.{held_well_formed}
use Rattle.agents.proofs.agents.Agents.take_over.Goals as goal

pub returns-clause-settled : goal.returns-clause-settled
returns-clause-settled g c =
    let list = g.M.MapCore.list in
    let pending = g.M.MapCore.pending in
    record {
      idle = ap pending c.swap.ensures.x_after ∙ c.requires.trial.idle;
      tried = subst (λ (o : Option (Offer g.row.M.Denot)). IsOffer list pending (record { list = list c.swap.new.x; batches = map batch_of c.hand_over.new.holdings.items }) o) (sym c.requires.idle) tt;
      held = c.hand_over.ensures.settled;
      spare = record {
        idle = ap pending c.swap.ensures.y_after ∙ c.requires.settled.idle;
        level = ap (λ m. list_after (list m) c.hand_over.new.edits.items) c.swap.ensures.y_after
            ∙ ap (λ (es : List Held). list_after (list c.args.self.now.core) es) c.hand_over.ensures.handed
            ∙ sym c.requires.trial.level
            ∙ ap list (sym c.swap.ensures.x_after);
        well_formed = subst (λ (es : List Held). All (λ held. IsWellFormedEdit held.edit) es) (sym c.hand_over.ensures.handed)
            (held_well_formed c.args.self.now.holdings.items c.args.agent c.requires.settled.held);
      };
    }
