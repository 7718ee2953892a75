use Rattle.std.proofs.Common.{rules, List, map, not, ap, sym, subst, ◌∙◌}
use Rattle.std.specs.Prelude.{All}
use Rattle.std.proofs.lemmas.Fn.{filter_same}
use Rattle.std.proofs.lemmas.List.Elements.{All-filter}
use Rattle.tmm_model.specs.Points.{same_name}
use Rattle.agents.specs.declared.batches.Holding.{Holding}
use Rattle.agents.specs.Holdings.{IsHeld, batch_of}
use Rattle.agents.proofs.Places.{forgotten}
use Rattle.agents.proofs.batches.forget.Goals as goal

pub returns-clause-forgotten : goal.returns-clause-forgotten
returns-clause-forgotten c =
    ap (λ (hs : List Holding). map batch_of hs) (filter_same _ (λ (h : Holding). not (same_name h.agent c.args.agent)) _ (λ x b f' k. search rules) _ _ c.retain.ensures.filtered)
    ∙ forgotten c.args.agent _

pub returns-clause-settled : goal.returns-clause-settled
returns-clause-settled c =
    subst (λ (hs : List Holding). All IsHeld hs) (sym (filter_same _ (λ (h : Holding). not (same_name h.agent c.args.agent)) _ (λ x b f' k. search rules) _ _ c.retain.ensures.filtered))
    (All-filter _ IsHeld _ c.requires)
