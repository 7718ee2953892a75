use Rattle.std.proofs.Common.{rules, ◌≡◌, Some, None, List, filter, map, not, ap, sym, subst, ◌∙◌}
use Rattle.std.specs.Prelude.{All, position}
use Rattle.std.proofs.lemmas.Fn.{filter_same}
use Rattle.std.proofs.lemmas.List.Elements.{All-filter}
use Rattle.tmm_model.specs.Points.{same_name}
use Rattle.agents.specs.declared.batches.Holding.{Holding}
use Rattle.agents.specs.Holdings.{IsHeld, batch_of}
use Rattle.agents.proofs.Places.{is_of, forgotten, held_in_place, held_without_place, others_in_place, all_without_place}
use Rattle.agents.proofs.batches.hand_over.Goals as goal

found_at : (c : goal.After-retain) → position (is_of c.args.agent) c.args.holdings.now.items ≡ Some c.in-Some.place
found_at c = sym (c.place_of.ensures.place ∙ ap (λ (hs : List Holding). position (is_of c.args.agent) hs) c.deref.ensures.value) ∙ c.in-Some.is

-- all but the agent's stay
others : (c : goal.After-retain) → c.retain.new.self.items ≡ filter (λ (h : Holding). not (same_name h.agent c.args.agent)) c.args.holdings.now.items
others c =
    filter_same _ (λ (h : Holding). not (same_name h.agent c.args.agent)) _ (λ x b f' k. search rules) _ _ c.retain.ensures.filtered
    ∙ others_in_place c.args.agent c.args.holdings.now.items c.in-Some.place c.index_mut.result.now (record c.index_mut.result.now { edits = c.swap.new.x }) (found_at c)
    (ap (λ (h : Holding). h.agent) c.index_mut.ensures.value)

pub returns-in-Some-clause-handed : goal.returns-in-Some-clause-handed
returns-in-Some-clause-handed c =
    ap (λ es. es.items) c.swap.ensures.y_after
    ∙ ap (λ (h : Holding). h.edits.items) c.index_mut.ensures.value
    ∙ sym (held_in_place c.args.agent c.args.holdings.now.items c.in-Some.place (found_at c) c.index_mut.result.now)

pub returns-in-Some-clause-forgotten : goal.returns-in-Some-clause-forgotten
returns-in-Some-clause-forgotten c = ap (λ (hs : List Holding). map batch_of hs) (others c) ∙ forgotten c.args.agent c.args.holdings.now.items

pub returns-in-Some-clause-settled : goal.returns-in-Some-clause-settled
returns-in-Some-clause-settled c = subst (λ (hs : List Holding). All IsHeld hs) (sym (others c)) (All-filter _ IsHeld _ c.requires.settled)

nowhere : (c : goal.In-None) → position (is_of c.args.agent) c.args.holdings.now.items ≡ None
nowhere c = sym (c.place_of.ensures.place ∙ ap (λ (hs : List Holding). position (is_of c.args.agent) hs) c.deref.ensures.value) ∙ c.in-None.is

pub returns-in-None-clause-handed : goal.returns-in-None-clause-handed
returns-in-None-clause-handed c = c.requires.empty ∙ sym (held_without_place c.args.agent c.args.holdings.now.items (nowhere c))

pub returns-in-None-clause-forgotten : goal.returns-in-None-clause-forgotten
returns-in-None-clause-forgotten c = sym (all_without_place c.args.agent c.args.holdings.now.items (nowhere c))
