use Rattle.std.proofs.Common.{◌≡◌, ◌++◌, ◌∷◌, [], ◌<◌, List, Option, Some, None, length, map, get_or, ap, sym, subst, ◌∙◌}
use Rattle.std.specs.Prelude.{nat_le, position}
use Rattle.tmm_model.specs.declared.mode.ModeCause.{ModeCause}
use Rattle.tmm_model.specs.declared.mode.ModeCause.TheVariants.{LimitBatch, LimitAgents}
use Rattle.tmm_model.specs.Modes.{where_true}
use Rattle.agents.specs.declared.batches.Holding.{Holding}
use Rattle.agents.specs.declared.batches.TheConstants.{MOST_HELD, MOST_AGENTS}
use Rattle.agents.specs.Batches.{hold_cause}
use Rattle.agents.specs.Holdings.{StopsHold, batch_of}
use Rattle.agents.proofs.Outcomes.{on_ok, on_err, if_err}
use Rattle.agents.proofs.Places.{is_of, place_within, more_in_place, first_without_place, cause_in_place, cause_without_place, below_limit, same_in_place}
use Rattle.agents.proofs.batches.hold.Goals as goal

-- where the agent has a place

found_at : (c : goal.After-holdings-1) → position (is_of c.args.agent) c.args.holdings.now.items ≡ Some c.in-Some.place
found_at c = sym (c.place_of.ensures.place ∙ ap (λ (hs : List Holding). position (is_of c.args.agent) hs) c.deref.ensures.value) ∙ c.in-Some.is

cause_at : (c : goal.After-holdings-1)
    → hold_cause (map batch_of c.args.holdings.now.items) c.args.agent ≡ where_true (nat_le MOST_HELD (length c.index_mut.result.now.edits.items)) LimitBatch
cause_at c =
    cause_in_place c.args.agent c.args.holdings.now.items c.in-Some.place c.index_mut.result.now (found_at c) c.requires.settled
    ∙ ap (λ (h : Holding). where_true (nat_le MOST_HELD (length h.edits.items)) LimitBatch) (sym c.index_mut.ensures.value)

owner_at : (c : goal.After-holdings-1) → c.hold_more.new.holding.agent ≡ (get_or c.args.holdings.now.items c.in-Some.place c.index_mut.result.now).agent
owner_at c = c.hold_more.ensures.agent ∙ ap (λ (h : Holding). h.agent) c.index_mut.ensures.value

pub returns-in-Some-clause-allowed : goal.returns-in-Some-clause-allowed
returns-in-Some-clause-allowed c =
    on_ok (length c.index_mut.result.now.edits.items < MOST_HELD) (hold_cause (map batch_of c.args.holdings.now.items) c.args.agent ≡ None)
    (λ lt. cause_at c ∙ below_limit MOST_HELD (length c.index_mut.result.now.edits.items) LimitBatch lt) c.hold_more.result c.hold_more.ensures.allowed

pub returns-in-Some-clause-held : goal.returns-in-Some-clause-held
returns-in-Some-clause-held c =
    on_ok (c.hold_more.new.holding.edits.items ≡ c.index_mut.result.now.edits.items ++ c.args.held ∷ []) _
    (λ grown. sym (more_in_place c.args.agent c.args.holdings.now.items c.in-Some.place (found_at c) c.index_mut.result.now c.hold_more.new.holding c.args.held (owner_at c)
    (grown ∙ ap (λ (h : Holding). h.edits.items ++ c.args.held ∷ []) c.index_mut.ensures.value))) c.hold_more.result c.hold_more.ensures.held

pub returns-in-Some-clause-stops : goal.returns-in-Some-clause-stops
returns-in-Some-clause-stops c =
    if_err (StopsHold (where_true (nat_le MOST_HELD (length c.index_mut.result.now.edits.items)) LimitBatch)) _
    (λ e stops. subst (λ (cause : Option ModeCause). StopsHold cause e) (sym (cause_at c)) stops) c.hold_more.result c.hold_more.ensures.stops

pub returns-in-Some-clause-same : goal.returns-in-Some-clause-same
returns-in-Some-clause-same c =
    on_err (c.hold_more.new.holding.edits.items ≡ c.index_mut.result.now.edits.items) _
    (λ same. same_in_place c.args.holdings.now.items c.in-Some.place c.index_mut.result.now c.hold_more.new.holding (owner_at c)
    (same ∙ ap (λ (h : Holding). h.edits.items) c.index_mut.ensures.value)
    (place_within c.args.agent c.args.holdings.now.items c.in-Some.place (found_at c))) c.hold_more.result c.hold_more.ensures.same

-- where it has none

nowhere : (c : goal.After-hold_first) → position (is_of c.args.agent) c.args.holdings.now.items ≡ None
nowhere c = sym (c.place_of.ensures.place ∙ ap (λ (hs : List Holding). position (is_of c.args.agent) hs) c.deref.ensures.value) ∙ c.in-None.is

pub returns-in-None-clause-allowed : goal.returns-in-None-clause-allowed
returns-in-None-clause-allowed c =
    on_ok (length c.args.holdings.now.items < MOST_AGENTS) (hold_cause (map batch_of c.args.holdings.now.items) c.args.agent ≡ None)
    (λ lt. cause_without_place c.args.agent c.args.holdings.now.items (nowhere c) ∙ below_limit MOST_AGENTS (length c.args.holdings.now.items) LimitAgents lt)
    c.hold_first.result c.hold_first.ensures.allowed

pub returns-in-None-clause-held : goal.returns-in-None-clause-held
returns-in-None-clause-held c =
    on_ok (map batch_of c.hold_first.new.holdings.items ≡ map batch_of c.args.holdings.now.items ++ record { agent = c.args.agent; edits = c.args.held ∷ [] } ∷ []) _
    (λ grown. grown ∙ sym (first_without_place c.args.agent c.args.holdings.now.items (nowhere c) c.args.held)) c.hold_first.result c.hold_first.ensures.held

pub returns-in-None-clause-stops : goal.returns-in-None-clause-stops
returns-in-None-clause-stops c =
    if_err (StopsHold (where_true (nat_le MOST_AGENTS (length c.args.holdings.now.items)) LimitAgents)) _
    (λ e stops. subst (λ (cause : Option ModeCause). StopsHold cause e) (sym (cause_without_place c.args.agent c.args.holdings.now.items (nowhere c))) stops)
    c.hold_first.result c.hold_first.ensures.stops
