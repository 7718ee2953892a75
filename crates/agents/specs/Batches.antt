-- What agents hold, and how that changes.
use Rattle.std.specs.Prelude.{ℕ, nat_le, cond, not, List, [], ◌∷◌, ◌++◌, length, filter, find, Option, Some, None}
use Rattle.tmm_model.specs.declared.mode.ModeCause.{ModeCause}
use Rattle.tmm_model.specs.declared.mode.ModeCause.TheVariants.{LimitBatch, LimitAgents}
use Rattle.tmm_model.specs.Modes.{where_true}
use Rattle.tmm_model.specs.Points.{same_name}
use Rattle.agents.specs.declared.batches.Held.{Held}
use Rattle.agents.specs.declared.batches.TheConstants.{MOST_HELD, MOST_AGENTS}
use Rattle.agents.specs.Worlds.{Batch}

-- the edits of a batch, and none where there is no batch
abbrev pub edits_of : Option Batch → List Held
edits_of None = []
edits_of (Some batch) = batch.edits

-- **The edits that an agent holds**, the first of them first
abbrev pub held_by : List Batch → List ℕ → List Held
held_by batches agent = edits_of (find (λ batch. same_name batch.agent agent) batches)

-- one more edit held for an agent, behind those that it holds
abbrev pub with_held : List Batch → List ℕ → Held → List Batch
with_held [] agent held = record { agent = agent; edits = held ∷ [] } ∷ []
with_held (batch ∷ batches) agent held =
    cond (same_name batch.agent agent)
    (record { agent = batch.agent; edits = batch.edits ++ held ∷ [] } ∷ batches)
    (batch ∷ with_held batches agent held)

-- nothing held for an agent
abbrev pub without : List Batch → List ℕ → List Batch
without batches agent = filter (λ batch. not (same_name batch.agent agent)) batches

-- Why an agent that holds these edits may hold no further one: it holds 100, or it holds none and
-- 64 agents hold some.
abbrev pub limit_of : List Held → ℕ → Option ModeCause
limit_of [] agents = where_true (nat_le MOST_AGENTS agents) LimitAgents
limit_of edits agents = where_true (nat_le MOST_HELD (length edits)) LimitBatch

-- why the agent may hold no further edit
abbrev pub hold_cause : List Batch → List ℕ → Option ModeCause
hold_cause batches agent = limit_of (held_by batches agent) (length batches)
