-- What is held, as the code has it, and why edits are not held or not made.
use Rattle.std.specs.Prelude.{◌≡◌, ◌≢◌, ◌≤◌, All, List, [], length, Option, Some, None}
use Rattle.tmm_model.specs.declared.mode.ModeCause.{ModeCause}
use Rattle.tmm_model.specs.declared.mode.ModeCause.TheVariants.{LimitBatch, LimitAgents}
use Rattle.tmm_model.specs.Lines.{IsWellFormedEdit}
use Rattle.tmm_model.specs.Standing.{Standing}
use Rattle.tmm_model.specs.Transcript.{RefusesEdit}
use Rattle.agents.specs.declared.batches.Held.{Held}
use Rattle.agents.specs.declared.batches.Holding.{Holding}
use Rattle.agents.specs.declared.batches.HoldStop.{HoldStop}
use Rattle.agents.specs.declared.batches.HoldStop.TheVariants.{Batch as TooManyEdits, Agents as TooManyAgents, NoMemory as NoRoom}
use Rattle.agents.specs.declared.batches.TheConstants.{MOST_HELD}
use Rattle.agents.specs.declared.making.BatchStop.{BatchStop}
use Rattle.agents.specs.declared.making.BatchStop.TheVariants.{Refused, NoMemory}
use Rattle.agents.specs.Commits.{RefusedAt}
use Rattle.agents.specs.Worlds.{Batch}

-- what an agent holds, as the world has it
abbrev pub batch_of : Holding → Batch
batch_of h = record { agent = h.agent; edits = h.edits.items }

-- what an agent holds: at least one edit and at most 100, each of which a line can say
pub record IsHeld (h : Holding) : Type 0 where
  pub some : h.edits.items ≢ []
  pub few : length h.edits.items ≤ MOST_HELD
  pub well_formed : All (λ held. IsWellFormedEdit held.edit) h.edits.items

-- why an edit is not held: for this limit, or for want of memory, where no limit is reached
abbrev pub StopsHold : Option ModeCause → HoldStop → Type 0
StopsHold cause TooManyEdits = cause ≡ Some LimitBatch
StopsHold cause TooManyAgents = cause ≡ Some LimitAgents
StopsHold cause NoRoom = cause ≡ None

-- why an edit is not made: it is refused for this cause, or there was no memory
abbrev pub StopsOne : Standing → Held → BatchStop → Type 0
StopsOne list held (Refused line refusal) = (line ≡ held.line) × RefusesEdit list held.edit refusal
StopsOne list held NoMemory = Unit {0}

-- why edits are not all made: this one is the first that is refused, or there was no memory
abbrev pub StopsBatch : Standing → List Held → BatchStop → Type 0
StopsBatch list edits (Refused line refusal) = RefusedAt list edits line refusal
StopsBatch list edits NoMemory = Unit {0}
