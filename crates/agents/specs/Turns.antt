-- The turn of an agent's line.
use Rattle.std.specs.Prelude.{◌≡◌, ℕ, Bool, List, Result, Ok, Err}
use Rattle.tmm_model.specs.declared.memory.NoMemory.{NoMemory}
use Rattle.tmm_model.specs.declared.seq.Seq.{Seq}
use Rattle.tmm_model.specs.declared.turn.Turn.{Turn}
use Rattle.tmm_model.specs.declared.turn.Turn.TheVariants.{Silent, Reply as ReplyOf, Memory}
use Rattle.agents.specs.Worlds.{World}

-- a line has a reply that is one of its answers; or there was no memory, and nothing changes
abbrev pub TurnIs : (List ℕ → Bool → World → Type 0) → World → Turn → World → Type 0
TurnIs answers old Silent new = ⊥
TurnIs answers old Memory new = new ≡ old
TurnIs answers old (ReplyOf bytes refused) new = answers bytes.items refused new

-- the reply is this one, where there was memory for it, and leaves this world
abbrev pub Closes : Result (Seq ℕ) NoMemory → Bool → World → List ℕ → Bool → World → Type 0
Closes (Ok reply) tells after bytes refused new = (bytes ≡ reply.items) × (refused ≡ tells) × (new ≡ after)
Closes (Err failed) tells after bytes refused new = ⊥
