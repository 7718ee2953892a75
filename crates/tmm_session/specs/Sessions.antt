-- What a session tells of a line, and of what the line says, for the line of a number.
use Rattle.std.specs.Prelude.{◌≡◌, ℕ, ◌≤◌, List, ◌∷◌, length, Option, Some, None}
use Rattle.tmm_model.specs.declared.line.Line.{Line}
use Rattle.tmm_model.specs.declared.turn.Turn.{Turn}
use Rattle.tmm_model.specs.declared.turn.Turn.TheVariants.{Reply as ReplyTurn}
use Rattle.tmm_model.specs.Lines.{words}
use Rattle.tmm_model.specs.Replies.{Reply, text_of}
use Rattle.tmm_model.specs.Standing.{Standing}
use Rattle.tmm_model.specs.Transcript.{AnswersLine, Step, most_bytes}
use Rattle.tmm_session.specs.declared.told.Told.{Told}
use Rattle.tmm_session.specs.declared.told.Told.TheVariants.{Silent, Reply as ReplyOf, Memory}
use Rattle.tmm_session.specs.Kinds.{reply_kind, turn_of}

-- this reply to the line of number k, with its kind, or want of memory
abbrev pub Tells : ℕ → (Reply → Type 0) → Type 0 → Told → Type 0
Tells k replied kept Silent = ⊥
Tells k replied kept Memory = kept
Tells k replied kept (ReplyOf bytes kind) = (reply : Reply) × replied reply × (bytes.items ≡ text_of k reply) × (kind ≡ reply_kind reply)

-- a meaning is answered
abbrev pub TellsMeaning : Standing → ℕ → Line → Told → Standing → Type 0
TellsMeaning old k meaning told new = Tells k (λ reply. AnswersLine old meaning reply new) (new ≡ old) told

-- the reply that a step of the transcript tells; none where there was no memory, or the line is
-- silent
abbrev pub reply_told : (old : Standing) (k : ℕ) (line : List ℕ) (turn : Turn) (new : Standing) → Step old k line turn new → Option Reply
reply_told old k line (ReplyTurn bytes refused) new step = Some step.0
reply_told old k line turn new step = None

-- where a reply is told, its kind is
abbrev pub HasKind : Told → Option Reply → Type 0
HasKind (ReplyOf bytes kind) (Some reply) = kind ≡ reply_kind reply
HasKind told reply = Unit {0}

-- a line is answered: the step of the transcript, with the kind of its reply
abbrev pub TellsLine : Standing → ℕ → List ℕ → Told → Standing → Type 0
TellsLine old k line told new = (step : Step old k line (turn_of told) new) × HasKind told (reply_told old k line (turn_of told) new step)

-- the line is short enough, and has this first word and these behind it
pub record Splits (line word : List ℕ) (rest : List (List ℕ)) : Type 0 where
  pub short : length line ≤ most_bytes
  pub split : words line ≡ word ∷ rest
