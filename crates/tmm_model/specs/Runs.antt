-- What lines are answered, one after the other.
use Rattle.std.specs.Prelude.{ℕ, ◌+◌, ◌≡◌, Bool, true, false, List, [], ◌∷◌, ◌++◌}
use Rattle.tmm_model.specs.declared.turn.Turn.{Turn}
use Rattle.tmm_model.specs.declared.turn.Turn.TheVariants.{Silent, Reply, Memory}
use Rattle.tmm_model.specs.Replies.{memory_text}

-- the bytes that answer the line of this number
abbrev pub turn_text : ℕ → Turn → List ℕ
turn_text number Silent = []
turn_text number (Reply bytes refused) = bytes.items
turn_text number Memory = memory_text number

-- the line has a reply
abbrev pub is_reply : Turn → Bool
is_reply Silent = false
is_reply (Reply bytes refused) = true
is_reply Memory = true

-- it is a refusal
abbrev pub is_refused : Turn → Bool
is_refused Silent = false
is_refused (Reply bytes refused) = refused
is_refused Memory = false

-- it says that there was no memory
abbrev pub is_memory : Turn → Bool
is_memory Silent = false
is_memory (Reply bytes refused) = false
is_memory Memory = true

-- Lines are answered one after the other, each from the state that the one before left, and what
-- answers a line may choose: from `old`, the lines after line number k may have these turns, and
-- leave `new`.
abbrev pub Run : {S : Type 0} → (S → ℕ → List ℕ → Turn → S → Type 0) → S → ℕ → List (List ℕ) → List Turn → S → Type 0
Run step old k [] [] new = new ≡ old
Run {S} step old k (line ∷ lines) (turn ∷ turns) new = (mid : S) × step old (k + 1) line turn mid × Run step mid (k + 1) lines turns new
Run step old k [] (turn ∷ turns) new = ⊥
Run step old k (line ∷ lines) [] new = ⊥

-- the replies of these turns, one after the other, where the first is that of line number k + 1
abbrev pub replies : ℕ → List Turn → List ℕ
replies k [] = []
replies k (turn ∷ turns) = turn_text (k + 1) turn ++ replies (k + 1) turns
