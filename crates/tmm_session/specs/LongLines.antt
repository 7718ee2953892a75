-- Lines of more than 400 bytes are answered alike.
use Rattle.std.specs.Prelude.{ℕ, ◌<◌, List, length}
use Rattle.std.proofs.Common.{arith}
use Rattle.tmm_model.specs.declared.turn.Turn.{Turn}
use Rattle.tmm_model.specs.declared.turn.Turn.TheVariants.{Silent, Reply as ReplyOf, Memory}
use Rattle.tmm_model.specs.Replies.{Reply}
use Rattle.tmm_model.specs.Standing.{Standing}
use Rattle.tmm_model.specs.Transcript.{Step, LineAnswers, for_length, for_form, for_meaning}

LineAnswers-long : (old new : Standing) (a b : List ℕ) (reply : Reply) → 400 < length a → 400 < length b → LineAnswers old a reply new → LineAnswers old b reply new
LineAnswers-long old new a b reply long_a long_b answers = elim answers [
  | for_length long is_refused kept ↦ for_length long_b is_refused kept
  | for_form short formless is_refused kept ↦ absurd (omega arith)
  | for_meaning meaning read as_meant ↦ absurd (omega (arith, read.short))
]

pub Step-long : (old new : Standing) (k : ℕ) (a b : List ℕ) (turn : Turn) → 400 < length a → 400 < length b → Step old k a turn new → Step old k b turn new
Step-long old new k a b Silent long_a long_b answers = absurd (omega (arith, answers.0.short))
Step-long old new k a b Memory long_a long_b answers = ((λ read. omega (arith, read.short)), answers.1)
Step-long old new k a b (ReplyOf bytes refused) long_a long_b answers =
    (answers.0, LineAnswers-long old new a b answers.0 long_a long_b answers.1, answers.2, answers.3)
