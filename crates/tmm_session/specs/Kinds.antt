-- Of which kind a reply is.
use Rattle.std.specs.Prelude.{Bool, true, false}
use Rattle.tmm_model.specs.declared.answer.Answer.TheVariants.{Yes, No, Unordered}
use Rattle.tmm_model.specs.declared.turn.Turn.{Turn}
use Rattle.tmm_model.specs.declared.turn.Turn.TheVariants.{Silent as NoTurn, Reply as ReplyTurn, Memory as MemoryTurn}
use Rattle.tmm_model.specs.Replies.{Reply, Accepted, Refused, Answered, SizeIs}
use Rattle.tmm_session.specs.declared.told.ReplyKind.{ReplyKind}
use Rattle.tmm_session.specs.declared.told.ReplyKind.TheVariants.{Accepted as an_ok, Yes as a_yes, No as a_no, Refused as a_refusal, Size as a_size, Other as another}
use Rattle.tmm_session.specs.declared.told.Told.{Told}
use Rattle.tmm_session.specs.declared.told.Told.TheVariants.{Silent, Reply as ReplyOf, Memory}

-- the kind of a reply
abbrev pub reply_kind : Reply → ReplyKind
reply_kind (Accepted changes) = an_ok
reply_kind (Answered (Yes by)) = a_yes
reply_kind (Answered (No blames more)) = a_no
reply_kind (Answered Unordered) = a_refusal
reply_kind (Refused refusal) = a_refusal
reply_kind (SizeIs n) = a_size n
reply_kind _ = another

-- a refusal
abbrev pub is_refusing : ReplyKind → Bool
is_refusing a_refusal = true
is_refusing _ = false

-- the turn of a line that is told this
abbrev pub turn_of : Told → Turn
turn_of Silent = NoTurn
turn_of (ReplyOf bytes kind) = ReplyTurn bytes (is_refusing kind)
turn_of Memory = MemoryTurn
