-- Replies of one number.
use Rattle.std.specs.Prelude.{ℕ}
use Rattle.replies.specs.declared.questions.Word.{Word}
use Rattle.replies.specs.declared.questions.Word.TheVariants.{Size, Audit}
use Rattle.tmm_model.specs.Replies.{Reply, SizeIs, AuditYes}

-- the size of the map, or that the kept beliefs are right
abbrev pub number_reply : Word → ℕ → Reply
number_reply Size n = SizeIs n
number_reply Audit n = AuditYes
