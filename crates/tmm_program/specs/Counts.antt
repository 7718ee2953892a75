-- What a summary counts of replies.
use Rattle.std.specs.Prelude.{ℕ, ◌+◌, ◌<◌, ◌^◌, ◌-◌, ◌≡◌, List, ◌∷◌, [], ◌++◌, Option, Some, None, codes, decimal, length, count_by}
use Rattle.tmm_model.specs.Generator.{is_ok, is_yes, is_no, is_refused, is_want, last_word}
use Rattle.tmm_model.specs.Lines.{spaced}
use Rattle.tmm_model.specs.Replies.{Reply}
use Rattle.tmm_program.specs.declared.demo.Counts.{Counts}
use Rattle.tmm_session.specs.declared.told.ReplyKind.{ReplyKind}
use Rattle.tmm_session.specs.declared.told.ReplyKind.TheVariants.{Accepted, Yes, No, Refused, Size, Other}
use Rattle.tmm_session.specs.declared.told.Told.{Told}
use Rattle.tmm_session.specs.declared.told.Told.TheVariants.{Silent, Reply as ReplyOf, Memory}

-- the number that a reply told, and `*` for none
abbrev pub number_word : Option ℕ → List ℕ
number_word (Some n) = decimal n
number_word None = codes "*"

-- the counts are those of the replies
pub record AreCounts (counts : Counts) (replies : List (Option Reply)) : Type 0 where
  pub lines : counts.lines ≡ length replies
  pub ok : counts.ok ≡ count_by is_ok replies
  pub yes : counts.yes ≡ count_by is_yes replies
  pub no : counts.no ≡ count_by is_no replies
  pub refused : counts.refused ≡ count_by is_refused replies
  pub memory : counts.memory ≡ count_by is_want replies
  pub size : number_word counts.size ≡ last_word replies

-- one more of any of these can be counted
pub record HaveRoom (counts : Counts) : Type 0 where
  pub lines : counts.lines < 2 ^ 64 - 1
  pub ok : counts.ok < 2 ^ 64 - 1
  pub yes : counts.yes < 2 ^ 64 - 1
  pub no : counts.no < 2 ^ 64 - 1
  pub refused : counts.refused < 2 ^ 64 - 1
  pub memory : counts.memory < 2 ^ 64 - 1

-- one more reply of this kind
abbrev pub with_kind : Counts → ReplyKind → Counts
with_kind c Accepted = record c { lines = c.lines + 1; ok = c.ok + 1; size = None }
with_kind c Yes = record c { lines = c.lines + 1; yes = c.yes + 1; size = None }
with_kind c No = record c { lines = c.lines + 1; no = c.no + 1; size = None }
with_kind c Refused = record c { lines = c.lines + 1; refused = c.refused + 1; size = None }
with_kind c (Size n) = record c { lines = c.lines + 1; size = Some n }
with_kind c Other = record c { lines = c.lines + 1; size = None }

-- one more line that is told this; a silent one has no reply
abbrev pub counted : Counts → Told → Counts
counted c Silent = c
counted c (ReplyOf bytes kind) = with_kind c kind
counted c Memory = record c { lines = c.lines + 1; memory = c.memory + 1; size = None }

-- the line of these counts
abbrev pub counts_text : ℕ → Counts → List ℕ
counts_text n c =
    spaced (
    codes "demo" ∷ decimal n
    ∷ codes "lines" ∷ decimal c.lines
    ∷ codes "ok" ∷ decimal c.ok
    ∷ codes "yes" ∷ decimal c.yes
    ∷ codes "no" ∷ decimal c.no
    ∷ codes "refused" ∷ decimal c.refused
    ∷ codes "memory" ∷ decimal c.memory
    ∷ codes "size" ∷ number_word c.size ∷ [])
    ++ 10 ∷ []
