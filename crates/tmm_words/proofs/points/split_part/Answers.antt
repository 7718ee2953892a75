use Rattle.std.proofs.Common.{◌∙◌, ap, length}
use Rattle.std.specs.Prelude.{unwrap_or, ◌==◌}
use Rattle.tmm_words.proofs.Parts.{part_first}
use Rattle.tmm_words.proofs.Places.{position_len}
use Rattle.tmm_words.proofs.points.split_part.Goals as goal

pub returns-clause-parts : goal.returns-clause-parts
returns-clause-parts c =
    rw (c.split_at.ensures.front, c.split_at.ensures.back)
    (part_first c.args.bytes.now c.unwrap_or-len.result
    (c.unwrap_or-len.ensures ∙ ap (λ o. unwrap_or o (length c.args.bytes.now)) c.first_slash.ensures.place ∙ position_len (λ b. b == 47) c.args.bytes.now))
