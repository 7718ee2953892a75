use Rattle.std.proofs.Common.{take, drop, sym, ◌∙◌}
use Rattle.std.proofs.lemmas.Bool.Decides.{Decides-eqb}
use Rattle.tmm_model.proofs.Words.{same_from_words, equal_by_last_words}
use Rattle.tmm_model.proofs.name.same_bytes.Goals as goal
use Rattle.tmm_model.proofs.name.same_bytes.Goals.{then-word, else-word}

pub returns-then-word-2 : goal.returns-then-word-2
returns-then-word-2 c =
    let a = c.args.a.now in
    let b = c.args.b.now in
    elim c.if-word.branch [
      | then-word w ↦
          let second = (Decides-eqb w.word-then-word.result w.word-then-word-2.result).0 (sym w.value-is ∙ c.if-word-2.true) in
          equal_by_last_words a b c.told-a c.told-b
          (same_from_words c.word.result c.word-2.result (take 8 a) (take 8 b) c.word.ensures.bytes c.word-2.ensures.bytes w.if-word.true)
          (same_from_words w.word-then-word.result w.word-then-word-2.result (take 8 (drop 8 a)) (take 8 (drop 8 b)) w.word-then-word.ensures.bytes w.word-then-word-2.ensures.bytes second)
          c.word-then-word-2-2.result
          c.word-then-word-2-3.result
          c.word-then-word-2-2.ensures.value
          c.word-then-word-2-3.ensures.value
          c.word-then-word-2-2.ensures.bytes
          c.word-then-word-2-3.ensures.bytes
      | else-word w ↦ absurd (w.if-word.false ((Decides-eqb c.word.result c.word-2.result).0 (sym w.value-is ∙ c.if-word-2.true)))
    ]
