use Rattle.std.proofs.Common.{◌≡◌, ◌<◌, [], List, ℕ, Err, Ok, refl, length, append-nil, sym, subst, arith}
use Rattle.std.proofs.lemmas.Result.{err_from_is_err_and}
use Rattle.std.proofs.KnownBytes.{Appends-nil}
use Rattle.tmm_drive.specs.Endings.{AnswersAll}
use Rattle.tmm_drive.proofs.Steps.{last_goes_on, AnswersAll-ended, length-zero}
use Rattle.tmm_drive.proofs.reading.finish.Goals as goal

pub returns-then-is_empty-clause-answers : goal.returns-then-is_empty-clause-answers
returns-then-is_empty-clause-answers g c = λ start taken output st.
    let none : c.args.buffer.now.items ≡ [] = length-zero _ (grind arith) in (
      [],
      Appends-nil _,
      subst (λ (l : List ℕ). AnswersAll g.L.Lines.step start taken l c.status.result) (sym (append-nil output))
          (AnswersAll-ended g.L.Lines.step start taken output _ _ _ c.status.result none c.status.ensures.told st),
    )

pub returns-in_err-answer-clause-answers : goal.returns-in_err-answer-clause-answers
returns-in_err-answer-clause-answers g c = λ start taken output st.
    let some : 0 < length c.args.buffer.now.items = grind arith in
    let p = err_from_is_err_and c.from_residual.result c.from_residual.ensures.1 in
    rw p.1 (last_goes_on g.L.Lines.step start g.met.L.Lines.long_lines taken output _ _ _ _ _ _ _ _ (Err c.in_err-answer.field-0.0) some refl st (rw c.items-2.ensures at c.in_err-answer.ensures.answers))

pub returns-clause-answers : goal.returns-clause-answers
returns-clause-answers g c = λ start taken output st.
    let some : 0 < length c.args.buffer.now.items = grind arith in
    last_goes_on g.L.Lines.step start g.met.L.Lines.long_lines taken output _ _ _ _ _ _ _ _ (Ok c.in_ok-answer.field-0) some c.status-2.ensures.told st (rw c.items-2.ensures at c.in_ok-answer.ensures.answers)
