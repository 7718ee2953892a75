use Rattle.std.proofs.Common.{◌≡◌, [], ◌∷◌, ◌++◌, ◌∙◌, append_assoc, arith, take}
use Rattle.tmm_drive.specs.Reading.{most_kept}
use Rattle.tmm_drive.proofs.Steps.{Stands-part, line_goes_on, answers_kept, answers_part, length-zero}
use Rattle.tmm_drive.proofs.reading.end_line.Goals as goal

pub returns-then-is_empty-clause-answers : goal.returns-then-is_empty-clause-answers
returns-then-is_empty-clause-answers g c = λ start taken output st.
    let none : c.args.buffer.now.items ≡ [] = length-zero _ (grind arith) in
    let with_part = Stands-part g.L.Lines.step start taken output _ _ _ c.args.part.now c.requires.line st in
    line_goes_on g.L.Lines.step start (taken ++ c.args.part.now) output _ _ _ c.args.part.now _ _ _ _ _ _ _ (append_assoc taken c.args.part.now (10 ∷ [])) with_part
    (answers_part g.L.Lines.step start taken output _ _ _ c.args.part.now c.requires.line _ none st)
    c.answer.ensures.answers none

pub returns-clause-answers : goal.returns-clause-answers
returns-clause-answers g c = λ start taken output st.
    let with_part = Stands-part g.L.Lines.step start taken output _ _ _ c.args.part.now c.requires.line st in
    let given : c.items-2.result.now ≡ take most_kept (c.args.buffer.now.items ++ c.args.part.now) = c.items-2.ensures ∙ c.keep.ensures.items in
    line_goes_on g.L.Lines.step start (taken ++ c.args.part.now) output _ _ _ (take most_kept (c.args.buffer.now.items ++ c.args.part.now)) _ _ _ _ _ _ _ (append_assoc taken c.args.part.now (10 ∷ [])) with_part
    (λ turn answers. answers_kept g.L.Lines.step start g.met.L.Lines.long_lines (taken ++ c.args.part.now) output _ _ _ turn _ with_part answers)
    (rw given at c.answer-answered.ensures.answers) c.clear.ensures.items
