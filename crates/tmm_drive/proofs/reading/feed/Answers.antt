use Rattle.std.proofs.Common.{◌≡◌, ◌∷◌, ◌++◌, [], length, refl, sym, ap, ◌∙◌, arith, append_assoc, length-append}
use Rattle.std.proofs.lemmas.List.{length-take}
use Rattle.std.proofs.lemmas.Result.{err_from_is_err_and}
use Rattle.tmm_drive.proofs.Steps.{GoesOn-none, GoesOn-then, GoesOn-part, GivesUp-then}
use Rattle.tmm_drive.proofs.reading.feed.Goals as goal

pub lines-init : goal.lines-init
lines-init g c = record {
  room = c.requires.room;
  kept = c.requires.kept;
  ready = c.requires.ready;
  number = c.requires.number;
  few = omega arith;
  faults = refl;
  answers = ([], refl, λ start taken output st. GoesOn-none g.L.Lines.step start taken output _ _ _ _ st);
}

pub returns-in_err-end_line-clause-answers : goal.returns-in_err-end_line-clause-answers
returns-in_err-end_line-clause-answers g c = λ start taken output st.
    let p = err_from_is_err_and c.from_residual.result c.from_residual.ensures.1 in
    let on = c.lines.invariant.answers in
    let line = c.in-Some.line.now ++ 10 ∷ [] in
    let whole : taken ++ c.args.piece.now ≡ ((taken ++ on.0) ++ line) ++ c.in-Some.behind.now =
    ap (λ l. taken ++ l) (sym on.1 ∙ ap (λ l. on.0 ++ l) c.in-Some.ensures.1) ∙ sym (append_assoc taken on.0 (line ++ c.in-Some.behind.now))
    ∙ sym (append_assoc (taken ++ on.0) line c.in-Some.behind.now) in
    rw p.1 (GivesUp-then g.L.Lines.step start (taken ++ on.0) output line c.in-Some.behind.now _ _ _ _ _ _ _ whole
    (on.2 start taken output st)
    (λ sent now. c.in_err-end_line.ensures.answers start (taken ++ on.0) sent now))

pub lines-preserved : goal.lines-preserved
lines-preserved g c =
    let on = c.lines.invariant.answers in
    let line = c.in-Some.line.now ++ 10 ∷ [] in
    let parts : on.0 ++ c.lines.rest.now ≡ (on.0 ++ line) ++ c.in-Some.behind.now =
    ap (λ l. on.0 ++ l) c.in-Some.ensures.1 ∙ sym (append_assoc on.0 line c.in-Some.behind.now) in
    let lengths = ap length c.in-Some.ensures.1 in record {
      room = omega (arith, c.in_ok-end_line.ensures.room);
      kept = omega (arith, ap length c.in_ok-end_line.ensures.cleared);
      ready = c.in_ok-end_line.ensures.ready;
      number = c.in_ok-end_line.ensures.number;
      few = omega (arith, c.in_ok-end_line.ensures.few, c.lines.invariant.few, lengths, length-append line c.in-Some.behind.now, length-append c.in-Some.line.now (10 ∷ []));
      faults = c.in_ok-end_line.ensures.cause.stays ∙ c.lines.invariant.faults;
      answers = (
        on.0 ++ line,
        sym parts ∙ on.1,
        λ start taken output st.
            GoesOn-then g.L.Lines.step start taken output on.0 line _ _ _ _ _ _ _ _ _ _ refl (on.2 start taken output st)
            (λ sent now. c.in_ok-end_line.ensures.answers start (taken ++ on.0) sent now),
      );
    }

pub returns-clause-kept : goal.returns-clause-kept
returns-clause-kept g c = let kept = ap length c.keep.ensures.items in omega (arith, kept, length-take 401 (c.lines.buffer.items ++ c.lines.rest.now))

pub returns-clause-answers : goal.returns-clause-answers
returns-clause-answers g c = λ start taken output st.
    let on = c.lines.invariant.answers in
    GoesOn-part g.L.Lines.step start taken output on.0 c.lines.rest.now _ _ _ _ _ c.args.piece.now _ on.1 c.in_default.ensures c.keep.ensures.items (on.2 start taken output st)
