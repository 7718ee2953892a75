use Rattle.std.proofs.Common.{◌≡◌, ◌≤◌, ◌++◌, [], List, ℕ, refl, ◌∙◌, ap, length, length-append, take, sym, subst, arith}
use Rattle.std.proofs.KnownBytes.{Appends-nil, Appends-trans, Consumes-nil, Consumes-trans}
use Rattle.std.proofs.lemmas.List.{length-take, length-take-le}
use Rattle.std.proofs.Math.Seq.{take-append_seam}
use Rattle.tmm_drive.specs.Endings.{AnswersEnded, limit}
use Rattle.tmm_drive.specs.declared.tally.Tally.{Tally}
use Rattle.tmm_drive.specs.Reading.{ReadSoFar}
use Rattle.tmm_drive.proofs.Steps.{Stands-none, Consumes-none, Ends-all, BreaksOff-weaker, AnswersEnded-now, reads_on, reads_off}
use Rattle.tmm_drive.proofs.reading.drive.Goals as goal

pub reads-init : goal.reads-init
reads-init g c = record {
  room = omega (arith, c.requires.room);
  kept = omega (arith, ap length c.requires.empty);
  ready = c.requires.ready;
  number = c.requires.first ∙ ap (λ t. t.lines) (sym c.new-tally.ensures);
  few = omega (arith, ap (λ (t : Tally). t.lines) c.new-tally.ensures);
  within = omega arith;
  source_faults = refl;
  sink_faults = refl;
  stands = (
    [],
    [],
    Consumes-nil _,
    Appends-nil _,
    refl,
    subst (λ (l : List ℕ). ReadSoFar g.L.Lines.step (g.L.Lines.state c.args.lines.now) [] [] (g.L.Lines.state c.args.lines.now) l c.new-tally.result) (sym c.requires.empty)
        (subst (λ (t : Tally). ReadSoFar g.L.Lines.step (g.L.Lines.state c.args.lines.now) [] [] (g.L.Lines.state c.args.lines.now) [] t) (sym c.new-tally.ensures)
        (Stands-none g.L.Lines.step (g.L.Lines.state c.args.lines.now))),
  );
}

pub returns-in-Ok-finish-clause-ends : goal.returns-in-Ok-finish-clause-ends
returns-in-Ok-finish-clause-ends g c =
    let s = c.reads.invariant.stands in
    let done = c.in-Ok-finish.ensures.answers (g.L.Lines.state c.args.lines.now) s.0 s.1 s.5 in
    let within = c.reads.invariant.within in
    let end = c.in-Ok.ensures.end c.if-count-eq0.true in (
      s.0,
      s.1 ++ done.0,
      Consumes-none _ _ _ s.0 c.in-Ok.count c.read_piece.new.piece s.2 c.in-Ok.ensures.bytes c.if-count-eq0.true,
      Appends-trans _ _ _ s.1 done.0 s.3 done.1,
      Ends-all g.L.Lines.step (g.L.Lines.state c.args.lines.now) _ s.0 (s.1 ++ done.0) c.in-Ok-finish.status (omega (arith, s.4, within)) end done.2,
    )

pub returns-in-Err-clause-ends : goal.returns-in-Err-clause-ends
returns-in-Err-clause-ends g c =
    let s = c.reads.invariant.stands in
    let off = c.in-Err.ensures.answers (g.L.Lines.state c.args.lines.now) s.0 s.1 s.5 in
    let within = c.reads.invariant.within in
    let end = c.in-Ok.ensures.end c.if-count-eq0.true in (
      s.0,
      s.1 ++ off.0,
      Consumes-none _ _ _ s.0 c.in-Ok.count c.read_piece.new.piece s.2 c.in-Ok.ensures.bytes c.if-count-eq0.true,
      Appends-trans _ _ _ s.1 off.0 s.3 off.1,
      (omega (arith, s.4, within), BreaksOff-weaker g.L.Lines.step (g.L.Lines.state c.args.lines.now) _ _ (λ _. end) s.0 (s.1 ++ off.0) off.2),
    )

pub returns-then-taken-eq-LIMIT-clause-ends : goal.returns-then-taken-eq-LIMIT-clause-ends
returns-then-taken-eq-LIMIT-clause-ends g c =
    let s = c.reads.invariant.stands in
    let bytes = take c.in-Ok.count c.read_piece.new.piece in
    let full : length s.0 ≡ limit = s.4 ∙ c.if-taken-eq-LIMIT.true in
    let count = c.in-Ok.count in
    let within : count ≤ length c.read_piece.new.piece = c.in-Ok.ensures.bound.0 in
    let one : length bytes ≡ 1 = omega (arith, length-take count c.read_piece.new.piece, c.in-Ok.ensures.bound, c.if-count-eq0.false, c.if-taken-eq-LIMIT.true) in
    let front : s.0 ≡ take limit (s.0 ++ bytes) = sym (take-append_seam s.0 bytes) ∙ ap (λ n. take n (s.0 ++ bytes)) full in (
      s.0 ++ bytes,
      s.1,
      Consumes-trans _ _ _ s.0 bytes s.2 c.in-Ok.ensures.bytes,
      s.3,
      (
        omega (arith, length-append s.0 bytes, full, one),
        subst (λ (l : List ℕ). AnswersEnded g.L.Lines.step (g.L.Lines.state c.args.lines.now) l s.1) front
            (AnswersEnded-now g.L.Lines.step (g.L.Lines.state c.args.lines.now) s.0 s.1 _ _ _ s.5),
      ),
    )

pub reads-preserved : goal.reads-preserved
reads-preserved g c =
    let s = c.reads.invariant.stands in record {
      room = c.in-Ok-feed.ensures.room;
      kept = c.in-Ok-feed.ensures.kept;
      ready = c.in-Ok-feed.ensures.ready;
      number = c.in-Ok-feed.ensures.number;
      few = omega (arith, c.in-Ok-feed.ensures.few, c.reads.invariant.few, c.in-Ok.ensures.bound, length-take c.in-Ok.count c.read_piece.new.piece);
      within = omega (arith, c.in-Ok.ensures.bound, c.reads.invariant.within, c.if-taken-eq-LIMIT.false);
      source_faults = c.in-Ok.ensures.cause.stays ∙ c.reads.invariant.source_faults;
      sink_faults = c.in-Ok-feed.ensures.cause.stays ∙ c.reads.invariant.sink_faults;
      stands = reads_on g.L.Lines.step (g.L.Lines.state c.args.lines.now) _ _ _ _ _ _ s.0 s.1 (take c.in-Ok.count c.read_piece.new.piece) _ _ _ _ c.reads.taken c.in-Ok.count
          s.2 c.in-Ok.ensures.bytes refl s.3 (c.in-Ok-feed.ensures.answers (g.L.Lines.state c.args.lines.now) s.0 s.1 s.5) s.4 (length-take-le c.in-Ok.count c.read_piece.new.piece c.in-Ok.ensures.bound.0);
    }

pub returns-in_default-feed-clause-ends : goal.returns-in_default-feed-clause-ends
returns-in_default-feed-clause-ends g c =
    let s = c.reads.invariant.stands in
    reads_off g.L.Lines.step (g.L.Lines.state c.args.lines.now) _ _ _ _ _ _ _ s.0 s.1 (take c.in-Ok.count c.read_piece.new.piece) _ c.reads.taken c.in-Ok.count
    s.2 c.in-Ok.ensures.bytes refl s.3 (c.in_default-feed.ensures.answers (g.L.Lines.state c.args.lines.now) s.0 s.1 s.5) s.4 (length-take-le c.in-Ok.count c.read_piece.new.piece c.in-Ok.ensures.bound.0)
    (omega (arith, c.in-Ok.ensures.bound, c.reads.invariant.within, c.if-taken-eq-LIMIT.false))
