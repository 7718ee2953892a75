use Rattle.std.proofs.Common.{◌≡◌, ◌≤◌, ◌+◌, ◌++◌, List, ℕ, length}
use Rattle.tmm_drive.specs.Reading.{ReadSoFar, GoesOn}
use Rattle.tmm_drive.proofs.reading.feed.Given as goal

abbrev pub invariant-lines : goal.invariant-lines
invariant-lines g l = record {
  room : 401 ≤ l.buffer.room + length l.buffer.items;
  kept : length l.buffer.items ≤ 401;
  ready : g.L.Lines.ready l.lines;
  number : g.L.Lines.number l.lines ≡ l.tally.lines;
  few : l.tally.lines + length l.rest ≤ l.initial.tally.lines + length l.piece;
  faults : g.K.Sink.faults l.sink ≡ g.K.Sink.faults l.initial.sink;
  answers : (done : List ℕ) × (done ++ l.rest ≡ l.piece)
      × ((start : g.L.Lines.State) (taken output : List ℕ)
      → ReadSoFar g.L.Lines.step start taken output (g.L.Lines.state l.initial.lines) l.initial.buffer.items l.initial.tally
      → GoesOn g.L.Lines.step start (taken ++ done) output (g.K.Sink.written l.initial.sink) (g.K.Sink.written l.sink) (g.L.Lines.state l.lines) l.buffer.items l.tally);
}

abbrev pub decreases-lines : goal.decreases-lines
decreases-lines g l = length l.rest
