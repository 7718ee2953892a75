use Rattle.std.proofs.Common.{◌≡◌, ◌≤◌, ◌+◌, ◌-◌, ◌^◌, List, ℕ, length}
use Rattle.std.specs.Io.KnownBytes.{Appends, Consumes}
use Rattle.tmm_drive.specs.Reading.{ReadSoFar}
use Rattle.tmm_drive.proofs.reading.drive.Given as goal

abbrev pub invariant-reads : goal.invariant-reads
invariant-reads g l = record {
  room : 401 ≤ l.buffer.room + length l.buffer.items;
  kept : length l.buffer.items ≤ 401;
  ready : g.L.Lines.ready l.lines;
  number : g.L.Lines.number l.lines ≡ l.tally.lines;
  few : l.tally.lines ≤ l.taken;
  within : l.taken ≤ 2 ^ 30;
  source_faults : g.S.Source.faults l.source ≡ g.S.Source.faults l.initial.source;
  sink_faults : g.K.Sink.faults l.sink ≡ g.K.Sink.faults l.initial.sink;
  stands : (taken output : List ℕ)
      × Consumes (g.S.Source.left l.initial.source) (g.S.Source.left l.source) taken
      × Appends (g.K.Sink.written l.initial.sink) (g.K.Sink.written l.sink) output
      × (length taken ≡ l.taken)
      × ReadSoFar g.L.Lines.step (g.L.Lines.state l.initial.lines) taken output (g.L.Lines.state l.lines) l.buffer.items l.tally;
}

abbrev pub decreases-reads : goal.decreases-reads
decreases-reads g l = 2 ^ 30 - l.taken
