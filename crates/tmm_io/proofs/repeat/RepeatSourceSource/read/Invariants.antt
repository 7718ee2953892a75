use Rattle.std.proofs.Common.{◌≡◌, ℕ, ◌+◌, ◌<◌, ◌%◌, length, get_or}
use Rattle.tmm_io.proofs.repeat.RepeatSourceSource.read.Given as goal

abbrev pub invariant-loop-place : goal.invariant-loop-place
invariant-loop-place l = record {
  count : l.count ≡ l.place-index;
  line : l.self-inside.line ≡ l.initial.self-inside.line;
  within : l.self-inside.at < length l.self-inside.line.items;
  left : l.self-inside.left + l.count ≡ l.initial.self-inside.left;
  at : l.self-inside.at ≡ (l.initial.self-inside.at + l.count) % length l.self-inside.line.items;
  repeated : (k : ℕ) → k < l.count → get_or l.buf k 0 ≡ get_or l.self-inside.line.items ((l.initial.self-inside.at + k) % length l.self-inside.line.items) 0;
}
