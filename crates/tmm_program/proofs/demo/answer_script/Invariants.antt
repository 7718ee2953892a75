use Rattle.std.proofs.Common.{◌≡◌, ◌≤◌, ◌-◌, length, take, None}
use Rattle.tmm_model.specs.Generator.{script_of}
use Rattle.tmm_program.proofs.Counted.{HasRun}
use Rattle.tmm_program.proofs.demo.answer_script.Given as goal

abbrev pub invariant-lines : goal.invariant-lines
invariant-lines g l = record {
  number : l.session.lines ≡ l.i;
  idle : g.M.MapCore.pending l.session.core ≡ None;
  within : l.i ≤ length (script_of l.n);
  told : HasRun (g.M.MapCore.list l.initial.session.core) (take l.i (script_of l.n)) l.counts (g.M.MapCore.list l.session.core);
}

abbrev pub decreases-lines : goal.decreases-lines
decreases-lines g l = length (script_of l.n) - l.i
