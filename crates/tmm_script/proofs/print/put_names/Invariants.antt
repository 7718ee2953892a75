use Rattle.tmm_script.proofs.Printing.{Wrote}
use Rattle.tmm_script.proofs.print.put_names.Given as goal

abbrev pub invariant-loop-name : goal.invariant-loop-name
invariant-loop-name l = Wrote l.fn.out.items l.out.items l.names l.name-index
