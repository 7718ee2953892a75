use Rattle.std.proofs.Common.{map}
use Rattle.tmm_script.specs.Printed.{field_word}
use Rattle.tmm_script.proofs.Printing.{Wrote}
use Rattle.tmm_script.proofs.print.put_fields.Given as goal

abbrev pub invariant-loop-field : goal.invariant-loop-field
invariant-loop-field l = Wrote l.fn.out.items l.out.items (map field_word l.fields) l.field-index
