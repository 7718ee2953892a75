use Rattle.joined.proofs.Marking.{marked_row}
use Rattle.joined.proofs.laws.class_marks_mark.Goals as goal

pub returns : goal.returns
returns c = marked_row
