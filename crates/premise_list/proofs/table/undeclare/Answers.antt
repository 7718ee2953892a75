use Rattle.std.proofs.Common.{◌+◌, ◌≤◌, map, length, ap, ◌∙◌, arith}
use Rattle.premise_list.specs.Table.{entry_seen}
use Rattle.premise_list.proofs.Moves.{lowered, lowered_seam}
use Rattle.premise_list.proofs.table.undeclare.Goals as goal

pub returns-clause-entries : goal.returns-clause-entries
returns-clause-entries c =
    c.move_down.ensures.entries
    ∙ ap (λ es. lowered c.args.first (map entry_seen es)) c.remove_names.ensures.entries
    ∙ lowered_seam entry_seen c.args.first (c.args.first + c.args.count) c.args.words.now.entries (let within : c.args.first + c.args.count ≤ length c.args.words.now.entries = c.requires.within in omega arith)
