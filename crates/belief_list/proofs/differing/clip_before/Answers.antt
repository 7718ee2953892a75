use Rattle.std.proofs.Common.{sym, ap}
use Rattle.std.specs.Option.{option_and_then}
use Rattle.occ_tree.specs.Places.{forest}
use Rattle.belief_list.specs.declared.kept_rows.KeptRow.{KeptRow}
use Rattle.belief_list.proofs.Finding.{event_clip, token_clip}
use Rattle.belief_list.proofs.differing.clip_before.Goals as goal

pub returns-then-is_none : goal.returns-then-is_none
returns-then-is_none c = λ s net classes m here other.
    event_clip s net (forest c.args.tree.now) classes c.args.was.now c.args.x c.row.result.class m.class (c.row.ensures m here).class c.if-is_none.ensures

pub returns-in-Some : goal.returns-in-Some
returns-in-Some c = λ s net classes m here other.
    token_clip s net (forest c.args.tree.now) classes c.args.was.now c.args.x c.row.result.class m.class (c.row.ensures m here).class c.if-is_none.ensures other _
    (sym (ap (option_and_then (λ (r : KeptRow). r.clip)) c.in-Some.is))
