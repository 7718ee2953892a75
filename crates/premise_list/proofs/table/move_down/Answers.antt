use Rattle.std.proofs.Common.{◌≡◌, ap, sym, ◌∙◌, map, arith}
use Rattle.std.specs.Prelude.{Some, None, slice_get}
use Rattle.std.specs.Map.{values_of}
use Rattle.std.specs.Option.{option_copied_mut}
use Rattle.premise_list.specs.Table.{entry_seen}
use Rattle.premise_list.proofs.Moves.{one_lowered, value_lowered, none_lowered, next_lowered}
use Rattle.premise_list.proofs.table.move_down.Goals as goal
use Rattle.premise_list.proofs.table.move_down.Goals.{in-Some, in_default}

pub loop-i-preserved : goal.loop-i-preserved
loop-i-preserved c =
    let first = c.args.first in
    let i = c.loop-i.i in
    let old = map entry_seen c.args.words.now.entries in
    let next = ap (one_lowered i) c.loop-i.invariant.entries ∙ next_lowered first i old (omega arith) in
    elim c.match-get_index_mut.branch [
      | in-Some w ↦
          let there : slice_get (values_of c.loop-i.words.entries) i ≡ Some w.in-Some.word.now = sym c.get_index_mut.ensures.value ∙ ap option_copied_mut w.in-Some.is in
          record {
            entries = ap (λ m. map entry_seen m.entries) w.words-is ∙ value_lowered i c.loop-i.words.entries w.in-Some.word.now w.saturating_sub-word.result there w.saturating_sub-word.ensures ∙ next;
            room = rw w.words-is c.loop-i.invariant.room;
          }
      | in_default w ↦
          let there : slice_get (values_of c.loop-i.words.entries) i ≡ None = sym c.get_index_mut.ensures.value ∙ ap option_copied_mut w.in_default.is in
          record {
            entries = ap (λ m. map entry_seen m.entries) w.words-is ∙ sym (none_lowered i c.loop-i.words.entries there) ∙ next;
            room = rw w.words-is c.loop-i.invariant.room;
          }
    ]
