use Rattle.std.proofs.Common.{◌<◌, length, rules, ◌∙◌}
use Rattle.undo_lists.proofs.Written.{HaveGrown-copied}
use Rattle.undo_lists.proofs.steps.copy_all.Goals as goal

pub loop-list-preserved : goal.loop-list-preserved
loop-list-preserved g c =
    let within : c.loop-list.list-index < length c.args.lists.now = search rules in
    let copy = c.in_ok-copy.field-0 in
    record {
      room = c.push_reserved.ensures.capacity ∙ c.loop-list.invariant.room;
      long = search rules;
      grown = HaveGrown-copied c.args.lists.now c.loop-list.copies.items c.push_reserved.new.self.items c.loop-list.list-index c.list-item.result copy within c.list-item.is c.loop-list.invariant.long c.loop-list.invariant.grown c.in_ok-copy.ensures.items c.in_ok-copy.ensures.room c.push_reserved.ensures.items;
    }
