use Rattle.bearing.specs.Touching.{LeadsFrom, IsLedToFrom}
use Rattle.bearing.proofs.Sets.{puts_one_and}
use Rattle.bearing.proofs.events_touched.put_behind_by.Goals as goal

pub returns : goal.returns
returns c =
    puts_one_and (IsLedToFrom c.args.pairs.now c.args.set.now) (LeadsFrom c.args.pairs.now c.args.set.now c.args.m) c.args.m c.is_led_to_from.result c.args.into.now.items c.put_if.new.set.items c.put_behind_one.new.into.items
    c.is_led_to_from.ensures c.put_if.ensures c.put_behind_one.ensures
