use Rattle.bearing.specs.Touching.{LeadsTo, LeadsInto}
use Rattle.bearing.proofs.Sets.{puts_one_and}
use Rattle.bearing.proofs.events_touched.put_before_by.Goals as goal

pub returns : goal.returns
returns c =
    puts_one_and (LeadsInto c.args.pairs.now c.args.set.now) (LeadsTo c.args.pairs.now c.args.set.now c.args.m) c.args.m c.leads_into.result c.args.into.now.items c.put_if.new.set.items c.put_before_one.new.into.items
    c.leads_into.ensures c.put_if.ensures c.put_before_one.ensures
