use Rattle.std.proofs.Common.{subst, arith}
use Rattle.std.proofs.lemmas.List.{take_all}
use Rattle.timeline.specs.Entries.{IsEntryOf, AddsEntries}
use Rattle.timeline.specs.Until.{until_later}
use Rattle.timeline.proofs.Adding.{adds_none, adds_more}
use Rattle.timeline.proofs.listing.add_later.Goals as goal

pub loop-row-init : goal.loop-row-init
loop-row-init c = adds_none (until_later c.args.standing.now.present c.args.rows.now) c.args.entries.now.items

pub loop-row-preserved : goal.loop-row-preserved
loop-row-preserved c =
    adds_more (until_later c.args.standing.now.present c.args.rows.now) c.args.rows.now c.loop-row.row-index c.row-item.result c.in_ok-entry_of.field-0 c.args.entries.now.items c.loop-row.entries.items c.push.new.self.items
    c.loop-row-test.true c.row-item.is c.loop-row.invariant (subst (λ u. IsEntryOf c.row-item.result u c.in_ok-entry_of.field-0) c.until_among-until.ensures c.in_ok-entry_of.ensures) c.in_ok-push.ensures.items

pub returns : goal.returns
returns c = subst (λ rows. AddsEntries rows (until_later c.args.standing.now.present c.args.rows.now) c.args.entries.now.items c.loop-row.entries.items) (take_all c.loop-row.row-index c.args.rows.now (omega arith)) c.loop-row.invariant
