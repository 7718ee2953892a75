use Rattle.std.proofs.Common.{◌<◌, length, Some, w64, to_z, of_z, sym, subst}
use Rattle.std.specs.Prelude.{slice_set}
use Rattle.belief_table.specs.Waiting.{dates_in}
use Rattle.belief_table.proofs.Queued.{queued_more, dates_set}
use Rattle.belief_table.proofs.waiting.Waiting.enter.Goals as goal

pub invariant_of-self-2 : goal.invariant_of-self-2
invariant_of-self-2 c =
    let within : c.args.row < length c.self.inside.dates.items = subst (λ dates. c.args.row < length dates) (sym c.self.view_is) c.in_ok-reach.ensures.within in
    queued_more (dates_in c.self.inside.dates.items) (dates_in (slice_set c.self.inside.dates.items c.args.row (Some (to_z w64 (of_z w64 c.args.date))))) c.self.inside.queue c.push.new.self
    (record { early = record { 0 = to_z w64 (of_z w64 c.args.date) }; row = c.args.row }) c.self.invariant c.in_ok-push.ensures.ok
    (dates_set c.self.inside.dates.items c.args.row (Some (to_z w64 (of_z w64 c.args.date))) within)
