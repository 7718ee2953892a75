use Rattle.std.proofs.Common.{◌∙◌, ap, arith, length, ◌∷◌, []}
use Rattle.std.proofs.lemmas.List.{length-append}
use Rattle.timeline.specs.Calendars.{rows_on}
use Rattle.timeline.proofs.Calendars.{rows_on-push}
use Rattle.timeline.proofs.calendar.empty_days.Goals as goal

pub loop-init : goal.loop-init
loop-init c = record {
  days = ap length c.new-days.ensures.items;
  empty = λ i. ap (λ ds. rows_on ds i) c.new-days.ensures.items;
}

pub loop-preserved : goal.loop-preserved
loop-preserved c = record {
  days = ap length c.in_ok-push.ensures.items ∙ length-append c.loop.days.items (c.new.result ∷ []) ∙ omega (arith, c.loop.invariant.days);
  empty = λ i. ap (λ ds. rows_on ds i) c.in_ok-push.ensures.items ∙ rows_on-push c.loop.days.items c.new.result c.new.ensures.items c.loop.invariant.empty i;
}
