use Rattle.tmm_model.specs.Maps.{built}
use Rattle.timeline.specs.Calendars.{IsBefore, AreHeldBefore}
use Rattle.timeline.proofs.playing.play.Given as goal

abbrev pub invariant-loop-day : goal.invariant-loop-day
invariant-loop-day l = record {
  before : IsBefore (built l.standing.present) l.day l.calendar;
  holding : AreHeldBefore (built l.standing.present) l.day l.holding.items;
}
