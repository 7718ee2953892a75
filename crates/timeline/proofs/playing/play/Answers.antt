use Rattle.std.proofs.Common.{sym, ap, subst, map, add-one}
use Rattle.tmm_model.specs.Maps.{built}
use Rattle.list_theory.proofs.Elements.{In}
use Rattle.timeline.specs.Calendars.{IsBefore, AreHeldBefore}
use Rattle.timeline.specs.Rows.{held_of}
use Rattle.timeline.proofs.DayByDay.{first_day-is}
use Rattle.timeline.proofs.playing.play.Goals as goal

pub loop-day-init : goal.loop-day-init
loop-day-init c =
    let m = built c.args.standing.now.present in
    record {
      before = c.requires.before;
      holding = record {
        into = λ h at. absurd (subst (In h) c.new-holding.ensures.items at);
        back = λ h at. absurd (subst (In h) (ap (map (held_of m)) (first_day-is m)) at);
      };
    }

pub loop-day-preserved : goal.loop-day-preserved
loop-day-preserved c =
    let m = built c.args.standing.now.present in
    record {
      before = subst (λ n. IsBefore m n c.play_day.new.calendar) (sym (add-one c.loop-day.day)) c.in_ok-holding.ensures.ok;
      holding = subst (λ n. AreHeldBefore m n c.in_ok-holding.holding.items) (sym (add-one c.loop-day.day)) c.in_ok-holding.ensures.holding;
    }
