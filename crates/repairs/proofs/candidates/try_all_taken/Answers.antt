use Rattle.std.proofs.Common.{◌≡◌, ◌<◌, ◌∙◌, ◌+◌, ap, subst, take, length, arith}
use Rattle.std.specs.Prelude.{slice_get, Some}
use Rattle.tmm_model.specs.declared.premise.Premise.{Premise}
use Rattle.repairs.specs.Aims.{GrowsBy}
use Rattle.repairs.specs.Repairs.{IsRepair, taken_from}
use Rattle.repairs.proofs.Growing.{Grows-step, one_got}
use Rattle.repairs.proofs.candidates.try_all_taken.Goals as goal

pub loop-place-preserved : goal.loop-place-preserved
loop-place-preserved g c =
    let s = g.M.MapCore.list c.args.core.now in
    let count : c.len-place-end.result ≡ length s.premises = c.len-place-end.ensures.value ∙ ap (λ l. length l.premises) c.standing.ensures in
    let within : c.loop-place.place < length s.premises = omega (arith, count, c.loop-place-test.true) in
    let (premise, got, one) = one_got s.premises c.loop-place.place within in
    let more : GrowsBy s c.args.aim.now (taken_from premise) c.loop-place.fixes.items c.try_taken_at.new.fixes.items =
    subst
    (λ l. (p : Premise) → slice_get l.premises c.loop-place.place ≡ Some p → GrowsBy l c.args.aim.now (taken_from p) c.loop-place.fixes.items c.try_taken_at.new.fixes.items)
    c.loop-place.invariant.0 c.in_ok-try_taken_at.ensures.fixes premise got in (
      c.in_ok-try_taken_at.ensures.list ∙ c.loop-place.invariant.0,
      c.in_ok-try_taken_at.ensures.idle,
      Grows-step (IsRepair s c.args.aim.now.name) taken_from (take c.loop-place.place s.premises) (take (c.loop-place.place + 1) s.premises) premise c.args.fixes.now.items c.loop-place.fixes.items
          c.try_taken_at.new.fixes.items one c.loop-place.invariant.2 more,
    )
