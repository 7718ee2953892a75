use Rattle.std.proofs.Common.{◌≡◌, ◌<◌, ◌∙◌, length, sym, ap, arith}
use Rattle.std.specs.Prelude.{slice_get, Some, None}
use Rattle.std.specs.Option.{option_copied}
use Rattle.repairs.proofs.FreeNames.{counted}
use Rattle.repairs.proofs.Growing.{one_got}
use Rattle.repairs.proofs.free_names.word_count.Goals as goal
use Rattle.repairs.proofs.free_names.word_count.Goals.{in-Some, in_default}

pub loop-place-preserved : goal.loop-place-preserved
loop-place-preserved c =
    let ps = c.args.standing.now.present.premises in
    let within : c.loop-place.place < length ps = omega (arith, c.loop-place-test.true, c.len-place-end.ensures.value) in
    elim c.match-at.branch [
      | in-Some w ↦
          let got : slice_get ps c.loop-place.place ≡ Some w.in-Some.premise.now = sym c.at.ensures ∙ ap option_copied w.in-Some.is in
          let more = counted ps c.loop-place.place w.in-Some.premise.now within got in
          record {
            small = omega (arith, c.loop-place.invariant.small, w.count-is, w.declared_count-count.ensures.few);
            exact = omega (arith, c.loop-place.invariant.exact, w.count-is, w.declared_count-count.ensures.value, more);
          }
      | in_default w ↦
          let (p, got, one) = one_got ps c.loop-place.place within in
          absurd (let never : None ≡ Some p = sym (ap option_copied w.in_default.is) ∙ c.at.ensures ∙ got in cc)
    ]
