use Rattle.std.proofs.Common.{◌≡◌, ◌∙◌, ◌+◌, ◌-◌, drop, ap, sym, arith}
use Rattle.std.specs.Prelude.{Some, slice_get}
use Rattle.protections.specs.Found.{with_report}
use Rattle.protections.proofs.Copying.{found_among, next_found}
use Rattle.protections.proofs.broken_protections.BrokenProtections.copy.Goals as goal

pub loop-i-preserved-in-Some : goal.loop-i-preserved-in-Some
loop-i-preserved-in-Some c =
    let entries = c.args.self.now.reports.entries in
    let i = c.loop-i.i in
    let name = c.in-Some.name.now in
    let report = c.in-Some.report.now in
    let at : slice_get entries (i - 1) ≡ Some (name, report) = sym c.in-Some.ensures.entry in
    let before : i ≡ (i - 1) + 1 = omega (arith, c.loop-i-test.true) in
    record {
      found =
          c.put.ensures.found
          ∙ (λ j. with_report ((c.loop-i.invariant.found ∙ ap (λ n. found_among (drop n entries)) before) j) name (Some (c.in_ok-copy.ensures j)))
          ∙ next_found entries (i - 1) name report at;
      room = omega (arith, c.loop-i.invariant.room, c.put.ensures.room, c.loop-i-test.true);
    }

pub returns : goal.returns
returns c =
    let none_left : c.loop-i.i ≡ 0 = omega (arith, c.loop-i-test.false) in
    c.loop-i.invariant.found ∙ ap (λ n. found_among (drop n c.args.self.now.reports.entries)) none_left
