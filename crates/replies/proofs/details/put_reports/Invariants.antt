use Rattle.std.proofs.Common.{◌≡◌, ◌++◌, drop}
use Rattle.std.specs.List.{flat_map}
use Rattle.tmm_model.specs.Replies.{report_lines}
use Rattle.replies.proofs.details.put_reports.Given as goal

abbrev pub invariant-loop-report : goal.invariant-loop-report
invariant-loop-report l = l.out.items ++ flat_map report_lines (drop l.report-index l.reports) ≡ l.fn.out.items ++ flat_map report_lines l.reports
