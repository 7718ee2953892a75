use Rattle.std.proofs.Common.{ℕ, List, subst}
use Rattle.tmm_model.specs.Standing.{Standing, empty_list}
use Rattle.tmm_drive.specs.declared.status.Status.{Status}
use Rattle.tmm_drive.specs.declared.status.Status.TheVariants.{Clean, SomeRefused, Words, ReadFault, WriteFault, NoMemory, TooLong, SomeMemory}
use Rattle.tmm_program.specs.Demo.{DemoEnds}
use Rattle.tmm_program.specs.Program.{SummaryEnds}
use Rattle.tmm_program.proofs.run.run_demo.Goals as goal

-- what the lines leave is what the words leave
summary_ends : (n : ℕ) (output : List ℕ) (status : Status) → DemoEnds empty_list n output status → SummaryEnds n output status
summary_ends n output Clean ends = ends
summary_ends n output SomeRefused ends = ends
summary_ends n output SomeMemory ends = ends
summary_ends n output WriteFault ends = ends
summary_ends n output ReadFault ends = absurd ends
summary_ends n output TooLong ends = absurd ends
summary_ends n output Words ends = absurd ends
summary_ends n output NoMemory ends = absurd ends

pub returns-clause-ends : goal.returns-clause-ends
returns-clause-ends g c =
    let ends = c.demo.ensures.ends in (
      ends.0,
      ends.1,
      summary_ends c.args.n ends.0 c.demo.result
          (subst (λ (start : Standing). DemoEnds start c.args.n ends.0 c.demo.result) c.in-Ok.ensures.first ends.2),
    )
