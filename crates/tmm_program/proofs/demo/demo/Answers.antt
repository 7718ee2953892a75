use Rattle.std.proofs.Common.{◌≡◌, ◌∙◌, take, nat_lt, if◌then◌else◌, refl}
use Rattle.tmm_drive.specs.declared.status.Status.TheVariants.{Clean, SomeRefused, SomeMemory}
use Rattle.tmm_program.proofs.Counted.{demo_ends}
use Rattle.tmm_program.proofs.demo.demo.Goals as goal

pub returns-in-Ok-clause-ends : goal.returns-in-Ok-clause-ends
returns-in-Ok-clause-ends g c =
    let ran = c.answer_script-counts.ensures in
    let line : c.as_slice.result.now ≡ _ = c.as_slice.ensures.value ∙ c.summary.ensures in
    (c.as_slice.result.now, c.in-Ok.ensures.bytes, (demo_ends _ c.args.n ran.0 ran.1 ran.2 c.answer_script-counts.result c.as_slice.result.now c.status.result ran.3 ran.4 line c.status.ensures).1)

pub returns-in-Err-clause-ends : goal.returns-in-Err-clause-ends
returns-in-Err-clause-ends g c =
    let ran = c.answer_script-counts.ensures in
    let line : c.as_slice.result.now ≡ _ = c.as_slice.ensures.value ∙ c.summary.ensures in
    let counts = c.answer_script-counts.result in
    let status = if nat_lt 0 counts.memory then SomeMemory else (if nat_lt 0 counts.refused then SomeRefused else Clean) in
    let part = c.in-Err.ensures.bytes in
    (take part.0 c.as_slice.result.now, part.1, (c.as_slice.result.now, status, part.0, (demo_ends _ c.args.n ran.0 ran.1 ran.2 counts c.as_slice.result.now status ran.3 ran.4 line refl).0, refl))
