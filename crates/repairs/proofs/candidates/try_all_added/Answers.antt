use Rattle.std.proofs.Common.{sym, subst}
use Rattle.std.specs.Prelude.{OnOk}
use Rattle.tmm_model.specs.Answers.{finding_of}
use Rattle.repairs.specs.Aims.{GrowsBy}
use Rattle.repairs.specs.Repairs.{added_for}
use Rattle.repairs.proofs.candidates.try_all_added.Goals as goal

pub returns-in-Unordered-clause-fixes : goal.returns-in-Unordered-clause-fixes
returns-in-Unordered-clause-fixes g c =
    subst
    (λ a. OnOk c.try_added.result (GrowsBy (g.M.MapCore.list c.args.core.now) c.args.aim.now (added_for c.args.extent.now.from c.args.extent.now.to (finding_of a)) c.args.fixes.now.items c.try_added.new.fixes.items))
    (sym c.in-Unordered.is) c.try_added.ensures.fixes
