use Rattle.std.proofs.Common.{◌++◌, sym, subst, []}
use Rattle.std.specs.List.{flat_map}
use Rattle.tmm_model.specs.Answers.{finding_of}
use Rattle.repairs.specs.Aims.{GrowsBy}
use Rattle.repairs.specs.Repairs.{AreThose, IsRepair, added_for, taken_from}
use Rattle.repairs.proofs.Growing.{Grows, Grows-append, Grows-from_nothing}
use Rattle.repairs.proofs.Taking.{candidates_broken}
use Rattle.repairs.proofs.candidates.try_candidates.Goals as goal

pub returns-clause-repairs : goal.returns-clause-repairs
returns-clause-repairs g c =
    let s = g.M.MapCore.list c.args.core.now in
    let P = IsRepair s c.args.aim.now.name in
    let found = finding_of c.args.answer.now in
    let added = added_for c.args.extent.now.from c.args.extent.now.to found in
    let taken = flat_map taken_from s.premises in
    let first : Grows P added [] c.try_all_added.new.fixes.items = subst (λ old. Grows P added old c.try_all_added.new.fixes.items) c.make-fixes.ensures c.in_ok-try_all_added.ensures.fixes in
    let second : Grows P taken c.try_all_added.new.fixes.items c.try_all_taken.new.fixes.items =
    subst (λ l. GrowsBy l c.args.aim.now (flat_map taken_from l.premises) c.try_all_added.new.fixes.items c.try_all_taken.new.fixes.items) c.in_ok-try_all_added.ensures.list c.in_ok-try_all_taken.ensures.fixes in
    subst (λ tried. AreThose P tried c.try_all_taken.new.fixes.items) (sym (candidates_broken s c.args.extent.now.from c.args.extent.now.to found c.requires.broken))
    (Grows-from_nothing P (added ++ taken) c.try_all_taken.new.fixes.items (Grows-append P added taken [] c.try_all_added.new.fixes.items c.try_all_taken.new.fixes.items first second))
