use Rattle.std.proofs.Common.{◌≡◌, ◌≢◌, sym, subst, [], List}
use Rattle.std.specs.Prelude.{OnOk}
use Rattle.tmm_model.specs.declared.fix.Fix.{Fix}
use Rattle.repairs.specs.Aims.{GrowsBy}
use Rattle.repairs.specs.Repairs.{IsRepair}
use Rattle.repairs.proofs.Blames.{none_for_derived, one_for_late, one_for_ends, is_nil, not_nil}
use Rattle.repairs.proofs.Growing.{Grows, Grows-none}
use Rattle.repairs.proofs.candidates.try_blame.Goals as goal

pub returns-then-not-is_empty-clause-fixes : goal.returns-then-not-is_empty-clause-fixes
returns-then-not-is_empty-clause-fixes g c =
    let some : c.args.blame.now.token.rules.items ≢ [] =
    not_nil c.items.result.now c.args.blame.now.token.rules.items c.is_empty.result c.is_empty.ensures c.items.ensures c.if-not-is_empty.true in
    let P = IsRepair (g.M.MapCore.list c.args.core.now) c.args.aim.now.name in
    subst (λ (tried : List Fix). Grows P tried c.args.fixes.now.items c.args.fixes.now.items) (sym (none_for_derived c.args.extent.now.from c.args.extent.now.to c.args.blame.now some))
    (Grows-none P c.args.fixes.now.items)

pub returns-in-Late-clause-fixes : goal.returns-in-Late-clause-fixes
returns-in-Late-clause-fixes g c =
    let root : c.args.blame.now.token.rules.items ≡ [] =
    is_nil c.items.result.now c.args.blame.now.token.rules.items c.is_empty.result c.is_empty.ensures c.items.ensures c.if-not-is_empty.false in
    subst (λ (tried : List Fix). OnOk c.try_added.result (GrowsBy (g.M.MapCore.list c.args.core.now) c.args.aim.now tried c.args.fixes.now.items c.try_added.new.fixes.items))
    (sym (one_for_late c.args.extent.now.from c.args.extent.now.to c.args.blame.now root c.in-Late.is)) c.try_added.ensures.fixes

pub returns-in-Ends-clause-fixes : goal.returns-in-Ends-clause-fixes
returns-in-Ends-clause-fixes g c =
    let root : c.args.blame.now.token.rules.items ≡ [] =
    is_nil c.items.result.now c.args.blame.now.token.rules.items c.is_empty.result c.is_empty.ensures c.items.ensures c.if-not-is_empty.false in
    subst (λ (tried : List Fix). OnOk c.try_added-in-Ends.result (GrowsBy (g.M.MapCore.list c.args.core.now) c.args.aim.now tried c.args.fixes.now.items c.try_added-in-Ends.new.fixes.items))
    (sym (one_for_ends c.args.extent.now.from c.args.extent.now.to c.args.blame.now root c.in-Ends.is)) c.try_added-in-Ends.ensures.fixes
