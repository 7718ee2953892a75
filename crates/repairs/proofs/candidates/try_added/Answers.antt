use Rattle.std.proofs.Common.{◌≡◌, sym, ◌∙◌, subst, refl, [], ◌∷◌}
use Rattle.std.specs.Prelude.{None, OnOk}
use Rattle.std.proofs.lemmas.Bool.{false≢true}
use Rattle.tmm_model.specs.declared.bound.Bound.TheVariants.{Finite, Free}
use Rattle.tmm_model.specs.declared.fix.Fix.{Fix}
use Rattle.tmm_model.specs.declared.fix.Fix.TheVariants.{Add as AddConstraint}
use Rattle.tmm_model.specs.declared.premise.Edit.{Edit}
use Rattle.tmm_model.specs.declared.premise.Edit.TheVariants.{Add}
use Rattle.tmm_model.specs.declared.premise.Premise.TheVariants.{Dist}
use Rattle.tmm_model.specs.Lines.{IsWellFormedEdit}
use Rattle.tmm_model.specs.Standing.{Standing}
use Rattle.tmm_model.specs.Verdicts.{list_cause}
use Rattle.repairs.specs.Aims.{GrowsBy}
use Rattle.repairs.specs.Repairs.{IsRepair}
use Rattle.repairs.proofs.Formed.{formed_added}
use Rattle.repairs.proofs.Growing.{Grows-fails}
use Rattle.repairs.proofs.Mending.{one_by_repair}
use Rattle.repairs.proofs.candidates.try_added.Goals as goal

pub try_edit-requires-clause-well_formed : goal.try_edit-requires-clause-well_formed
try_edit-requires-clause-well_formed g c =
    let none : list_cause c.standing.result.now.present c.edit-edit.result ≡ None = c.is_let_through.ensures.0 c.if-is_let_through.true in
    let clear : list_cause (g.M.MapCore.list c.args.core.now) (Add (Dist c.args.aim.now.free c.args.spacing.now.from c.args.spacing.now.to (Finite c.args.spacing.now.lo) Free)) ≡ None =
    subst (λ (e : Edit). list_cause (g.M.MapCore.list c.args.core.now) e ≡ None) c.edit-edit.ensures (subst (λ (s : Standing). list_cause s c.edit-edit.result ≡ None) c.standing.ensures none) in
    subst IsWellFormedEdit (sym c.edit-edit.ensures)
    (formed_added (g.M.MapCore.list c.args.core.now) c.requires.aim.well_formed c.requires.aim.well_named c.args.aim.now.free c.args.spacing.now.from c.args.spacing.now.to c.args.spacing.now.lo c.requires.aim.named c.requires.lo clear)

pub returns-then-is_let_through-clause-fixes : goal.returns-then-is_let_through-clause-fixes
returns-then-is_let_through-clause-fixes g c =
    subst (λ (f : Fix). OnOk c.try_edit.result (GrowsBy (g.M.MapCore.list c.args.core.now) c.args.aim.now (f ∷ []) c.args.fixes.now.items c.try_edit.new.fixes.items)) c.fix.ensures c.try_edit.ensures.fixes

pub returns-else-is_let_through-clause-fixes : goal.returns-else-is_let_through-clause-fixes
returns-else-is_let_through-clause-fixes g c =
    let s = g.M.MapCore.list c.args.core.now in
    let fix = AddConstraint c.args.spacing.now.from c.args.spacing.now.to c.args.spacing.now.lo in
    let edit = Add (Dist c.args.aim.now.free c.args.spacing.now.from c.args.spacing.now.to (Finite c.args.spacing.now.lo) Free) in
    Grows-fails (IsRepair s c.args.aim.now.name) fix c.args.fixes.now.items (λ repair.
    let none : list_cause s edit ≡ None = (one_by_repair s c.args.aim.now c.requires.aim fix edit refl repair).accepted.no_cause in
    let here : list_cause c.standing.result.now.present c.edit-edit.result ≡ None =
    subst (λ (l : Standing). list_cause l c.edit-edit.result ≡ None) (sym c.standing.ensures) (subst (λ (e : Edit). list_cause s e ≡ None) (sym c.edit-edit.ensures) none) in
    false≢true (sym c.if-is_let_through.false ∙ c.is_let_through.ensures.1 here))
