use Rattle.std.proofs.Common.{[], ◌∷◌, subst, refl}
use Rattle.std.specs.Prelude.{MatchOption, OnOk}
use Rattle.tmm_model.specs.declared.bound.Bound.TheVariants.{Finite, Free}
use Rattle.tmm_model.specs.declared.fix.Fix.TheVariants.{LoosenLo, LoosenHi}
use Rattle.tmm_model.specs.declared.premise.Edit.TheVariants.{Erase}
use Rattle.tmm_model.specs.declared.premise.Premise.TheVariants.{Dist}
use Rattle.tmm_model.specs.Kept.{IsAccepted}
use Rattle.repairs.specs.Aims.{GrowsBy}
use Rattle.repairs.specs.Repairs.{IsRepair}
use Rattle.repairs.specs.Trials.{IsErased}
use Rattle.repairs.proofs.Growing.{Grows-append, Grows-fails}
use Rattle.repairs.proofs.Loosening.{edits_without_lo, edits_without_hi}
use Rattle.repairs.proofs.Mending.{two_by_repair}
use Rattle.repairs.proofs.candidates.try_loosened.Goals as goal

pub returns-in-Some : goal.returns-in-Some
returns-in-Some g c =
    subst (λ s. OnOk c.try_either_side.result
    (GrowsBy s c.args.aim.now (LoosenLo c.args.constraint.now.name ∷ LoosenHi c.args.constraint.now.name ∷ []) c.args.fixes.now.items c.try_either_side.new.fixes.items)) c.standing.ensures
    c.try_either_side.ensures

pub returns-in-None : goal.returns-in-None
returns-in-None g c =
    let s = g.M.MapCore.list c.args.core.now in
    let k = c.args.constraint.now in
    let refused : ¬ (IsAccepted s (Erase k.name)) =
    subst (λ o. MatchOption o (¬ (IsAccepted s (Erase k.name))) (IsErased g.M.MapCore.list g.M.MapCore.pending s k.name)) c.in-None.is c.in_ok-erased.ensures in
    Grows-append (IsRepair s c.args.aim.now.name) (LoosenLo k.name ∷ []) (LoosenHi k.name ∷ []) c.args.fixes.now.items c.args.fixes.now.items c.args.fixes.now.items
    (Grows-fails (IsRepair s c.args.aim.now.name) (LoosenLo k.name) c.args.fixes.now.items (λ repair. refused
    (two_by_repair s c.args.aim.now c.requires.aim (LoosenLo k.name) k.name (Dist k.name k.from k.to Free (Finite k.hi)) refl
    (edits_without_lo s c.requires.aim.well_named c.args.aim.now.free k.name k.from k.to k.lo k.hi c.requires.stands) repair).0))
    (Grows-fails (IsRepair s c.args.aim.now.name) (LoosenHi k.name) c.args.fixes.now.items (λ repair. refused
    (two_by_repair s c.args.aim.now c.requires.aim (LoosenHi k.name) k.name (Dist k.name k.from k.to (Finite k.lo) Free) refl
    (edits_without_hi s c.requires.aim.well_named c.args.aim.now.free k.name k.from k.to k.lo k.hi c.requires.stands) repair).0))
