-- What edits are found to be, and repairs.
use Rattle.std.proofs.Common.{◌≡◌, ◌<◌, ℕ, false, List, [], ◌∷◌, refl, sym, ◌∙◌, ap, subst, arith}
use Rattle.tmm_model.specs.declared.fix.Fix.{Fix}
use Rattle.tmm_model.specs.declared.premise.Edit.{Edit}
use Rattle.tmm_model.specs.declared.premise.Edit.TheVariants.{Add, Erase}
use Rattle.tmm_model.specs.declared.premise.Premise.{Premise}
use Rattle.tmm_model.specs.Edits.{next_list, list_with, list_without}
use Rattle.tmm_model.specs.Kept.{IsAccepted}
use Rattle.tmm_model.specs.Standing.{Standing}
use Rattle.repairs.specs.declared.aim.Aim.{Aim}
use Rattle.repairs.specs.Aims.{IsAim}
use Rattle.repairs.specs.Repairs.{IsFreeName, is_declared, repair_name, edits_of, Lead, Mends, IsRepair, protects}
use Rattle.repairs.specs.Trials.{IsMending, IsMendingAfter}
use Rattle.repairs.proofs.Changed.{not_both}
use Rattle.repairs.proofs.InOne.{one_mends, one_tells}
use Rattle.repairs.proofs.InTwo.{two_mend, two_tell}

-- of two free names neither comes before the other
not_before : (s : Standing) (a b : List ℕ) (one : IsFreeName s a) (other : IsFreeName s b) → one.number < other.number → ⊥
not_before s a b one other below =
    not_both (is_declared s (repair_name one.number)) (other.first one.number below) (subst (λ n. is_declared s n ≡ false) one.spelt one.free)

-- **There is one free name.**
pub one_free : (s : Standing) (a b : List ℕ) → IsFreeName s a → IsFreeName s b → a ≡ b
one_free s a b one other = one.spelt ∙ ap repair_name same ∙ sym other.spelt
  where
    same : one.number ≡ other.number
    same = omega (arith, not_before s a b one other, not_before s b a other one)

module _ (s : Standing) (aim : Aim) (is : IsAim s aim) (fix : Fix) where
  -- the edits of a repair have the free name of the aim
  leads : (r : IsRepair s aim.name fix) → Lead (edits_of s aim.free fix) s r.new
  leads r = subst (λ n. Lead (edits_of s n fix) s r.new) (one_free s r.free aim.free r.is_free is.free) r.lead

  -- **An edit that is found to mend is a repair,** and one that is not found to is none.
  pub repair_by_one : (edit : Edit) → edits_of s aim.free fix ≡ edit ∷ [] → IsMending s aim.name edit → IsRepair s aim.name fix
  repair_by_one edit edits mending = record {
    free = aim.free;
    is_free = is.free;
    new = next_list s edit;
    lead = subst (λ l. Lead l s (next_list s edit)) (sym edits) (mending.accepted, refl);
    mends = one_mends s is.well_named aim.name edit mending.told;
  }

  pub one_by_repair : (edit : Edit) → edits_of s aim.free fix ≡ edit ∷ [] → IsRepair s aim.name fix → IsMending s aim.name edit
  one_by_repair edit edits repair =
      let lead : Lead (edit ∷ []) s repair.new = subst (λ l. Lead l s repair.new) edits (leads repair) in
      record {
        accepted = lead.0;
        told = one_tells s is.well_named aim.name edit is.broken (subst (Mends aim.name s) lead.1 repair.mends);
      }

  -- **So are two edits, an erasure and then an addition.**
  module _ (n : List ℕ) (p : Premise) (other : protects p ≡ false) (edits : edits_of s aim.free fix ≡ Erase n ∷ Add p ∷ []) where
    pub repair_by_two : IsAccepted s (Erase n) → IsMendingAfter s n aim.name (Add p) → IsRepair s aim.name fix
    repair_by_two accepted mending = record {
      free = aim.free;
      is_free = is.free;
      new = list_with (list_without s n) p;
      lead = subst (λ l. Lead l s (list_with (list_without s n) p)) (sym edits) (accepted, (mending.accepted, refl));
      mends = two_mend s is.well_named aim.name n p other mending.told;
    }

    -- the edits of a repair are accepted, and what they change tells that it mends
    pub two_by_repair : IsRepair s aim.name fix → IsAccepted s (Erase n) × IsMendingAfter s n aim.name (Add p)
    two_by_repair repair =
        let lead : Lead (Erase n ∷ Add p ∷ []) s repair.new = subst (λ l. Lead l s repair.new) edits (leads repair) in (
          lead.0,
          record {
            accepted = lead.1.0;
            told = two_tell s is.well_named aim.name n p other is.broken (subst (Mends aim.name s) lead.1.1 repair.mends);
          },
        )
