-- A premise that beliefs do not read leaves the nodes that a list sees.
use Rattle.std.proofs.Common.{◌≡◌, true, sym, subst}
use Rattle.tmm_model.specs.declared.premise.Edit.TheVariants.{Add}
use Rattle.tmm_model.specs.declared.premise.Premise.{Premise}
use Rattle.tmm_model.specs.Edits.{list_with}
use Rattle.tmm_model.specs.Standing.{Standing}
use Rattle.list_theory.specs.WellNamed.{IsWellNamed}
use Rattle.dist_net.specs.Net.{Net}
use Rattle.net_theory.specs.Fits.{IsNetOf}
use Rattle.net_theory.specs.KeptNumbers.{KeepsNumbers}
use Rattle.revisions.specs.Alike.{SayAlike, is_unread}
use Rattle.revisions.proofs.StillEdits.{stay_seen}
use Rattle.revisions.proofs.UnreadEdits.{unread_edit}
use Rattle.belief_trials.specs.Lists.{SeeTheSame}

pub sees_the_same : (s t : Standing) (p : Premise) (net after : Net) → IsNetOf s net → t ≡ list_with s p → IsNetOf t after → KeepsNumbers net.names after.names → is_unread s.premises (Add p) ≡ true → SeeTheSame s net t after
sees_the_same s t p net after of_s is of_t keep unread f seen =
    let well_named = subst (λ (l : Standing). IsWellNamed l.premises) is of_t.sound.well_named in
    let say = unread_edit s (Add p) of_s.sound.well_named well_named unread in
    stay_seen s t (subst (SayAlike s) (sym is) say) net after f of_t (λ n q there. keep n q) seen
