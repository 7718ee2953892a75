-- When a network that fits a list is the list's.
use Rattle.std.proofs.Common.{◌≡◌, sym, subst, arith}
use Rattle.std.specs.List.{All}
use Rattle.std.proofs.lemmas.List.Elements.{All-push}
use Rattle.tmm_model.specs.declared.point.PointName.TheVariants.{Start}
use Rattle.tmm_model.specs.declared.premise.Premise.{Premise}
use Rattle.tmm_model.specs.Edits.{list_with}
use Rattle.tmm_model.specs.Lines.{IsWellFormedPremise}
use Rattle.list_theory.specs.WellNamed.{IsSound, IsWellNamed}
use Rattle.tmm_model.specs.Standing.{Standing, empty_list, points_in, arcs_in, IsConsistent}
use Rattle.tmm_model.specs.Walks.{HasDates}
use Rattle.dist_net.specs.Net.{Net, start_alone, arcs_of, AreInUse, AreDistinct}
use Rattle.net_theory.specs.Fits.{Fits, IsNetOf}
use Rattle.net_theory.specs.Represents.{IsNumberOf}
use Rattle.list_net.proofs.Additions.{stands_at_start, steps_at_start}
use Rattle.net_theory.proofs.Representing.{HasDates-named}
use Rattle.net_theory.proofs.Nets.{ends_used}

-- some dates satisfy the premises where some satisfy the edges
pub consistent : (s : Standing) (net : Net) → Fits s net → AreDistinct net.names → IsNumberOf net.names 0 Start → AreInUse net.names net.edges → HasDates 0 (arcs_of net.edges) → IsConsistent s.premises
consistent s net fits distinct start in_use dates =
    HasDates-named (points_in s.premises) (arcs_in s.premises) net.names (arcs_of net.edges) fits.stands distinct start (ends_used net.names net.edges in_use) dates

-- a network that fits the list is the list's
pub net_of : (s : Standing) (net : Net) → All IsWellFormedPremise s.premises → IsWellNamed s.premises → Fits s net → AreDistinct net.names → IsNumberOf net.names 0 Start → AreInUse net.names net.edges → HasDates 0 (arcs_of net.edges) → IsNetOf s net
net_of s net well_formed well_named fits distinct start in_use dates = record {
  sound = record { well_formed = well_formed; well_named = well_named; dates = consistent s net fits distinct start in_use dates };
  fits = fits;
  distinct = distinct;
  start = start;
  in_use = in_use;
  dates = dates;
}

-- the point `start` alone
pub at_start : (s : Standing) (net : Net) → s ≡ empty_list → net ≡ start_alone → AreDistinct net.names → IsNumberOf net.names 0 Start → AreInUse net.names net.edges → HasDates 0 (arcs_of net.edges) → IsNetOf s net
at_start s net empty alone distinct start in_use dates =
    net_of s net
    (subst (λ (l : Standing). All IsWellFormedPremise l.premises) (sym empty) (λ k p below. absurd (omega arith)))
    (subst (λ (l : Standing). IsWellNamed l.premises) (sym empty) tt)
    (subst (λ (l : Standing). Fits l net) (sym empty) (subst (Fits empty_list) (sym alone) (record { stands = stands_at_start; steps = steps_at_start })))
    distinct start in_use dates

-- with one premise more
pub net_with : (s : Standing) → IsSound s → (p : Premise) → IsWellFormedPremise p → (list : Standing) (net : Net) → list ≡ list_with s p → IsWellNamed list.premises → Fits list net
    → AreDistinct net.names → IsNumberOf net.names 0 Start → AreInUse net.names net.edges → HasDates 0 (arcs_of net.edges) → IsNetOf list net
net_with s sound p well_formed list net is well_named =
    net_of list net (subst (λ (l : Standing). All IsWellFormedPremise l.premises) (sym is) (All-push IsWellFormedPremise s.premises p sound.well_formed well_formed)) well_named
