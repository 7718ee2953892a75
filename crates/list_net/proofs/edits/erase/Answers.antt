use Rattle.std.proofs.Common.{◌∙◌, All, ap, sym, subst}
use Rattle.tmm_model.specs.Lines.{IsWellFormedPremise}
use Rattle.tmm_model.specs.Standing.{IsConsistent}
use Rattle.list_theory.proofs.Erased.{gone_by_erasure}
use Rattle.belief_theory.proofs.StayKept.{all_without}
use Rattle.premise_list.specs.States.{States}
use Rattle.list_net.proofs.Networks.{consistent, net_of}
use Rattle.list_net.proofs.edits.erase.Goals as goal

pub returns-clause-network : goal.returns-clause-network
returns-clause-network c =
    let ps = c.args.standing.now.present.premises in
    let new = ap (λ (s : States). s.present.premises) c.in-Ok.ensures.list in
    net_of c.erase_premise.new.standing.present c.erase_premise.new.net.present
    (subst (All IsWellFormedPremise) (sym new) (all_without IsWellFormedPremise c.args.name ps c.requires.network.sound.well_formed))
    c.invariants.ensures.well_named c.in-Ok.ensures.fits c.invariants-2.ensures.distinct c.invariants-2.ensures.start c.invariants-2.ensures.in_use c.invariants-2.ensures.dates

pub returns-clause-dates : goal.returns-clause-dates
returns-clause-dates c =
    let new = ap (λ (s : States). s.present.premises) c.in-Ok.ensures.list in
    subst IsConsistent new
    (consistent c.erase_premise.new.standing.present c.erase_premise.new.net.present c.in-Ok.ensures.fits c.invariants-2.ensures.distinct c.invariants-2.ensures.start c.invariants-2.ensures.in_use c.invariants-2.ensures.dates)

pub returns-clause-erased : goal.returns-clause-erased
returns-clause-erased c = c.in-Ok.ensures.names ∙ sym (gone_by_erasure c.args.name c.args.standing.now.present.premises c.requires.network.sound.well_named)
