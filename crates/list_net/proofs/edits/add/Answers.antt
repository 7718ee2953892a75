use Rattle.std.proofs.Common.{◌∙◌, ◌++◌, ◌∷◌, [], All, ap, sym, subst}
use Rattle.std.proofs.lemmas.List.Elements.{All-push}
use Rattle.tmm_model.specs.Lines.{IsWellFormedPremise}
use Rattle.list_theory.specs.WellNamed.{IsWellNamed}
use Rattle.list_theory.proofs.Elements.{In-left}
use Rattle.list_theory.proofs.Erased.{none_gone}
use Rattle.premise_list.specs.States.{States}
use Rattle.list_net.proofs.Networks.{net_of}
use Rattle.list_net.proofs.edits.add.Goals as goal

pub returns-clause-erased : goal.returns-clause-erased
returns-clause-erased c =
    let ps = c.args.standing.now.present.premises in
    let p = c.args.premise.now in
    let new = ap (λ (s : States). s.present.premises) c.in_ok-add_premise.ensures.list in
    c.make.ensures ∙ sym (none_gone ps (ps ++ p ∷ []) (subst IsWellNamed new c.invariants.ensures.well_named) (λ q at. In-left ps (p ∷ []) q at))

pub returns-clause-network : goal.returns-clause-network
returns-clause-network c =
    let ps = c.args.standing.now.present.premises in
    let new = ap (λ (s : States). s.present.premises) c.in_ok-add_premise.ensures.list in
    net_of c.add_premise.new.standing.present c.add_premise.new.net.present
    (subst (All IsWellFormedPremise) (sym new) (All-push IsWellFormedPremise ps c.args.premise.now c.requires.network.sound.well_formed c.requires.well_formed))
    c.invariants.ensures.well_named c.in_ok-add_premise.ensures.fits c.invariants-2.ensures.distinct c.invariants-2.ensures.start c.invariants-2.ensures.in_use c.invariants-2.ensures.dates
