use Rattle.std.proofs.Common.{◌≡◌, ◌∙◌, true, sym, subst, ap}
use Rattle.tmm_model.specs.declared.premise.Edit.{Edit}
use Rattle.tmm_model.specs.Edits.{list_with}
use Rattle.tmm_model.specs.Lines.{IsWellFormedEdit, IsWellFormedPremise}
use Rattle.tmm_model.specs.Standing.{Standing}
use Rattle.dist_net.specs.Net.{Net}
use Rattle.net_theory.specs.Fits.{Fits}
use Rattle.net_theory.specs.KeptNumbers.{KeepsNumbers}
use Rattle.list_net.proofs.Networks.{net_with}
use Rattle.revisions.specs.Alike.{is_unread}
use Rattle.belief_trials.proofs.Seeing.{sees_the_same}
use Rattle.belief_trials.proofs.premises.add.Goals as goal

pub returns-clause-network : goal.returns-clause-network
returns-clause-network c =
    let list : c.commit.new.self.present ≡ c.add_premise.new.standing.present = ap (λ l. l.present) c.commit.ensures in
    let net : c.commit-2.new.self.present ≡ c.add_premise.new.net.present = ap (λ n. n.present) c.commit-2.ensures in
    let added : c.add_premise.new.standing.present ≡ list_with c.args.list.now.present c.in-Add.premise = ap (λ l. l.present) c.in_ok-add_premise.ensures.list in
    let fits : Fits c.commit.new.self.present c.commit-2.new.self.present =
    subst (λ (l : Standing). Fits l c.commit-2.new.self.present) (sym list) (subst (λ (n : Net). Fits c.add_premise.new.standing.present n) (sym net) c.in_ok-add_premise.ensures.fits) in
    let well_formed : IsWellFormedPremise c.in-Add.premise = subst IsWellFormedEdit c.in-Add.is c.requires.well_formed in
    net_with c.args.list.now.present c.requires.network.sound c.in-Add.premise well_formed
    c.commit.new.self.present c.commit-2.new.self.present (list ∙ added) c.len.ensures.well_named fits
    c.invariants.ensures.distinct c.invariants.ensures.start c.invariants.ensures.in_use c.invariants.ensures.dates

pub returns-clause-sees : goal.returns-clause-sees
returns-clause-sees c unread =
    let list : c.commit.new.self.present ≡ c.add_premise.new.standing.present = ap (λ l. l.present) c.commit.ensures in
    let net : c.commit-2.new.self.present ≡ c.add_premise.new.net.present = ap (λ n. n.present) c.commit-2.ensures in
    let added : c.add_premise.new.standing.present ≡ list_with c.args.list.now.present c.in-Add.premise = ap (λ l. l.present) c.in_ok-add_premise.ensures.list in
    let keep = subst (λ (n : Net). KeepsNumbers c.args.net.now.present.names n.names) (sym net) c.in_ok-add_premise.ensures.numbers in
    let plain = subst (λ (e : Edit). is_unread c.args.list.now.present.premises e ≡ true) c.in-Add.is unread in
    sees_the_same c.args.list.now.present c.commit.new.self.present c.in-Add.premise c.args.net.now.present c.commit-2.new.self.present
    c.requires.network (list ∙ added) (returns-clause-network c) keep plain
