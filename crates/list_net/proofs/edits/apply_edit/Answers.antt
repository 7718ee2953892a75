use Rattle.std.proofs.Common.{◌≡◌, ◌∙◌, ap, sym, subst}
use Rattle.std.specs.Prelude.{None}
use Rattle.tmm_model.specs.declared.premise.Edit.{Edit}
use Rattle.tmm_model.specs.Edits.{next_list, list_until, upgraded}
use Rattle.tmm_model.specs.Verdicts.{list_cause}
use Rattle.tmm_model.specs.Standing.{Standing, IsConsistent}
use Rattle.list_theory.proofs.Erased.{none_gone}
use Rattle.list_theory.proofs.Opening.{opened_at}
use Rattle.net_theory.specs.Fits.{IsNetOf}
use Rattle.premise_list.specs.States.{States}
use Rattle.list_theory.specs.LeftOut.{IsLeftOut}
use Rattle.list_net.proofs.edits.apply_edit.Goals as goal

pub returns-in-Horizon-clause-network : goal.returns-in-Horizon-clause-network
returns-in-Horizon-clause-network c =
    let old = c.requires.network in
    let now : c.set_horizon.new.self.present ≡ list_until c.args.standing.now.present c.in-Horizon.n = ap (λ (s : States). s.present) c.set_horizon.ensures in
    subst (λ (s : Standing). IsNetOf s c.args.net.now.present) (sym now)
    (record {
      sound = record { well_formed = old.sound.well_formed; well_named = old.sound.well_named; dates = old.sound.dates };
      fits = record { stands = old.fits.stands; steps = old.fits.steps };
      distinct = old.distinct;
      start = old.start;
      in_use = old.in_use;
      dates = old.dates;
    })

pub returns-in-Horizon-clause-erased : goal.returns-in-Horizon-clause-erased
returns-in-Horizon-clause-erased c =
    let old = c.args.standing.now.present in
    subst (λ (e : Edit). IsLeftOut old (next_list old e) c.make.result.items) (sym c.in-Horizon.is)
    (c.make.ensures ∙ sym (none_gone old.premises old.premises c.requires.network.sound.well_named (λ q at. at)))

pub returns-in-Horizon-clause-dates : goal.returns-in-Horizon-clause-dates
returns-in-Horizon-clause-dates c =
    let old = c.args.standing.now.present in
    subst (λ (e : Edit). IsConsistent (next_list old e).premises) (sym c.in-Horizon.is) c.requires.network.sound.dates

pub upgrade-requires : goal.upgrade-requires
upgrade-requires c =
    let s = c.args.standing.now.present in
    opened_at s (subst (λ (e : Edit). list_cause s e ≡ None) c.in-Upgrade.is c.requires.no_cause)

pub returns-in-Upgrade-clause-network : goal.returns-in-Upgrade-clause-network
returns-in-Upgrade-clause-network c =
    let old = c.requires.network in
    let now : c.upgrade.new.self.present ≡ upgraded c.args.standing.now.present = ap (λ (s : States). s.present) c.upgrade.ensures in
    subst (λ (s : Standing). IsNetOf s c.args.net.now.present) (sym now)
    (record {
      sound = record { well_formed = old.sound.well_formed; well_named = old.sound.well_named; dates = old.sound.dates };
      fits = record { stands = old.fits.stands; steps = old.fits.steps };
      distinct = old.distinct;
      start = old.start;
      in_use = old.in_use;
      dates = old.dates;
    })

pub returns-in-Upgrade-clause-erased : goal.returns-in-Upgrade-clause-erased
returns-in-Upgrade-clause-erased c =
    let old = c.args.standing.now.present in
    subst (λ (e : Edit). IsLeftOut old (next_list old e) c.make-in-Upgrade.result.items) (sym c.in-Upgrade.is)
    (c.make-in-Upgrade.ensures ∙ sym (none_gone old.premises old.premises c.requires.network.sound.well_named (λ q at. at)))

pub returns-in-Upgrade-clause-dates : goal.returns-in-Upgrade-clause-dates
returns-in-Upgrade-clause-dates c =
    let old = c.args.standing.now.present in
    subst (λ (e : Edit). IsConsistent (next_list old e).premises) (sym c.in-Upgrade.is) c.requires.network.sound.dates
