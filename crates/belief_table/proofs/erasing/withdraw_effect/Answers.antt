use Rattle.std.proofs.Common.{◌≡◌, ◌∙◌, true, false, Option, sym, ap, subst, arith}
use Rattle.std.specs.Prelude.{is_some}
use Rattle.tmm_model.specs.declared.premise.Premise.{Premise}
use Rattle.spots.proofs.Nodes.{moment_at-is}
use Rattle.occ_tree.specs.Places.{forest}
use Rattle.revisions.specs.Standing.{Stands}
use Rattle.belief_table.proofs.Erased.{event_stays, no_effect_left}
use Rattle.belief_table.proofs.Thinned.{sheds_none, spares_none}
use Rattle.belief_table.proofs.erasing.withdraw_effect.Goals as goal

pub returns-in_ok-withdraw-in-Some-clause-spares : goal.returns-in_ok-withdraw-in-Some-clause-spares
returns-in_ok-withdraw-in-Some-clause-spares c = λ s out.
    let f = forest c.args.beliefs.now.tree in
    let (m, at, is) = c.in-Some.ensures in
    c.in_ok-withdraw-in-Some.ensures.spares s (λ stands.
    (let never : false ≡ true = sym (ap (λ (o : Option Premise). is_some o) out) ∙ (subst (Stands s) (moment_at-is f c.in-Some.x m at ∙ is) stands).1 in cc))

pub returns-in_ok-withdraw-in-Some-clause-none : goal.returns-in_ok-withdraw-in-Some-clause-none
returns-in_ok-withdraw-in-Some-clause-none c = λ y n there same.
    let (m, at, is) = c.in-Some.ensures in
    no_effect_left (forest c.args.beliefs.now.tree) (forest c.withdraw.new.beliefs.tree) c.in-Some.x m at c.in_ok-withdraw-in-Some.ensures.gone
    c.requires.once c.in_ok-withdraw-in-Some.ensures.sheds.thins.nodes y n there (same ∙ sym is)

pub returns-in_ok-withdraw-in-Some-clause-stays : goal.returns-in_ok-withdraw-in-Some-clause-stays
returns-in_ok-withdraw-in-Some-clause-stays c =
    let (m, at, is) = c.in-Some.ensures in
    event_stays (forest c.args.beliefs.now.tree) (forest c.withdraw.new.beliefs.tree) c.in-Some.x m at c.in_ok-withdraw-in-Some.ensures.gone c.args.trigger c.args.rule c.requires.trigger is

pub returns-in-None-clause-sheds : goal.returns-in-None-clause-sheds
returns-in-None-clause-sheds c = sheds_none c.args.beliefs.now c.args.departed.now c.requires.events

pub returns-in-None-clause-spares : goal.returns-in-None-clause-spares
returns-in-None-clause-spares c = λ s out. spares_none s c.args.beliefs.now

pub returns-in-None-clause-fewer : goal.returns-in-None-clause-fewer
returns-in-None-clause-fewer c = λ f h. omega arith
