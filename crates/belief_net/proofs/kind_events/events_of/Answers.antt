use Rattle.std.proofs.Common.{◌≢◌, subst}
use Rattle.std.proofs.lemmas.List.Elements.{All-contains}
use Rattle.std.proofs.lemmas.Result.{IfOk-weaker}
use Rattle.std.specs.Prelude.{IfSome}
use Rattle.tmm_model.specs.Beliefs.{rules_on}
use Rattle.list_theory.proofs.Elements.{In, In-from_Contains, Contains-from_In}
use Rattle.spots.specs.Forest.{IsLive}
use Rattle.spots.proofs.Nodes.{live_at}
use Rattle.occ_tree.specs.Places.{forest}
use Rattle.belief_table.proofs.Parted.{in_on, on_in}
use Rattle.belief_net.proofs.kind_events.events_of.Goals as goal

pub events_with-requires : goal.events_with-requires
events_with-requires c = (c.args.standing.now.present, c.requires.under)

pub returns-in-Some-clause-live : goal.returns-in-Some-clause-live
returns-in-Some-clause-live c =
    IfOk-weaker c.events_with.result _ _ (λ found own x on.
    (let (i, row, at, of, named) = own x on in
    subst (IsLive (forest c.args.tree.now)) of (c.requires.events i row at))) c.events_with.ensures.own

pub returns-in-Some-clause-once : goal.returns-in-Some-clause-once
returns-in-Some-clause-once c = c.events_with.ensures.once c.requires.others.once

pub returns-in-Some-clause-all : goal.returns-in-Some-clause-all
returns-in-Some-clause-all c =
    let (there, differs) = subst (λ o. IfSome o (λ other. In other (rules_on c.args.standing.now.present c.args.kind) × (other ≢ c.args.rule))) c.in-Some.is c.other_on.ensures in
    IfOk-weaker c.events_with.result _ _ (λ found all x event. all x (c.requires.others.each x c.in-Some.other event there differs)) c.events_with.ensures.all

pub returns-in-None-clause-live : goal.returns-in-None-clause-live
returns-in-None-clause-live c =
    IfOk-weaker c.numbers.result _ _ (λ found live x on. All-contains (IsLive (forest c.args.tree.now)) found.items x live (Contains-from_In found.items x (in_on found.items x on))) c.numbers.ensures.live

pub returns-in-None-clause-all : goal.returns-in-None-clause-all
returns-in-None-clause-all c =
    IfOk-weaker c.numbers.result _ _ (λ found all x event. on_in found.items x (In-from_Contains found.items x (all x (live_at (forest c.args.tree.now) x event.node event.at)))) c.numbers.ensures.all
