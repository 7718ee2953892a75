use Rattle.std.proofs.Common.{◌≡◌, ◌∙◌, true, false, Option, sym, ap, subst}
use Rattle.std.specs.Prelude.{is_some}
use Rattle.tmm_model.specs.declared.premise.Premise.{Premise}
use Rattle.spots.proofs.Nodes.{moment_at-is}
use Rattle.occ_tree.specs.Places.{forest}
use Rattle.occ_tree.specs.Standing.{present}
use Rattle.revisions.specs.Standing.{Stands}
use Rattle.belief_table.proofs.Erased.{no_root_left, no_root_found}
use Rattle.belief_table.proofs.Thinned.{sheds_none, spares_none}
use Rattle.belief_table.proofs.erasing.erase_root.Goals as goal

pub returns-in_ok-withdraw-in-Some-clause-spares : goal.returns-in_ok-withdraw-in-Some-clause-spares
returns-in_ok-withdraw-in-Some-clause-spares c = λ s out.
    let (m, at, is) = c.in-Some.ensures.found in
    c.in_ok-withdraw-in-Some.ensures.spares s (λ stands.
    (let never : false ≡ true = sym (ap (λ (o : Option Premise). is_some o) out) ∙ subst (Stands s) (moment_at-is (forest c.args.beliefs.now.tree) c.in-Some.x m at ∙ is) stands in cc))

pub returns-in_ok-withdraw-in-Some-clause-none : goal.returns-in_ok-withdraw-in-Some-clause-none
returns-in_ok-withdraw-in-Some-clause-none c =
    let (m, at, is) = c.in-Some.ensures.found in
    no_root_left (forest c.args.beliefs.now.tree) (forest c.withdraw.new.beliefs.tree) c.args.name c.in-Some.x m at is c.in_ok-withdraw-in-Some.ensures.gone c.in_ok-withdraw-in-Some.ensures.sheds.thins.nodes

pub returns-in-None-clause-sheds : goal.returns-in-None-clause-sheds
returns-in-None-clause-sheds c = sheds_none c.args.beliefs.now c.args.departed.now c.requires.events

pub returns-in-None-clause-spares : goal.returns-in-None-clause-spares
returns-in-None-clause-spares c = λ s out. spares_none s c.args.beliefs.now

pub returns-in-None-clause-none : goal.returns-in-None-clause-none
returns-in-None-clause-none c = no_root_found (present c.args.beliefs.now.tree) c.args.name c.in-None.ensures.roots c.in-None.ensures.found
