use Rattle.std.proofs.Common.{sym, subst}
use Rattle.tmm_model.specs.declared.bound.Bound.{Bound}
use Rattle.tmm_model.specs.Bounds.{IfFinite, IsWithin}
use Rattle.walk_theory.specs.LeastWalks.{HasWalk}
use Rattle.dist_net.specs.Net.{entry}
use Rattle.dist_repair.specs.Rows.{rest_of, IsStarted}
use Rattle.dist_repair.proofs.Left.{IsNet}
use Rattle.dist_repair.proofs.Starts.{IsFar-to_first, IsStarted-far, IsStarted-sum}
use Rattle.dist_repair.proofs.Steps.{IsSmall-within}
use Rattle.dist_repair.proofs.way_over.Goals as goal

pub sum_of-requires-clause-rest : goal.sum_of-requires-clause-rest
sum_of-requires-clause-rest c =
    let known : IsNet c.args.net.now.present = record { places = c.invariants.ensures.names; used = c.invariants.ensures.in_use; light = c.invariants.ensures.light; dates = c.invariants.ensures.dates } in
    let started : IsStarted (rest_of c.args.net.now.present c.args.place) c.args.from c.args.b (entry c.args.net.now.draft c.args.from c.args.b) =
    IsStarted-far c.args.net.now.present c.args.place known c.args.from c.args.b c.requires.to (entry c.args.net.now.draft c.args.from c.args.b) (c.requires.far c.args.b c.requires.to) in
    subst (λ (x : Bound). IfFinite x (IsWithin 255000000000)) (sym c.draft.ensures) started.small

pub of-requires-2 : goal.of-requires-2
of-requires-2 c =
    let known : IsNet c.args.net.now.present = record { places = c.invariants.ensures.names; used = c.invariants.ensures.in_use; light = c.invariants.ensures.light; dates = c.invariants.ensures.dates } in
    let started : IsStarted (rest_of c.args.net.now.present c.args.place) c.args.a c.args.b c.sum_of.result =
    IsStarted-sum c.args.net.now.present c.args.place known c.args.a c.args.b c.requires.to c.args.from c.far.result c.draft.result c.sum_of.result c.if-a-b.false
    (IsFar-to_first c.args.net.now.present c.args.place known c.requires.place c.args.from c.args.a c.far.result c.requires.edge c.far.ensures.least).reached
    (subst (λ (x : Bound). IfFinite x (HasWalk (rest_of c.args.net.now.present c.args.place) c.args.from c.args.b)) (sym c.draft.ensures) (c.requires.far c.args.b c.requires.to).reached)
    c.sum_of.ensures.sum in
    IsSmall-within c.sum_of.result started.small

pub returns : goal.returns
returns c =
    let known : IsNet c.args.net.now.present = record { places = c.invariants.ensures.names; used = c.invariants.ensures.in_use; light = c.invariants.ensures.light; dates = c.invariants.ensures.dates } in
    let started : IsStarted (rest_of c.args.net.now.present c.args.place) c.args.a c.args.b c.sum_of.result =
    IsStarted-sum c.args.net.now.present c.args.place known c.args.a c.args.b c.requires.to c.args.from c.far.result c.draft.result c.sum_of.result c.if-a-b.false
    (IsFar-to_first c.args.net.now.present c.args.place known c.requires.place c.args.from c.args.a c.far.result c.requires.edge c.far.ensures.least).reached
    (subst (λ (x : Bound). IfFinite x (HasWalk (rest_of c.args.net.now.present c.args.place) c.args.from c.args.b)) (sym c.draft.ensures) (c.requires.far c.args.b c.requires.to).reached)
    c.sum_of.ensures.sum in
    subst (IsStarted (rest_of c.args.net.now.present c.args.place) c.args.a c.args.b) (sym c.of-2.ensures) started
