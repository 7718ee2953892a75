use Rattle.std.proofs.Common.{◌≡◌, ◌∙◌, ap, sym, subst, arith}
use Rattle.std.specs.Option.{is_some}
use Rattle.walk_theory.specs.LeastWalks.{IsFar}
use Rattle.dist_net.specs.Net.{Net, IsInUse}
use Rattle.dist_repair.specs.Rows.{rest_of}
use Rattle.dist_repair.proofs.Left.{IsNet}
use Rattle.dist_repair.proofs.Starts.{below_limit, IsStarted-far}
use Rattle.dist_repair.proofs.Steps.{IsSmall-within}
use Rattle.dist_repair.proofs.Ways.{IsFarRow-out}
use Rattle.dist_repair.proofs.way_out.draft_out.Goals as goal

pub returns-clause-far : goal.returns-clause-far
returns-clause-far c =
    let known : IsNet c.args.net.now.present = record { places = c.invariants.ensures.names; used = c.invariants.ensures.in_use; light = c.invariants.ensures.light; dates = c.invariants.ensures.dates } in
    IsFarRow-out c.args.net.now c.args.place c.args.from known c.loop-b.b c.loop-b.net c.requires.place c.requires.from c.requires.row c.requires.draft
    (λ q in_q. omega (arith, below_limit c.args.net.now.present.names c.limit-limit.result c.limit-limit.ensures.above q in_q, c.loop-b-test.false)) c.loop-b.invariant

pub of-requires : goal.of-requires
of-requires c =
    let net : Net = c.args.net.now.present in
    let known : IsNet net = record { places = c.invariants.ensures.names; used = c.invariants.ensures.in_use; light = c.invariants.ensures.light; dates = c.invariants.ensures.dates } in
    let same : c.loop-b.net.present ≡ net = c.loop-b.invariant.changes.present in
    let in_b : IsInUse net.names c.loop-b.b = subst (λ (n : Net). IsInUse n.names c.loop-b.b) same (sym (c.if-is_some.ensures ∙ ap is_some c.name_of.ensures)) in
    let far : IsFar (rest_of net c.args.place) c.args.from c.loop-b.b c.least_out-bound.result =
    subst (λ (n : Net). IsFar (rest_of n c.args.place) c.args.from c.loop-b.b c.least_out-bound.result) same c.least_out-bound.ensures in
    IsSmall-within c.least_out-bound.result (IsStarted-far net c.args.place known c.args.from c.loop-b.b in_b c.least_out-bound.result far).small
