use Rattle.std.proofs.Common.{◌⊎◌, subst, arith}
use Rattle.std.specs.Prelude.{◌↔◌, filter}
use Rattle.std.proofs.lemmas.List.{take_all}
use Rattle.list_theory.proofs.Elements.{In}
use Rattle.timeline.specs.declared.row.Held.{Held}
use Rattle.timeline.specs.Holding.{goes_on}
use Rattle.timeline.proofs.Held.{one_more}
use Rattle.timeline.proofs.holding.held_on.Goals as goal

pub loop-held-preserved : goal.loop-held-preserved
loop-held-preserved c =
    one_more (filter (goes_on c.args.standing.now.present c.args.day c.args.coming.now) c.args.before.now) c.args.coming.now c.loop-held.held-index c.held-item.result
    c.loop-held.holding.items c.add.new.holding.items c.loop-held-test.true c.held-item.is c.loop-held.invariant c.in_ok-add.ensures

pub returns : goal.returns
returns c =
    subst (λ l. (h : Held) → In h c.loop-held.holding.items ↔ (In h (filter (goes_on c.args.standing.now.present c.args.day c.args.coming.now) c.args.before.now) ⊎ In h l))
    (take_all c.loop-held.held-index c.args.coming.now (omega arith)) c.loop-held.invariant
