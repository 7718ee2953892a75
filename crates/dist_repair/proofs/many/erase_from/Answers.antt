use Rattle.std.proofs.Common.{◌≡◌, ◌+◌, ◌-◌, ℕ, arith, subst}
use Rattle.dist_repair.proofs.Last.{IsErasingLast, IsErasingLast-more}
use Rattle.dist_repair.proofs.many.erase_from.Goals as goal

pub loop-place-preserved : goal.loop-place-preserved
loop-place-preserved c =
    let place = c.loop-place.place - 1 in
    let next : c.loop-place.place ≡ place + 1 = omega (arith, c.loop-place-test.true) in (
      IsErasingLast-more c.args.net.now place c.loop-place.net c.erase_edge.new.net
          (subst (λ (k : ℕ). IsErasingLast c.args.net.now k c.loop-place.net) next c.loop-place.invariant.0) c.erase_edge.ensures.present c.erase_edge.ensures.committed,
      omega (arith, c.loop-place-test.true),
    )
