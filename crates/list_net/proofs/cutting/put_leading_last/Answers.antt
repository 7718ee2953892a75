use Rattle.std.proofs.Common.{◌≡◌, ◌≤◌, ◌+◌, ◌-◌, ℕ, get_or, arith, ap, sym, subst}
use Rattle.dist_net.specs.Net.{Net}
use Rattle.list_net.specs.Cutting.{IsNumberListed}
use Rattle.net_theory.specs.Represents.{Names}
use Rattle.list_net.proofs.Dropping.{IsArranging, IsArranging-moved}
use Rattle.list_net.proofs.cutting.put_leading_last.Goals as goal

pub is_fallen-requires : goal.is_fallen-requires
is_fallen-requires c =
    let edge = get_or c.edges.result.now (c.loop-place.place - 1) c.index-edges-place.result in
    subst (λ (names : Names). IsNumberListed c.args.standing.now.present.premises c.args.gone.now names edge.from) (ap (λ (n : Net). n.names) (sym c.loop-place.invariant.others))
    (c.requires.points edge.from)

pub loop-place-preserved-then-not-is_fallen : goal.loop-place-preserved-then-not-is_fallen
loop-place-preserved-then-not-is_fallen c =
    let place = c.loop-place.place - 1 in
    let next : c.loop-place.place ≡ place + 1 = omega (arith, c.loop-place-test.true) in
    let from : c.args.left ≤ place = omega (arith, c.loop-place-test.true) in
    IsArranging-moved c.args.net.now c.args.left place c.loop-place.last c.loop-place.net c.swap_edges.new.self from
    (subst (λ (k : ℕ). IsArranging c.args.net.now c.args.left k c.loop-place.last c.loop-place.net) next c.loop-place.invariant) c.swap_edges.ensures
