use Rattle.std.proofs.Common.{ℕ, List, subst, sym}
use Rattle.std.proofs.lemmas.Bool.{not-true}
use Rattle.std.specs.List.{Contains}
use Rattle.bearing.specs.MovedPairs.{is_kept}
use Rattle.bearing.proofs.Pairs.{kept_in_both, none_listed}
use Rattle.bearing.proofs.distances_changed.none_moved.Goals as goal

pub returns : goal.returns
returns c is =
    let nets = c.args.net.now in
    let among = is_kept nets.present.names c.args.added.now in
    none_listed nets among (kept_in_both nets c.args.added.now c.requires) c.moved-moved.ensures.moved
    (λ p on. c.has_kept.ensures (not-true c.has_kept.result is) p (subst (λ (l : List ℕ). Contains l p) (sym c.moved-moved.ensures.list) on))
