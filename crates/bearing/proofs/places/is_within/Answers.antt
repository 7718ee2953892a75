use Rattle.std.proofs.Common.{◌∙◌, w64, rules}
use Rattle.std.proofs.lemmas.Int.{to_z-of_z}
use Rattle.std.specs.Prelude.{FitsSigned}
use Rattle.bearing.specs.Places.{net_at, limit}
use Rattle.bearing.proofs.Placed.{within_told}
use Rattle.bearing.proofs.places.is_within.Goals as goal

pub returns : goal.returns
returns c =
    let fits : FitsSigned w64 c.args.from.now.low = search rules in
    let far_fits : FitsSigned w64 c.limit.result = search rules in
    within_told (net_at c.args.net.now c.args.before) c.args.from.now c.args.to.now (limit c.args.strictly) _ _ c.far_at-far.result c.is_at_most.result c.if-from-to.false c.far_at-far.ensures (to_z-of_z w64 c.args.from.now.low fits)
    (to_z-of_z w64 c.limit.result far_fits ∙ c.limit.ensures) c.is_at_most.ensures
