use Rattle.std.proofs.Common.{w64, sym, subst, rules}
use Rattle.std.proofs.lemmas.Int.{to_z-of_z}
use Rattle.std.specs.Prelude.{ℤ, FitsSigned}
use Rattle.occ_tree.specs.Places.{forest}
use Rattle.bearing.specs.Places.{IsPlaceOf}
use Rattle.bearing.proofs.Placed.{row_place}
use Rattle.bearing.proofs.places.place_of.Goals as goal

pub returns : goal.returns
returns c =
    let f = forest c.args.tree.now in
    let row = c.row-row.result in
    let fits : FitsSigned w64 row.low = search rules in
    subst (λ (low : ℤ). IsPlaceOf f c.args.x (record { base = row.begin; low = low; high = row.high })) (sym (to_z-of_z w64 row.low fits))
    (row_place f c.args.x row c.requires c.row-row.ensures)
