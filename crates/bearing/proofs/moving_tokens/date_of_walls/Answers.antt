use Rattle.std.proofs.Common.{◌≤ℤ◌, w64, sym, subst, arith, rules}
use Rattle.std.proofs.lemmas.Int.{to_z-of_z}
use Rattle.std.proofs.lemmas.List.Elements.{Contains-get_or}
use Rattle.std.specs.Prelude.{FitsSigned}
use Rattle.std.specs.List.{Contains}
use Rattle.occ_tree.specs.Places.{forest}
use Rattle.bearing.specs.Windows.{AreTwoFrom, IsOfNode}
use Rattle.bearing.proofs.Latest.{two_from}
use Rattle.bearing.proofs.moving_tokens.date_of_walls.Goals as goal

pub latest-requires-2-clause-token : goal.latest-requires-2-clause-token
latest-requires-2-clause-token c =
    subst (IsOfNode (forest c.args.order.now.tree.now)) (sym c.index-walls-1.is) (c.requires.walls 1 c.index-walls-1.result (omega (arith, c.if-walls-lt2.false)))

pub returns : goal.returns
returns c =
    let net = c.args.order.now.net.now.present in
    let tree = c.args.order.now.tree.now in
    let walls = c.args.walls.now in
    let one = c.index-walls-0.result in
    let other = c.index-walls-1.result in
    let one_in = subst (Contains walls) (sym c.index-walls-0.is) (Contains-get_or walls 0 one (omega (arith, c.if-walls-lt2.false))) in
    let other_in = subst (Contains walls) (sym c.index-walls-1.is) (Contains-get_or walls 1 other (omega (arith, c.if-walls-lt2.false))) in
    let a = c.in-Some.one in
    let b = c.in-Some-latest.other in
    let date = c.max.result in
    let fits_a : FitsSigned w64 a = search rules in
    let fits_b : FitsSigned w64 b = search rules in
    let fits : FitsSigned w64 date = search rules in
    let a_by = subst (λ x. x ≤ℤ date) (to_z-of_z w64 a fits_a) c.max.ensures.self_bound in
    let b_by = subst (λ x. x ≤ℤ date) (to_z-of_z w64 b fits_b) c.max.ensures.other_bound in
    subst (AreTwoFrom net tree walls) (sym (to_z-of_z w64 date fits))
    (two_from net tree walls one other one_in other_in (sym c.if-eq.ensures) a b date a_by b_by c.in-Some.ensures c.in-Some-latest.ensures)
