use Rattle.std.proofs.Common.{◌∙◌, w64, sym, subst, rules}
use Rattle.std.proofs.lemmas.Int.{to_z-of_z}
use Rattle.std.specs.Prelude.{FitsSigned}
use Rattle.tmm_model.specs.declared.point.PointName.TheVariants.{Start}
use Rattle.net_theory.proofs.Nets.{is_in_use}
use Rattle.occ_tree.specs.Places.{forest}
use Rattle.bearing.specs.Windows.{HasBegunFrom}
use Rattle.bearing.proofs.Latest.{begun_from, token_spot}
use Rattle.bearing.proofs.moving_tokens.latest.Goals as goal

pub returns-in-Finite : goal.returns-in-Finite
returns-in-Finite c =
    let net = c.args.order.now.net.now.present in
    let tree = c.args.order.now.tree.now in
    let fits : FitsSigned w64 c.in-Finite.date = search rules in
    subst (HasBegunFrom net tree c.args.token.now) (sym (to_z-of_z w64 c.in-Finite.date fits))
    (begun_from net tree c.requires.tree (is_in_use net.names 0 Start c.invariants.ensures.start) c.args.token.now (token_spot net (forest tree) c.args.token.now c.requires.token) c.in-Finite.date (sym c.far.ensures ∙ c.in-Finite.is))
