use Rattle.std.proofs.Common.{rules, ◌∙◌, ap, sym, subst, FitsSigned, to_z, of_z, ◌+ℤ◌, pos}
use Rattle.std.proofs.lemmas.Int.{to_z-of_z}
use Rattle.std.proofs.lemmas.List.{get_or_read}
use Rattle.std.specs.Int.{w64, w128}
use Rattle.spots.specs.Spots.{IsSpot, spot_distance}
use Rattle.spots.specs.declared.spot.Spot.TheVariants.{Node}
use Rattle.occ_tree.specs.Places.{forest}
use Rattle.supports.specs.Entries.{no_row}
use Rattle.supports.proofs.BranchesEntering.{node_live, spot_read}
use Rattle.supports.proofs.Firsts.{none_behind, behind_from}
use Rattle.supports.proofs.branches.Branches.first_by.Goals as goal

pub far-requires-clause-to : goal.far-requires-clause-to
far-requires-clause-to c =
    let (class, are) = c.requires.tokens in
    let f = forest c.args.order.now.tree.now in
    let rows = c.args.rows.now in
    subst (IsSpot c.args.order.now.net.now.present.names f) (sym (spot_read f class rows are c.args.i c.requires.within c.index-rows-i.result c.index-rows-i.is)) (node_live f class rows are c.args.i c.requires.within)

pub returns-in-Finite : goal.returns-in-Finite
returns-in-Finite c =
    let (class, are) = c.requires.tokens in
    let net = c.args.order.now.net.now.present in
    let f = forest c.args.order.now.tree.now in
    let rows = c.args.rows.now in
    let i = c.args.i in
    let spot = spot_read f class rows are i c.requires.within c.index-rows-i.result c.index-rows-i.is in
    let far = ap (spot_distance net f (Node c.args.node)) (sym spot) ∙ sym c.far.ensures ∙ c.in-Finite.is in
    let fits_far : FitsSigned w64 c.in-Finite.far = search rules in
    let fits_early : FitsSigned w64 c.early.result = search rules in
    let date = c.from.ensures ∙ to_z-of_z w64 c.early.result fits_early ∙ c.early.ensures in
    let bound = c.from-in-Finite.ensures ∙ to_z-of_z w64 c.in-Finite.far fits_far in
    let first = c.from.result in
    let second = c.from-in-Finite.result in
    let fits_first : FitsSigned w128 first = search rules in
    let fits_second : FitsSigned w128 second = search rules in
    let fits_sum : FitsSigned w128 (first +ℤ second) = search rules in
    let fits_least : FitsSigned w128 (first +ℤ second +ℤ pos 1) = search rules in
    let sum = (λ t. to_z w128 (of_z w128 (to_z-of_z w128 first fits_first t +ℤ to_z-of_z w128 second fits_second t))) ∙ to_z-of_z w128 (first +ℤ second) fits_sum in
    behind_from net f rows c.args.node i c.in-Finite.far far _ _
    (ap (λ z. to_z w128 (of_z w128 (z +ℤ pos 1))) sum ∙ to_z-of_z w128 (first +ℤ second +ℤ pos 1) fits_least ∙ (λ t. date t +ℤ bound t +ℤ pos 1))
    (ap (λ r. r.fact) (get_or_read rows i c.index-rows-i.result c.requires.within c.index-rows-i.is no_row)) c.first_other.result c.first_other.ensures

pub returns-in-Free : goal.returns-in-Free
returns-in-Free c =
    let (class, are) = c.requires.tokens in
    let net = c.args.order.now.net.now.present in
    let f = forest c.args.order.now.tree.now in
    let rows = c.args.rows.now in
    let i = c.args.i in
    let spot = spot_read f class rows are i c.requires.within c.index-rows-i.result c.index-rows-i.is in
    none_behind net f rows c.args.node i (ap (spot_distance net f (Node c.args.node)) (sym spot) ∙ sym c.far.ensures ∙ c.in-Free.is)
