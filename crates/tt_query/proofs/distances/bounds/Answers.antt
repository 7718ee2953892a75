use Rattle.std.proofs.Common.{◌∙◌, ap}
use Rattle.tmm_model.specs.Bounds.{bound_negated}
use Rattle.spots.proofs.Seen.{distance_is}
use Rattle.occ_tree.specs.Places.{forest}
use Rattle.tt_query.proofs.distances.bounds.Goals as goal

pub returns-clause-low : goal.returns-clause-low
returns-clause-low c s seen =
    c.negated.ensures ∙ ap bound_negated (c.far.ensures.exact ∙ distance_is s c.args.net.now.present (forest c.args.tree.now) seen c.args.q c.args.p c.requires.q c.requires.p)

pub returns-clause-high : goal.returns-clause-high
returns-clause-high c s seen = c.far-2.ensures.exact ∙ distance_is s c.args.net.now.present (forest c.args.tree.now) seen c.args.p c.args.q c.requires.p c.requires.q
