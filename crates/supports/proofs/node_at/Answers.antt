use Rattle.std.proofs.Common.{◌∙◌, sym, ap, subst}
use Rattle.std.proofs.lemmas.List.{get_or_read}
use Rattle.supports.specs.Nodes.{IsOfNode}
use Rattle.supports.proofs.node_at.Goals as goal

pub node_of-requires : goal.node_of-requires
node_of-requires c = subst IsOfNode (sym c.index-rows-place.is) (c.requires.nodes c.args.place c.index-rows-place.result c.requires.within)

pub returns : goal.returns
returns c d = ap (λ row. row.spot) (sym (get_or_read c.args.rows.now c.args.place c.index-rows-place.result c.requires.within c.index-rows-place.is d)) ∙ c.node_of.ensures
