use Rattle.tmm_model.specs.Tokens.{of_one_class}
use Rattle.clipping.proofs.RuledOut.{first_clip_is}
use Rattle.clipping.proofs.by_date.first_clip.Goals as goal

pub returns : goal.returns
returns g c =
    first_clip_is of_one_class (g.met.S.Sure.ordered c.args.order.now) (g.met.S.Dated.dated c.args.order.now) c.args.tokens.now c.requires.by_date c.requires.all_live c.args.k.now c.requires.k_live c.args.until c.requires.until_live
    c.count_until-low.result c.count_until-low.ensures c.count_reached-high.result c.count_reached-high.ensures c.first_between.result c.first_between.ensures
