use Rattle.clipping.specs.Rivals.{are_rivals}
use Rattle.clipping.proofs.RuledOut.{first_clip_is}
use Rattle.clipping.proofs.across.first_rival.Goals as goal

pub returns : goal.returns
returns g c =
    first_clip_is (are_rivals (g.R.Rivals.against c.args.rivals.now)) (g.met.S.Sure.ordered c.args.order.now) (g.met.S.Dated.dated c.args.order.now) c.args.tokens.now c.requires.by_date c.requires.all_live c.args.k.now c.requires.k_live c.args.until c.requires.until_live
    c.count_until-low.result c.count_until-low.ensures c.count_reached-high.result c.count_reached-high.ensures c.first_rival_between.result c.first_rival_between.ensures
