use Rattle.clipping.proofs.OfFacts.{first_of_fact_is}
use Rattle.clipping.proofs.by_date.first_of_fact.Goals as goal

pub returns : goal.returns
returns g c =
    first_of_fact_is (g.met.S.Sure.ordered c.args.order.now) (g.met.S.Dated.dated c.args.order.now) c.args.tokens.now c.requires.by_date c.requires.all_live c.args.fact.now c.args.spot c.requires.spot_live c.args.before
    c.count_until-low.result c.count_until-low.ensures c.count_ahead-high.result c.count_ahead-high.ensures c.first_after.result c.first_after.ensures
