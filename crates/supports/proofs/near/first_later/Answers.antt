use Rattle.std.proofs.Common.{◌+◌, ◌<◌, length, arith}
use Rattle.occ_tree.specs.OfLists.{IsTreeOf}
use Rattle.supports.proofs.OfLaterDates.{known_there, clipper_behind, none_until}
use Rattle.supports.proofs.TokenRows.{rows_live}
use Rattle.supports.proofs.near.first_later.Goals as goal

pub date-requires : goal.date-requires
date-requires c = let (class, are) = c.requires.tokens in record { live = known_there c.requires.dates are c.args.i c.index-rows-i.result c.requires.within }

pub date-requires-else-next-rows : goal.date-requires-else-next-rows
date-requires-else-next-rows c =
    let (class, are) = c.requires.tokens in
    let within : c.args.i + 1 < length c.args.rows.now = omega (arith, c.requires.within, c.if-next-rows.false) in
    record { live = known_there c.requires.dates are (c.args.i + 1) c.index-rows-next.result within }

pub returns-then-next-rows-clause-none : goal.returns-then-next-rows-clause-none
returns-then-next-rows-clause-none c j lt is =
    let (class, are) = c.requires.tokens in
    let behind = clipper_behind c.requires.dates are c.requires.by_date c.args.i j c.requires.within is in
    omega (arith, behind, lt)

pub count_until-requires-clause-all_live : goal.count_until-requires-clause-all_live
count_until-requires-clause-all_live c =
    let (class, are) = c.requires.tokens in
    let tree : IsTreeOf c.requires.dates.list.0 c.args.order.now.net.now.present c.args.order.now.tree.now = record { seen = c.requires.dates.list.1; dated = c.requires.dates.dated } in
    rows_live tree are

pub count_until-requires-clause-q_live : goal.count_until-requires-clause-q_live
count_until-requires-clause-q_live c = let (class, are) = c.requires.tokens in known_there c.requires.dates are c.args.i c.index-rows-i-2.result c.requires.within

pub returns-clause-none : goal.returns-clause-none
returns-clause-none c = let (class, are) = c.requires.tokens in none_until c.requires.dates are c.args.i c.count_until.result c.index-rows-i-2.result c.requires.within c.count_until.ensures
