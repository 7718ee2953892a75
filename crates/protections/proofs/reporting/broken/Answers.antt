use Rattle.std.proofs.Common.{subst}
use Rattle.std.specs.List.{Contains}
use Rattle.protections.proofs.Protected.{grounded}
use Rattle.protections.proofs.reporting.broken.Goals as goal

pub number_of-requires : goal.number_of-requires
number_of-requires c =
    (grounded c.args.map.now.standing.now.present c.args.map.now.net.now.present c.requires.seen.seen.network c.in-Protect.name c.in-Protect.fact c.in-Protect.from c.in-Protect.to
    (subst (Contains c.args.map.now.standing.now.present.premises) c.in-Protect.is c.requires.stands)).first

pub number_of-requires-in-Protect : goal.number_of-requires-in-Protect
number_of-requires-in-Protect c =
    (grounded c.args.map.now.standing.now.present c.args.map.now.net.now.present c.requires.seen.seen.network c.in-Protect.name c.in-Protect.fact c.in-Protect.from c.in-Protect.to
    (subst (Contains c.args.map.now.standing.now.present.premises) c.in-Protect.is c.requires.stands)).last

pub ask-requires-clause-fact : goal.ask-requires-clause-fact
ask-requires-clause-fact c =
    (grounded c.args.map.now.standing.now.present c.args.map.now.net.now.present c.requires.seen.seen.network c.in-Protect.name c.in-Protect.fact c.in-Protect.from c.in-Protect.to
    (subst (Contains c.args.map.now.standing.now.present.premises) c.in-Protect.is c.requires.stands)).known
