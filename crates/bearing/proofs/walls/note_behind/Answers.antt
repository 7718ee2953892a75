use Rattle.std.proofs.Common.{true, subst, sym}
use Rattle.std.proofs.lemmas.List.Elements.{All-push}
use Rattle.std.specs.List.{Contains}
use Rattle.std.specs.Prelude.{negsuc}
use Rattle.bearing.specs.declared.walls.FastToken.{FastToken}
use Rattle.bearing.specs.Places.{net_at, TellsWithin}
use Rattle.bearing.specs.Shifts.{AreBehind}
use Rattle.bearing.proofs.walls.note_behind.Goals as goal

pub returns : goal.returns
returns c tokens listed before =
    let net = net_at c.args.net.now c.args.before in
    subst (AreBehind net c.args.place.now tokens) (sym c.in_ok-push.ensures)
    (All-push (λ (t : FastToken). Contains tokens t × TellsWithin net t.place c.args.place.now (negsuc 0) true) c.args.behind.now.items c.args.token.now before
    (listed, c.is_surely_within.ensures c.if-not-is_surely_within.false))
