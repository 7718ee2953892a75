use Rattle.std.proofs.Common.{true, sym, subst}
use Rattle.std.proofs.lemmas.List.Elements.{All-nil}
use Rattle.std.specs.List.{Contains}
use Rattle.std.specs.Prelude.{negsuc}
use Rattle.dist_net.specs.Net.{IsInUse}
use Rattle.bearing.specs.declared.walls.FastToken.{FastToken}
use Rattle.bearing.specs.Places.{net_at, TellsWithin}
use Rattle.bearing.specs.Shifts.{AreBehind}
use Rattle.bearing.proofs.walls.tokens_behind.Goals as goal

pub loop-i-init : goal.loop-i-init
loop-i-init c =
    subst (AreBehind (net_at c.args.net.now c.args.before) c.args.place.now c.args.tokens.now) (sym c.new-behind.ensures.items)
    (All-nil (λ (t : FastToken). Contains c.args.tokens.now t × TellsWithin (net_at c.args.net.now c.args.before) t.place c.args.place.now (negsuc 0) true))

pub note_behind-requires-clause-token : goal.note_behind-requires-clause-token
note_behind-requires-clause-token c = subst (λ (t : FastToken). IsInUse (net_at c.args.net.now c.args.before).names t.place.base) (sym c.index-tokens-i.is) (c.requires.tokens c.loop-i.i c.index-tokens-i.result c.loop-i-test.true)

pub loop-i-preserved : goal.loop-i-preserved
loop-i-preserved c = c.in_ok-note_behind.ensures c.args.tokens.now (c.loop-i.i, c.loop-i-test.true, sym c.index-tokens-i.is) c.loop-i.invariant
