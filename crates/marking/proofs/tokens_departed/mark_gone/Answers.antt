use Rattle.std.proofs.Common.{refl, sym, subst}
use Rattle.std.specs.List.{All}
use Rattle.occ_tree.specs.Places.{forest}
use Rattle.occ_tree.proofs.Numbered.{no_more}
use Rattle.bearing.specs.Gone.{IsBehindGone}
use Rattle.marking.proofs.Waking.{ok_then}
use Rattle.marking.proofs.tokens_departed.mark_gone.Goals as goal

pub returns-in_err-number-clause-last : goal.returns-in_err-number-clause-last
returns-in_err-number-clause-last c = record { rows = refl; rules = no_more c.args.decisions.now.rules; classes = c.enter.ensures.more }

pub returns-in_err-walls-clause-last : goal.returns-in_err-walls-clause-last
returns-in_err-walls-clause-last c = record { rows = refl; rules = no_more c.args.decisions.now.rules; classes = c.enter.ensures.more }

pub wake_under-requires-clause-walls : goal.wake_under-requires-clause-walls
wake_under-requires-clause-walls c =
    subst (All (IsBehindGone c.args.net.now.committed (forest c.args.tree.now) c.args.gone.now)) (sym c.deref.ensures.value) c.in_ok-walls.ensures

pub returns-clause-ok : goal.returns-clause-ok
returns-clause-ok c =
    ok_then c.wake_under.result
    (λ wakes. record { rows = refl; rules = refl; number = c.in_ok-number.number; numbered = c.in_ok-number.ensures.entered; wakes = wakes })
    c.wake_under.ensures

pub returns-clause-last : goal.returns-clause-last
returns-clause-last c = record { rows = refl; rules = no_more c.args.decisions.now.rules; classes = c.enter.ensures.more }
