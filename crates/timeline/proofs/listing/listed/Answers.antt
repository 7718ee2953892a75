use Rattle.std.proofs.Common.{Result, Ok, Err, IfOk}
use Rattle.timeline.proofs.InOrder.{in_order}
use Rattle.timeline.proofs.listing.listed.Goals as goal

-- what follows of a value follows of that of a success
of_value : {A E : Type 0} {P Q : A → Type 0} (r : Result A E) → ((x : A) → P x → Q x) → IfOk r P → IfOk r Q
of_value (Ok x) f p = f x p
of_value (Err e) f p = tt

pub returns : goal.returns
returns c = of_value c.in_order.result (λ rows told. in_order c.args.standing.now.present c.requires.kept.sound c.in_ok-entries.entries.items rows.items c.in_ok-entries.ensures told) c.in_order.ensures
