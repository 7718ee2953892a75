use Rattle.std.proofs.lemmas.Bool.{false≢true}
use Rattle.std.proofs.Common.{Bool, true, false, not, refl}
use Rattle.std.specs.Prelude.{IsTrue}
use Rattle.std.proofs.lemmas.List.Elements.{All-contains}
use Rattle.dist_repair.specs.Rows.{IsHeld}
use Rattle.dist_repair.proofs.Left.{IsNet}
use Rattle.dist_repair.proofs.Keeping.{KeepsRow-loose}
use Rattle.dist_repair.proofs.keeps_row.Goals as goal

either : (b : Bool) → IsTrue (not b) → IsTrue b → ⊥
either true loose tight = false≢true loose
either false loose tight = false≢true tight

pub returns-then-has : goal.returns-then-has
returns-then-has c answer = (All-contains (IsHeld c.args.net.now.present c.args.place) c.args.held.now c.args.a c.requires.held (c.if-has.ensures refl)).1

pub returns : goal.returns
returns c answer =
    let known : IsNet c.args.net.now.present = record { places = c.invariants.ensures.names; used = c.invariants.ensures.in_use; light = c.invariants.ensures.light; dates = c.invariants.ensures.dates } in
    KeepsRow-loose c.args.net.now.present c.args.place known c.requires.place c.args.a (λ tight. either c.is_tight.result answer (c.is_tight.ensures.1 tight))
