use Rattle.std.proofs.Common.{◌≡◌, ◌∙◌, ℕ, List, arith, sym, subst}
use Rattle.std.proofs.lemmas.Bool.{false≢true}
use Rattle.dist_repair.specs.Held.{AreMarked}
use Rattle.dist_repair.proofs.held.Held.none.Goals as goal

pub invariant_of-result : goal.invariant_of-result
invariant_of-result c =
    let all : c.loop.counter ≡ 256 = omega (arith, c.loop-test.false, c.loop.auto.counter-end) in
    subst (λ (l : List ℕ). AreMarked l c.loop.marks.items) (sym c.new.ensures) (record {
      small = λ k d below. absurd (omega (arith, below));
      all = c.loop.invariant.0 ∙ all;
      listed = λ p marked. absurd (false≢true (sym (c.loop.invariant.1 p) ∙ marked));
    })
