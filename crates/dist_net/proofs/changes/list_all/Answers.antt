use Rattle.std.proofs.Common.{inl, inr, sym, subst, arith}
use Rattle.std.specs.List.{Contains}
use Rattle.std.proofs.lemmas.Bool.{cases_eq}
use Rattle.dist_net.proofs.changes.list_all.Goals as goal

pub loop-p-preserved : goal.loop-p-preserved
loop-p-preserved c = (
  λ p m. c.add.ensures.kept p (c.loop-p.invariant.0 p m),
  λ p lt. elim (cases_eq p c.loop-p.p) [
    | inl same ↦ subst (Contains c.add.new.self) (sym same) c.add.ensures.listed
    | inr other ↦ c.add.ensures.kept p (c.loop-p.invariant.1 p (omega (arith, other, lt)))
  ],
)
