use Rattle.std.proofs.Common.{◌∙◌, sym, subst, inl, inr}
use Rattle.occ_tree.specs.Places.{forest}
use Rattle.bearing.specs.Reach.{IsOff}
use Rattle.bearing.proofs.points_of_class.is_class_at.Goals as goal

pub returns-else-is_in : goal.returns-else-is_in
returns-else-is_in c is p at = elim at [
  | inl start ↦ subst (IsOff (forest c.args.tree.now) c.args.points.now) (sym start) (sym c.is_in.ensures ∙ c.if-is_in.false)
  | inr spot ↦ c.has_token_at.ensures is p spot
]
