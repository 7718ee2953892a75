use Rattle.std.proofs.Common.{sym, subst}
use Rattle.std.specs.Prelude.{IfSome}
use Rattle.supports.specs.Entries.{AreBranches}
use Rattle.occ_tree.specs.Places.{forest}
use Rattle.supports.proofs.all_clips.far_clip.Goals as goal

-- what was gathered before is of these tokens
pub gathered-requires-clause-before : goal.gathered-requires-clause-before
gathered-requires-clause-before c = subst (λ o. IfSome o (AreBranches (forest c.args.order.now.tree.now) c.args.rows.now)) (sym c.take.ensures.value) c.requires.branches
