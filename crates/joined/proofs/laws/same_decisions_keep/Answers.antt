use Rattle.undo_rows.specs.Changes.{present}
use Rattle.joined.proofs.Kept.{decides_is, kept_on}
use Rattle.joined.proofs.laws.same_decisions_keep.Goals as goal

pub returns : goal.returns
returns c = λ old edit net f rows after name waits waits_after taken x p found k due right alike d no_more.
    kept_on old edit net f (present rows) (present after) name waits waits_after taken x p found k due right alike (decides_is rows after name waits waits_after x p found due.row d no_more)
