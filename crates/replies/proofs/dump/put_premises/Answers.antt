use Rattle.replies.proofs.Dumps.{line_more}
use Rattle.replies.proofs.dump.put_premises.Goals as goal

pub loop-place-preserved : goal.loop-place-preserved
loop-place-preserved c =
    line_more c.args.standing.now.present.premises c.loop-place.place c.premise_at.result.now c.loop-place.out.items c.put_premise.new.out.items _
    c.premise_at.ensures c.in_ok-put_premise.ensures c.loop-place.invariant
