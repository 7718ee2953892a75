use Rattle.std.proofs.Common.{◌≡◌, ◌++◌, drop}
use Rattle.std.specs.List.{flat_map}
use Rattle.tmm_model.specs.Replies.{clip_line}
use Rattle.replies.proofs.details.put_clips.Given as goal

abbrev pub invariant-loop-clip : goal.invariant-loop-clip
invariant-loop-clip l = l.out.items ++ flat_map clip_line (drop l.clip-index l.clips) ≡ l.fn.out.items ++ flat_map clip_line l.clips
