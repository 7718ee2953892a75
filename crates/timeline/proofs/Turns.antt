-- The turn of a line `timeline`.
use Rattle.std.proofs.Common.{ℕ, ◌<◌, ◌≤◌, true, false, [], refl}
use Rattle.mode_session.specs.ModeSteps.{OwnStep}
use Rattle.replies.specs.Timelines.{timeline_text}
use Rattle.tmm_model.specs.declared.mode.ModeLine.TheVariants.{Timeline as TheTimeline}
use Rattle.tmm_model.specs.declared.refusal.Refusal.{Refusal}
use Rattle.tmm_model.specs.declared.refusal.Refusal.TheVariants.{LimitLine, Form, Taken, Unknown, Sort, LimitPremises, LimitPoints, Cycle, LimitSize}
use Rattle.tmm_model.specs.declared.refusal.Stop.TheVariants.{Refused as Stopped}
use Rattle.tmm_model.specs.declared.timeline.Timeline.{Timeline}
use Rattle.tmm_model.specs.declared.turn.Turn.{Turn}
use Rattle.tmm_model.specs.declared.turn.Turn.TheVariants.{Silent, Reply, Memory}
use Rattle.tmm_model.specs.Answers.{most_size}
use Rattle.tmm_model.specs.Maps.{built}
use Rattle.tmm_model.specs.Replies.{Refused, text_of}
use Rattle.tmm_model.specs.Standing.{Standing}
use Rattle.timeline.specs.Days.{played_size}
use Rattle.timeline.specs.Steps.{TimelineOwn, is_told, is_large, IsReply}
use Rattle.timeline.specs.Told.{IsTimeline, StopsTimeline}

-- a timeline is told
pub told : (s : Standing) (k : ℕ) (t : Timeline) (turn : Turn) → played_size (built s) ≤ most_size → IsTimeline (built s) t → IsReply (timeline_text k t) false turn → OwnStep TimelineOwn s k [] TheTimeline turn s
told s k t Silent small is reply = reply
told s k t Memory small is reply = refl
told s k t (Reply bytes refused) small is reply = (is_told t small is reply.0 reply.1, refl)

-- what occurs is too large
large : (s : Standing) (k : ℕ) (turn : Turn) → most_size < played_size (built s) → IsReply (text_of k (Refused LimitSize)) true turn → OwnStep TimelineOwn s k [] TheTimeline turn s
large s k Silent over reply = reply
large s k Memory over reply = refl
large s k (Reply bytes refused) over reply = (is_large over reply.0 reply.1, refl)

pub turned_down : (s : Standing) (k : ℕ) (refusal : Refusal) (turn : Turn) → StopsTimeline (built s) (Stopped refusal) → IsReply (text_of k (Refused refusal)) true turn → OwnStep TimelineOwn s k [] TheTimeline turn s
turned_down s k LimitSize turn over reply = large s k turn over reply
turned_down s k LimitLine turn never reply = absurd never
turned_down s k Form turn never reply = absurd never
turned_down s k (Taken word) turn never reply = absurd never
turned_down s k (Unknown word) turn never reply = absurd never
turned_down s k (Sort word) turn never reply = absurd never
turned_down s k LimitPremises turn never reply = absurd never
turned_down s k LimitPoints turn never reply = absurd never
turned_down s k (Cycle sum steps) turn never reply = absurd never
