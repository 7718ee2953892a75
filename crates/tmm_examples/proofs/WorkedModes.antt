-- What single lines say as a mode's own, as the definition computes it.
use Rattle.std.specs.Prelude.{◌≡◌, codes, Some, None, refl}
use Rattle.tmm_model.specs.declared.mode.Mode.TheVariants.{Suppose as Supposing, Agents as Sharing, Repairs as Mending, Timeline as Playing}
use Rattle.tmm_model.specs.declared.mode.ModeLine.TheVariants.{Suppose, Keep, Hold, Commit, Repairs, Timeline}
use Rattle.tmm_model.specs.Lines.{words}
use Rattle.tmm_model.specs.Modes.{own_form}

a_supposition : own_form Supposing (codes "suppose") ≡ Some Suppose
unfolding words
a_supposition = refl

kept : own_form Supposing (codes " keep ") ≡ Some Keep
unfolding words
kept = refl

dropped_with_more : own_form Supposing (codes "drop now") ≡ None
unfolding words
dropped_with_more = refl

committed : own_form Sharing (codes "@p commit") ≡ Some (Commit (codes "p"))
unfolding words
committed = refl

-- an edit from byte 2 on
held : own_form Sharing (codes "@p point a") ≡ Some (Hold (codes "p") 2)
unfolding words
held = refl

no_agent : own_form Sharing (codes "@ p x") ≡ None
unfolding words
no_agent = refl

mended : own_form Mending (codes "repairs g") ≡ Some (Repairs (codes "g"))
unfolding words
mended = refl

played : own_form Playing (codes "timeline") ≡ Some Timeline
unfolding words
played = refl
