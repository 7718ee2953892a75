use Rattle.std.proofs.Common.{◌∙◌, ◌++◌, ◌∷◌, [], sym, ap, append-nil, take}
use Rattle.std.specs.List.{cons_option}
use Rattle.timeline.specs.Rows.{helds}
use Rattle.timeline.proofs.Held.{helds_more}
use Rattle.timeline.proofs.holding.tokens_of.Goals as goal
use Rattle.timeline.proofs.holding.tokens_of.Goals.{in-Some+in_ok-push, in_default}

pub loop-row-preserved : goal.loop-row-preserved
loop-row-preserved c =
    let more = helds_more c.args.rows.now c.loop-row.row-index c.row-item.result c.loop-row-test.true c.row-item.is in
    elim c.match-row.branch [
      | in-Some+in_ok-push w ↦ ap (λ v. v.items) w.tokens-is ∙ w.in_ok-push.ensures.items ∙ ap (λ l. l ++ w.in-Some.held ∷ []) c.loop-row.invariant ∙ ap (λ o. helds (take c.loop-row.row-index c.args.rows.now) ++ cons_option o []) (sym w.in-Some.is) ∙ sym more
      | in_default w ↦ ap (λ v. v.items) w.tokens-is ∙ c.loop-row.invariant ∙ sym (append-nil (helds (take c.loop-row.row-index c.args.rows.now))) ∙ ap (λ o. helds (take c.loop-row.row-index c.args.rows.now) ++ cons_option o []) (sym w.in_default.is) ∙ sym more
    ]
