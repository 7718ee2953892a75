use Rattle.std.proofs.Common.{◌∙◌, ◌++◌, sym}
use Rattle.tmm_model.specs.declared.point.PointName.TheVariants.{Begin}
use Rattle.tmm_model.specs.Moments.{At}
use Rattle.tmm_model.specs.Points.{slashed}
use Rattle.belief_list.proofs.Heads.{printed_along}
use Rattle.belief_list.proofs.told_changes.word_of.Goals as goal

pub returns : goal.returns
returns c =
    c.in_ok-put_links.ensures.ok
    ∙ (λ i. c.in_ok-extend.ensures.ok i ++ slashed (c.items.ensures i))
    ∙ (λ i. (c.make-word.ensures i ++ c.bytes.ensures.value i) ++ slashed c.args.occ.now.rules.items)
    ∙ sym (printed_along (At (Begin c.args.occ.now.root)) c.args.occ.now.rules.items)
