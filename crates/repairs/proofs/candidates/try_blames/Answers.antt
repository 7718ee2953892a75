use Rattle.std.proofs.Common.{◌≡◌, ◌∙◌, ◌+◌, ap, subst, take, map, [], ◌∷◌, ◌++◌}
use Rattle.std.proofs.lemmas.List.{map-append}
use Rattle.tmm_model.specs.Answers.{blame_of}
use Rattle.repairs.specs.Aims.{GrowsBy}
use Rattle.repairs.specs.Repairs.{IsRepair, added_against}
use Rattle.repairs.proofs.Growing.{Grows-step, one_more}
use Rattle.repairs.proofs.candidates.try_blames.Goals as goal

pub loop-blame-preserved : goal.loop-blame-preserved
loop-blame-preserved g c =
    let s = g.M.MapCore.list c.args.core.now in
    let blames = c.args.blames.now in
    let one : take (c.loop-blame.blame-index + 1) blames ≡ take c.loop-blame.blame-index blames ++ c.blame-item.result ∷ [] = one_more blames c.loop-blame.blame-index c.blame-item.result c.loop-blame-test.true c.blame-item.is in
    let next : map blame_of (take (c.loop-blame.blame-index + 1) blames) ≡ map blame_of (take c.loop-blame.blame-index blames) ++ blame_of c.blame-item.result ∷ [] =
    ap (map blame_of) one ∙ map-append blame_of (take c.loop-blame.blame-index blames) (c.blame-item.result ∷ []) in
    let more : GrowsBy s c.args.aim.now (added_against c.args.extent.now.from c.args.extent.now.to (blame_of c.blame-item.result)) c.loop-blame.fixes.items c.try_blame.new.fixes.items =
    subst (λ l. GrowsBy l c.args.aim.now (added_against c.args.extent.now.from c.args.extent.now.to (blame_of c.blame-item.result)) c.loop-blame.fixes.items c.try_blame.new.fixes.items) c.loop-blame.invariant.0
    c.in_ok-try_blame.ensures.fixes in (
      c.in_ok-try_blame.ensures.list ∙ c.loop-blame.invariant.0,
      c.in_ok-try_blame.ensures.idle,
      Grows-step (IsRepair s c.args.aim.now.name) (added_against c.args.extent.now.from c.args.extent.now.to) (map blame_of (take c.loop-blame.blame-index blames)) (map blame_of (take (c.loop-blame.blame-index + 1) blames))
          (blame_of c.blame-item.result) c.args.fixes.now.items c.loop-blame.fixes.items c.try_blame.new.fixes.items next c.loop-blame.invariant.2 more,
    )
