use Rattle.std.proofs.Common.{◌≡◌, ◌<◌, ◌≤◌, ◌∙◌, ◌+◌, ◌++◌, [], ◌∷◌, Some, length, take, sym, ap, subst, arith}
use Rattle.std.proofs.lemmas.Bool.{not-true, not-false}
use Rattle.std.specs.Prelude.{slice_index_or}
use Rattle.std.proofs.lemmas.List.{take_all, take_more}
use Rattle.tmm_model.specs.Points.{same_name}
use Rattle.spots.specs.declared.spot.Spot.TheVariants.{Node}
use Rattle.spots.specs.Spots.{spot_distance}
use Rattle.occ_tree.specs.Places.{forest}
use Rattle.revisions.specs.Walls.{begins_by}
use Rattle.bearing.specs.Windows.{net_in, tree_in}
use Rattle.bearing.proofs.Spared.{Seen, seen_all, seen_not, seen_first, seen_same, seen_other}
use Rattle.bearing.proofs.moving_tokens.Window.is_walled.Goals as goal
use Rattle.bearing.proofs.moving_tokens.Window.is_walled.Goals.{then-has_begun+in-Some+else-ne, then-has_begun+in-None, else-has_begun}

pub returns-then-ne : goal.returns-then-ne
returns-then-ne c =
    let far = spot_distance (net_in c.args.self.now) (forest (tree_in c.args.self.now)) in
    let walls = c.args.self.now.walls.items in
    let i = c.loop-wall.wall-index in
    let w = c.wall-item.result in
    let same = c.deref-wall-items.ensures.value in
    let within : i < length walls = subst (λ l. i < length l) same (omega (arith, c.loop-wall-test.true)) in
    let is : w ≡ slice_index_or walls i w = c.wall-item.is ∙ ap (λ l. slice_index_or l i w) same in
    let seen = subst (λ o. Seen far c.args.event o (take i walls)) c.in-Some.is c.loop-wall.invariant in
    let begun = sym c.has_begun.ensures ∙ c.if-has_begun.true in
    sym (seen_other far c.args.event c.in-Some.fact walls i w within seen (ap (begins_by far (Node c.args.event)) (sym is) ∙ begun)
    (ap (λ z. same_name c.in-Some.fact z.fact) (sym is) ∙ not-true (same_name c.in-Some.fact w.fact) (sym c.if-ne.ensures)))

pub loop-wall-preserved : goal.loop-wall-preserved
loop-wall-preserved c =
    let far = spot_distance (net_in c.args.self.now) (forest (tree_in c.args.self.now)) in
    let walls = c.args.self.now.walls.items in
    let i = c.loop-wall.wall-index in
    let w = c.wall-item.result in
    let same = c.deref-wall-items.ensures.value in
    let within : i < length walls = subst (λ l. i < length l) same (omega (arith, c.loop-wall-test.true)) in
    let is : w ≡ slice_index_or walls i w = c.wall-item.is ∙ ap (λ l. slice_index_or l i w) same in
    let more : take i walls ++ w ∷ [] ≡ take (i + 1) walls = ap (λ z. take i walls ++ z ∷ []) is ∙ sym (take_more walls i w within) in
    elim c.if-has_begun.branch [
      | then-has_begun+in-Some+else-ne b ↦
          let seen = subst (λ o. Seen far c.args.event o (take i walls)) b.in-Some.is c.loop-wall.invariant in
          subst (λ o. Seen far c.args.event o (take (i + 1) walls)) (sym b.first-is)
          (subst (Seen far c.args.event (Some b.in-Some.fact)) more (seen_same far c.args.event b.in-Some.fact (take i walls) w seen (not-false (same_name b.in-Some.fact w.fact) (sym b.if-ne.ensures))))
      | then-has_begun+in-None b ↦
          let seen = subst (λ o. Seen far c.args.event o (take i walls)) b.in-None.is c.loop-wall.invariant in
          subst (λ o. Seen far c.args.event o (take (i + 1) walls)) (sym b.first-is)
          (subst (Seen far c.args.event (Some w.fact)) more (seen_first far c.args.event (take i walls) w seen (sym c.has_begun.ensures ∙ b.if-has_begun.true)))
      | else-has_begun b ↦
          subst (λ o. Seen far c.args.event o (take (i + 1) walls)) (sym b.first-is)
          (subst (Seen far c.args.event c.loop-wall.first) more (seen_not far c.args.event c.loop-wall.first (take i walls) w c.loop-wall.invariant (sym c.has_begun.ensures ∙ b.if-has_begun.false)))
    ]

pub returns : goal.returns
returns c =
    let far = spot_distance (net_in c.args.self.now) (forest (tree_in c.args.self.now)) in
    let walls = c.args.self.now.walls.items in
    let over : length walls ≤ c.loop-wall.wall-index = subst (λ l. length l ≤ c.loop-wall.wall-index) c.deref-wall-items.ensures.value (omega (arith, c.loop-wall-test.false)) in
    sym (seen_all far c.args.event c.loop-wall.first walls (subst (Seen far c.args.event c.loop-wall.first) (take_all c.loop-wall.wall-index walls (omega (arith, over))) c.loop-wall.invariant))
