use Rattle.std.proofs.Common.{◌≡◌, ◌∙◌, ◌∷◌, ◌++◌, [], ap}
use Rattle.std.proofs.lemmas.List.{append_assoc}
use Rattle.occ_tree.specs.Standing.{present_rows}
use Rattle.occ_tree.proofs.Gone.{last_live, last_leaf}
use Rattle.occ_tree.proofs.leaving.leave_all.Goals as goal

pub leave-requires-clause-live : goal.leave-requires-clause-live
leave-requires-clause-live c =
    let (top, below) = c.requires.below in
    let (back, split, is) = c.loop-x.invariant.gone in
    let left = c.pop.new.self.items in
    let y = c.in-Some.x in
    let parts : c.args.numbers.items ≡ left ++ y ∷ back = split ∙ ap (λ l. l ++ back) c.in-Some.ensures.items ∙ append_assoc left (y ∷ []) back in
    last_live (present_rows c.args.nodes.now) (present_rows c.loop-x.nodes) top c.args.numbers.items left y back below parts is

pub leave-requires-clause-leaf : goal.leave-requires-clause-leaf
leave-requires-clause-leaf c =
    let (top, below) = c.requires.below in
    let (back, split, is) = c.loop-x.invariant.gone in
    let left = c.pop.new.self.items in
    let y = c.in-Some.x in
    let parts : c.args.numbers.items ≡ left ++ y ∷ back = split ∙ ap (λ l. l ++ back) c.in-Some.ensures.items ∙ append_assoc left (y ∷ []) back in
    last_leaf (present_rows c.args.nodes.now) (present_rows c.loop-x.nodes) top c.args.numbers.items left y back below parts is
