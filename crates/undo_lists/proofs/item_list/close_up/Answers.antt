use Rattle.std.proofs.Common.{◌≡◌, ◌+◌, ◌-◌, ◌<◌, length, drop, ap, ◌∙◌, arith, remove}
use Rattle.std.proofs.lemmas.List.{take_at}
use Rattle.undo_lists.proofs.Shifted.{length-closed, closed_up}
use Rattle.undo_lists.proofs.item_list.close_up.Goals as goal
use borrow.Rule.Slice.PartMut.{put_mid}

pub returns-clause-items : goal.returns-clause-items
returns-clause-items g c =
    let start = c.args.start in
    let count = c.args.count in
    let lent = c.deref_mut.result.now in
    let turned = c.rotate_right.new.self in
    let k = start + count + 1 - start in
    let is_k : k ≡ count + 1 = omega arith in
    let is : lent ≡ c.args.places.now.items = c.deref_mut.ensures.value in
    let within : start + count < length lent = omega (arith, c.requires, c.deref_mut.ensures.len) in
    let back = put_mid start k lent turned in
    let long : length back ≡ c.args.places.now.len = length-closed lent start count k turned is_k within c.rotate_right.ensures.after ∙ c.deref_mut.ensures.len in
    ap (drop (start + 1)) (take_at back (drop (length back) c.args.places.now.items) c.args.places.now.len long)
    ∙ closed_up lent start count k turned is_k within c.rotate_right.ensures.after
    ∙ ap (λ l. remove (drop start l) count) is
