use Rattle.std.proofs.Common.{◌≡◌, ◌+◌, [], ◌∷◌, ◌++◌, length, drop, reverse, ap, subst, sym, ◌∙◌, arith}
use Rattle.std.specs.List.{remove}
use Rattle.std.proofs.lemmas.List.{length-append, length-drop, length-take-le, length_push, length-reverse}
use Rattle.premise_list.specs.Past.{RiseBelow, Stands, committed_from, without}
use Rattle.premise_list.proofs.Moves.{last_place, without-last, one_aside, stands_out, committed_out}
use Rattle.premise_list.proofs.table.take_in_one_pass.Goals as goal

pub overflow_add-place : goal.overflow_add-place
overflow_add-place c =
    let (low, rest) = last_place c.loop-place.places.items c.pop.new.self.items c.in-Some.place (length c.loop-place.premises.items) c.in-Some.ensures.items c.loop-place.invariant.rise in
    omega arith

pub move_from-requires-clause-within : goal.move_from-requires-clause-within
move_from-requires-clause-within c =
    let (low, rest) = last_place c.loop-place.places.items c.pop.new.self.items c.in-Some.place (length c.loop-place.premises.items) c.in-Some.ensures.items c.loop-place.invariant.rise in
    omega arith

pub remove-premise-requires : goal.remove-premise-requires
remove-premise-requires c =
    let ps = c.loop-place.premises.items in
    let i = c.in-Some.place in
    let (low, rest) = last_place c.loop-place.places.items c.pop.new.self.items i (length ps) c.in-Some.ensures.items c.loop-place.invariant.rise in
    let long : length c.move_from.new.from.items ≡ i + 1 = ap length c.move_from.ensures.stay ∙ length-take-le (i + 1) ps (omega arith) in
    omega arith

pub loop-place-preserved : goal.loop-place-preserved
loop-place-preserved c =
    let ps = c.loop-place.premises.items in
    let aside = c.loop-place.behind.items in
    let all = ps ++ reverse aside in
    let is = c.pop.new.self.items in
    let i = c.in-Some.place in
    let p = c.remove-premise.result in
    let inv = c.loop-place.invariant in
    let whole : c.loop-place.places.items ≡ is ++ i ∷ [] = c.in-Some.ensures.items in
    let one_more : length c.loop-place.places.items ≡ length is + 1 = ap length whole ∙ length_push is i in
    let (low, rest) = last_place c.loop-place.places.items is i (length ps) whole inv.rise in
    let first = c.move_from.new.from.items in
    let moved = c.move_from.new.to.items in
    let (at, now) = one_aside i ps aside first moved p low c.move_from.ensures.stay c.remove-premise.ensures.value c.move_from.ensures.moved in
    let items : c.remove-premise.new.self.items ++ reverse moved ≡ remove all i = ap (λ l. l ++ reverse moved) c.remove-premise.ensures.items ∙ now in
    let first_long : length first ≡ i + 1 = ap length c.move_from.ensures.stay ∙ length-take-le (i + 1) ps (omega arith) in
    let long : length c.remove-premise.new.self.items ≡ i = omega (arith, c.remove-premise.ensures.len) in
    let moved_long : length moved + (i + 1) ≡ length aside + length ps =
    let both = ap length c.move_from.ensures.moved ∙ length-append aside (reverse (drop (i + 1) ps)) in
    let turned = length-reverse (drop (i + 1) ps) in
    let dropped = length-drop (i + 1) ps in
    omega arith in
    record {
      same = ap (without is) items ∙ sym (without-last is i all) ∙ ap (λ l. without l all) (sym whole) ∙ inv.same;
      rise = subst (λ n. RiseBelow n is) (sym long) rest;
      count = omega (arith, inv.count);
      fewer = omega (arith, inv.fewer);
      capacity = c.remove-premise.ensures.capacity ∙ c.move_from.ensures.capacity.0 ∙ inv.capacity;
      capacity_behind = c.move_from.ensures.capacity.1 ∙ inv.capacity_behind;
      stands = subst (Stands c.keep.new.self) (sym items) (stands_out i all p at c.loop-place.past c.keep.new.self c.keep.ensures.added c.keep.ensures.kept inv.stands);
      committed = ap (committed_from c.keep.new.self) items ∙ committed_out i all p at c.loop-place.past c.keep.new.self c.keep.ensures.added c.keep.ensures.kept ∙ inv.committed;
      room = omega (arith, inv.room, c.keep.ensures.room, c.keep.ensures.more.premises);
      more = omega (arith, inv.more, c.keep.ensures.more.premises);
      words = omega (arith, inv.words, c.keep.ensures.more.words);
    }
