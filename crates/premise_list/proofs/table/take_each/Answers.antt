use Rattle.std.proofs.Common.{◌≡◌, ◌≤◌, ◌+◌, ◌-◌, [], ◌∷◌, ◌++◌, map, length, take, drop, ap, subst, sym, ◌∙◌, arith}
use Rattle.std.specs.List.{flat_map, remove}
use Rattle.std.proofs.lemmas.List.{length_push}
use Rattle.tmm_model.specs.Standing.{points_of}
use Rattle.tmm_model.specs.Sorts.{declared_by}
use Rattle.tmm_model.specs.Verdicts.{words_known}
use Rattle.list_theory.proofs.WellNamed.{points_in-few}
use Rattle.premise_list.specs.Past.{Stands, committed_from, without}
use Rattle.premise_list.specs.Words.{facts_of}
use Rattle.premise_list.specs.Table.{placed, moved_down}
use Rattle.premise_list.proofs.TableFacts.{declared_by_parted, rest_of, word_total, words_parted}
use Rattle.premise_list.proofs.Moves.{last_place, rise_more, without-last, words_behind, here_and_behind, length-remove, placed_out, points_out, stands_out, committed_out}
use Rattle.premise_list.proofs.table.take_each.Goals as goal

pub offset_bounds-deref-place : goal.offset_bounds-deref-place
offset_bounds-deref-place c =
    let (low, rest) = last_place c.loop-place.places.items c.pop.new.self.items c.in-Some.place (length c.loop-place.premises.items) c.in-Some.ensures.items c.loop-place.invariant.rise in
    let few = c.loop-place.invariant.few in
    omega arith

pub slice_bounds-word_count-count : goal.slice_bounds-word_count-count
slice_bounds-word_count-count c =
    let (low, rest) = last_place c.loop-place.places.items c.pop.new.self.items c.in-Some.place (length c.loop-place.premises.items) c.in-Some.ensures.items c.loop-place.invariant.rise in
    omega (arith, ap length c.deref.ensures.value)

pub slice_bounds-word_count-start : goal.slice_bounds-word_count-start
slice_bounds-word_count-start c =
    let (low, rest) = last_place c.loop-place.places.items c.pop.new.self.items c.in-Some.place (length c.loop-place.premises.items) c.in-Some.ensures.items c.loop-place.invariant.rise in
    let within : c.in-Some.place ≤ length c.deref.result.now = omega (arith, ap length c.deref.ensures.value) in
    within

pub remove-premise-requires : goal.remove-premise-requires
remove-premise-requires c =
    let (low, rest) = last_place c.loop-place.places.items c.pop.new.self.items c.in-Some.place (length c.loop-place.premises.items) c.in-Some.ensures.items c.loop-place.invariant.rise in
    omega arith

pub overflow_sub-first : goal.overflow_sub-first
overflow_sub-first c =
    let ps = c.loop-place.premises.items in
    let i = c.in-Some.place in
    let total = word_total c.loop-place.words.entries ps c.loop-place.invariant.indexed in
    let parted = words_parted i ps in
    let behind = c.word_count-behind.ensures.value ∙ ap (λ l. length (words_known l)) (rest_of i c.deref.result.now ps c.deref.ensures.value) in
    omega (arith, c.len.ensures.len)

pub undeclare-requires : goal.undeclare-requires
undeclare-requires c =
    let ps = c.loop-place.premises.items in
    let i = c.in-Some.place in
    let p = c.remove-premise.result in
    let (low, rest) = last_place c.loop-place.places.items c.pop.new.self.items i (length ps) c.in-Some.ensures.items c.loop-place.invariant.rise in
    let at = here_and_behind i ps p low c.remove-premise.ensures.value in
    let total = word_total c.loop-place.words.entries ps c.loop-place.invariant.indexed in
    let parted = words_parted i ps in
    let own = words_behind i ps p at in
    let facts : length c.facts_of.result.now ≡ length (facts_of p) = ap length c.facts_of.ensures.value in
    let behind = c.word_count-behind.ensures.value ∙ ap (λ l. length (words_known l)) (rest_of i c.deref.result.now ps c.deref.ensures.value) in
    record { within = omega (arith, c.len.ensures.len) }

pub overflow_add-points : goal.overflow_add-points
overflow_add-points c =
    let few = points_in-few c.args.premises.now.items in
    let points = c.loop-place.invariant.points in
    let one = c.point_count-points.ensures.few in
    omega (arith, c.requires.few)

pub loop-place-preserved : goal.loop-place-preserved
loop-place-preserved c =
    let ps = c.loop-place.premises.items in
    let is = c.pop.new.self.items in
    let i = c.in-Some.place in
    let p = c.remove-premise.result in
    let whole : c.loop-place.places.items ≡ is ++ i ∷ [] = c.in-Some.ensures.items in
    let one_more : length c.loop-place.places.items ≡ length is + 1 = ap length whole ∙ length_push is i in
    let (low, rest) = last_place c.loop-place.places.items is i (length ps) whole c.loop-place.invariant.rise in
    let at = here_and_behind i ps p low c.remove-premise.ensures.value in
    let items : c.remove-premise.new.self.items ≡ remove ps i = c.remove-premise.ensures.items in
    let count : length c.remove-premise.new.self.items + 1 ≡ length ps = ap (λ l. length l + 1) items ∙ length-remove i ps p at in
    let total = word_total c.loop-place.words.entries ps c.loop-place.invariant.indexed in
    let parted = words_parted i ps in
    let behind = c.word_count-behind.ensures.value ∙ ap (λ l. length (words_known l)) (rest_of i c.deref.result.now ps c.deref.ensures.value) in
    let first = c.len.result - c.word_count-behind.result in
    let first_is : first ≡ length (words_known (take i ps)) = omega (arith, c.len.ensures.len) in
    let own : 1 + length c.facts_of.result.now ≡ length (declared_by p) =
    let facts = ap length c.facts_of.ensures.value in
    let parts = ap length (declared_by_parted p) in
    omega arith in
    let points = points_out i ps p at in
    let points_now = ap (λ l. length (flat_map points_of l)) items in
    let inv = c.loop-place.invariant in
    record {
      same = ap (without is) items ∙ sym (without-last is i ps) ∙ ap (λ l. without l ps) (sym whole) ∙ inv.same;
      rise = rise_more i (length c.remove-premise.new.self.items) is (omega arith) rest;
      few = omega (arith, inv.few);
      count = omega (arith, inv.count, c.remove-premise.ensures.len);
      capacity = c.remove-premise.ensures.capacity ∙ inv.capacity;
      indexed =
          c.undeclare.ensures.entries ∙ ap (λ l. take first l ++ map moved_down (drop (first + (1 + length c.facts_of.result.now)) l)) inv.indexed
          ∙ placed_out i ps p (omega arith) at first (1 + length c.facts_of.result.now) first_is own ∙ ap (placed 0) (sym items);
      spare = omega (arith, inv.spare, c.undeclare.ensures.room);
      points = omega (arith, inv.points, c.point_count-points.ensures.value);
      stands = subst (Stands c.keep.new.self) (sym items) (stands_out i ps p at c.loop-place.past c.keep.new.self c.keep.ensures.added c.keep.ensures.kept inv.stands);
      committed = ap (committed_from c.keep.new.self) items ∙ committed_out i ps p at c.loop-place.past c.keep.new.self c.keep.ensures.added c.keep.ensures.kept ∙ inv.committed;
      room = omega (arith, inv.room, c.keep.ensures.room, c.keep.ensures.more.premises);
      more = omega (arith, inv.more, c.keep.ensures.more.premises);
      words = omega (arith, inv.words, c.keep.ensures.more.words);
    }
