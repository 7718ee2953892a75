use Rattle.std.proofs.Common.{◌≡◌, ◌<◌, ◌+◌, true, [], ◌∷◌, ◌++◌, length, ap, subst, sym, ◌∙◌, arith, vec_len, vec_capacity}
use Rattle.std.specs.Result.{is_ok}
use Rattle.std.specs.List.{insert}
use Rattle.std.proofs.lemmas.List.{length_push}
use Rattle.premise_list.specs.Past.{Fits, restored}
use Rattle.premise_list.proofs.Moves.{Fits-last, restored-last, length-insert}
use Rattle.premise_list.proofs.table.put_each.Goals as goal

pub insert-room-requires : goal.insert-room-requires
insert-room-requires c =
    let ts = c.pop.new.self.items in
    let t = c.in-Some.field-0 in
    let whole : c.loop-place.taken.items ≡ ts ++ t ∷ [] = c.in-Some.ensures.items in
    let fits = Fits-last ts t (length c.loop-place.premises.items) (subst (λ l. Fits l (length c.loop-place.premises.items)) whole c.loop-place.invariant.fits) in
    omega (arith, fits.0)

pub loop-place-preserved : goal.loop-place-preserved
loop-place-preserved c =
    let ts = c.pop.new.self.items in
    let t = c.in-Some.field-0 in
    let ps = c.loop-place.premises.items in
    let whole : c.loop-place.taken.items ≡ ts ++ t ∷ [] = c.in-Some.ensures.items in
    let one_more : length c.loop-place.taken.items ≡ length ts + 1 = ap length whole ∙ length_push ts t in
    let fits = Fits-last ts t (length ps) (subst (λ l. Fits l (length ps)) whole c.loop-place.invariant.fits) in
    let room : vec_len c.loop-place.premises < vec_capacity c.loop-place.premises = omega arith in
    let succeeds : is_ok c.insert-room.result ≡ true = c.insert-room.ensures.succeeds room in
    let inserted : c.insert-room.new.self.items ≡ insert ps t.place t.premise = rw succeeds at c.insert-room.ensures.items in
    let long : vec_len c.insert-room.new.self ≡ vec_len c.loop-place.premises + 1 = rw succeeds at c.insert-room.ensures.len in
    record {
      same = ap (restored ts) inserted ∙ sym (restored-last ts t ps) ∙ ap (λ l. restored l ps) (sym whole) ∙ c.loop-place.invariant.same;
      fits = subst (Fits ts) (sym (ap length inserted ∙ length-insert t.place ps t.premise)) fits.1;
      room = omega (arith, c.insert-room.ensures.capacity);
    }
