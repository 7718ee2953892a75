use Rattle.std.proofs.Common.{◌≡◌, List, Bool, true, subst, arith}
use Rattle.std.specs.Prelude.{◌↔◌}
use Rattle.bearing.specs.PointSets.{PutsIn, Meet}
use Rattle.bearing.specs.Touching.{LeadsInto, IsLedToFrom}
use Rattle.bearing.proofs.Sets.{puts_into_none, none_of}
use Rattle.bearing.proofs.Touched.{all_touched}
use Rattle.bearing.proofs.events_touched.touched_by.Goals as goal

pub returns : goal.returns
returns c =
    let pairs = c.args.pairs.now in
    let reach = c.args.reach.now in
    let first = c.in_ok-all.all.items in
    let mid = c.put_before.new.into.items in
    let other = c.in_ok-bounded.bounded.items in (
      all_touched pairs reach first mid c.put_every.new.into.items c.meet-within.result
          (none_of first 256 (c.in_ok-all.ensures.items_if_clones_equal (λ y e. e)))
          (omega (arith, c.in_ok-all.ensures.len, c.in_ok-all.all.ok.0)) c.requires.places.all
          (subst (λ (l : List Bool). PutsIn (LeadsInto pairs l) first mid) c.deref.ensures.value c.put_before.ensures)
          (subst (λ (l : List Bool). (c.meet-within.result ≡ true) ↔ Meet l mid) c.deref-2.ensures.value (subst (λ (l : List Bool). (c.meet-within.result ≡ true) ↔ Meet c.deref-2.result.now l) c.deref-3.ensures.value c.meet-within.ensures))
          c.put_every.ensures,
      puts_into_none (IsLedToFrom pairs reach.all.items) other c.put_behind.new.into.items
          (none_of other 256 (c.in_ok-bounded.ensures.items_if_clones_equal (λ y e. e)))
          (omega (arith, c.in_ok-bounded.ensures.len, c.in_ok-bounded.bounded.ok.0))
          (subst (λ (l : List Bool). PutsIn (IsLedToFrom pairs l) other c.put_behind.new.into.items) c.deref-4.ensures.value c.put_behind.ensures),
    )
