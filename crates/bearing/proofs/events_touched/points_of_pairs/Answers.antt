use Rattle.std.proofs.Common.{◌≡◌, ◌∙◌, ℕ, ◌<◌, List, Bool, true, false, ap, subst}
use Rattle.std.proofs.lemmas.List.{get_or-replicate}
use Rattle.bearing.specs.PointSets.{is_in, PutsIn}
use Rattle.bearing.specs.Touching.{LeadsInto, IsLedToFrom}
use Rattle.bearing.proofs.events_touched.points_of_pairs.Goals as goal

pub returns : goal.returns
returns c a b la lb pair =
    let pairs = c.args.pairs.now in
    let every = c.in_ok-every.every.items in
    let none = c.in_ok-points.points.items in
    let mid = c.put_before.new.into.items in
    let new = c.put_behind.new.into.items in
    let before = subst (λ (l : List Bool). PutsIn (LeadsInto pairs l) none mid) c.deref.ensures.value c.put_before.ensures in
    let behind = subst (λ (l : List Bool). PutsIn (IsLedToFrom pairs l) mid new) c.deref-2.ensures.value c.put_behind.ensures in
    let all : (p : ℕ) → p < 256 → is_in every p ≡ true = λ p less. ap (λ l. is_in l p) (c.in_ok-every.ensures.items_if_clones_equal (λ y e. e)) ∙ get_or-replicate 256 p true false less in (
      behind.kept a (before.all a (b, lb, (la, all b lb, pair))),
      behind.all b (a, la, (lb, all a la, pair)),
    )
