use Rattle.std.proofs.Common.{◌≡◌, ◌⊎◌, ◌∙◌, ◌-◌, false, ℕ, List, length, length-drop, drop, ap, subst, arith}
use Rattle.std.proofs.lemmas.List.{take_all}
use Rattle.dist_net.specs.Changes.{Listed, AreNumbersListed, AreAmong}
use Rattle.dist_net.proofs.Listing.{fewer_listed}
use Rattle.dist_net.proofs.changes.Changes.list_moved.Goals as goal

pub returns-clause-moved : goal.returns-clause-moved
returns-clause-moved c =
    let places_are : c.deref.result.now ≡ c.args.self.now.places = c.deref.ensures.value ∙ ap (λ (s : Listed). s.places) c.self.view_is in
    let listed : List ℕ = drop c.args.before c.deref.result.now in
    let fewer : AreAmong c.gather_numbers.new.from c.list_fewer.new.moved ⊎ AreAmong c.gather_numbers.new.to c.list_fewer.new.moved =
    subst (λ (t : List ℕ). AreAmong c.gather_numbers.new.from c.list_fewer.new.moved ⊎ AreAmong t c.list_fewer.new.moved) c.list-2.ensures.list
    (subst (λ (t : List ℕ). AreAmong t c.list_fewer.new.moved ⊎ AreAmong c.list-2.result.now c.list_fewer.new.moved) c.list.ensures.list c.list_fewer.ensures.listed) in
    subst (λ (t : List ℕ). AreNumbersListed (drop c.args.before t) false c.list_fewer.new.moved) places_are
    (subst (λ (t : List ℕ). AreNumbersListed t false c.list_fewer.new.moved) (take_all (length c.deref.result.now - c.args.before) listed (omega (arith, length-drop c.args.before c.deref.result.now)))
    (fewer_listed _ c.gather_numbers.new.from c.gather_numbers.new.to _ c.gather_numbers.ensures fewer))
