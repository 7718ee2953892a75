use Rattle.std.proofs.Common.{◌∙◌, ℕ, List, sym, subst}
use Rattle.std.specs.List.{Contains}
use Rattle.occ_tree.specs.Places.{forest}
use Rattle.map_engine.proofs.Finding.{on_ok}
use Rattle.map_engine.proofs.Ruled.{none_ruled}
use Rattle.map_engine.proofs.touching.push_ruled.Goals as goal

pub returns-then-not-ruling-clause-pushed : goal.returns-then-not-ruling-clause-pushed
returns-then-not-ruling-clause-pushed c = λ s net ruling current.
    none_ruled (forest c.args.nodes.now.tree) s.premises c.args.edit.now c.args.found.now.items (sym ruling ∙ c.if-not-ruling.true)

pub returns-clause-pushed : goal.returns-clause-pushed
returns-clause-pushed c =
    on_ok _ _
    (λ has s net ruling current kind changes x event. has x (subst (λ (l : List ℕ). Contains l x) (sym c.as_slice.ensures.value) (c.in_ok-ruled.ensures s net current kind changes x event)))
    c.push_numbers.result c.push_numbers.ensures.pushed
