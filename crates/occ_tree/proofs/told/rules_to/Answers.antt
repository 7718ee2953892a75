use Rattle.std.proofs.Common.{◌≡◌, ◌∙◌, ◌++◌, ◌∷◌, ◌-◌, [], List, ℕ, length, take, drop, map, refl, sym, ap, arith}
use Rattle.std.proofs.lemmas.List.{length-drop, take_all}
use Rattle.occ_tree.specs.Nodes.{name_at, way_to}
use Rattle.occ_tree.specs.Standing.{nodes_in, present_rows}
use Rattle.occ_tree.proofs.Telling.{rules_told}
use Rattle.occ_tree.proofs.told.rules_to.Goals as goal

pub returns : goal.returns
returns c =
    let node = nodes_in (present_rows c.args.nodes.now) in
    let numbers = (way_to node c.args.x).numbers in
    let slice : List (List ℕ) = c.as_slice.result.now in
    let tail = take (length slice - 1) (drop 1 slice) in
    let long = length-drop 1 slice in
    c.in_ok-extend.ensures.ok
    ∙ ap (λ (u : List (List ℕ)). u ++ tail) c.make-rules.ensures
    ∙ take_all (length slice - 1) (drop 1 slice) (omega (arith, long))
    ∙ ap (λ (u : List (List ℕ)). drop 1 u) (c.as_slice.ensures.value ∙ c.in_ok-names.ensures)
    ∙ behind numbers
    ∙ sym (rules_told node c.get.ensures.stands.placed c.args.x c.get.result.now c.get.ensures.node)
  where
    behind : (u : List ℕ) → drop 1 (map (name_at (nodes_in (present_rows c.args.nodes.now))) u) ≡ map (name_at (nodes_in (present_rows c.args.nodes.now))) (drop 1 u)
    behind [] = refl
    behind (y ∷ u) = refl
