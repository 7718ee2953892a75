-- The rows of a map are the believed occurrences in order.
use Rattle.std.proofs.Common.{◌≡◌, ◌∙◌, List, [], ◌∷◌, map, refl, sym, ap}
use Rattle.tmm_model.specs.Answers.{Row, row, rows}
use Rattle.tmm_model.specs.Maps.{TimeMap, built}
use Rattle.tmm_model.specs.Moments.{Moment}
use Rattle.tmm_model.specs.Standing.{Standing}
use Rattle.spots.specs.Forest.{Forest, moment_at}
use Rattle.belief_list.specs.declared.list.BeliefRow.{BeliefRow}
use Rattle.belief_list.specs.Rows.{row_at}
use Rattle.belief_theory.specs.Believed.{believed_in_order}

nodes_of_rows : (f : Forest) (rs : List BeliefRow) → map (λ r. r.occ) (map (row_at f) rs) ≡ map (λ r. moment_at f r.node) rs
nodes_of_rows f [] = refl
nodes_of_rows f (r ∷ rs) = ap (λ l. moment_at f r.node ∷ l) (nodes_of_rows f rs)

occs_of_rows : (m : TimeMap) (xs : List Moment) → map (λ r. r.occ) (map (row m) xs) ≡ xs
occs_of_rows m [] = refl
occs_of_rows m (x ∷ xs) = ap (λ l. x ∷ l) (occs_of_rows m xs)

pub rows_in_order : (s : Standing) (f : Forest) (rs : List BeliefRow) → map (row_at f) rs ≡ rows (built s) → map (λ r. moment_at f r.node) rs ≡ believed_in_order s
rows_in_order s f rs listing =
    sym (nodes_of_rows f rs)
    ∙ ap (λ (l : List Row). map (λ r. r.occ) l) listing
    ∙ occs_of_rows (built s) (believed_in_order s)
