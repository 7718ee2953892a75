-- How many decisions an edit makes.
use Rattle.std.specs.Prelude.{◌≡◌, ◌↔◌, ℕ, ◌≤◌, ℤ, Bool, true, false, not, ◌&&◌, ◌||◌, ◌==◌, List, [], ◌∷◌, length}
use Rattle.std.specs.List.{Contains, count_by}
use Rattle.tmm_model.specs.declared.point.PointName.{PointName}
use Rattle.tmm_model.specs.declared.premise.Edit.{Edit}
use Rattle.belief_theory.specs.Outcomes.{Outcome, fires, blocked, barred, beyond, outcome, decisions}
use Rattle.tmm_model.specs.Beliefs.{roots, rules_at}
use Rattle.tmm_model.specs.Edits.{next_list}
use Rattle.tmm_model.specs.Maps.{TimeMap, built}
use Rattle.tmm_model.specs.Moments.{Moment, At, After, same_moment}
use Rattle.list_theory.specs.WellNamed.{IsSound}
use Rattle.belief_theory.specs.Right.{Occurs}
use Rattle.tmm_model.specs.Standing.{Standing, far_in}
use Rattle.belief_theory.specs.Touched.{is_decision, is_touched, touched}
use Rattle.list_theory.proofs.Elements.{In}
use Rattle.spots.specs.OfLists.{map_of}
use Rattle.revisions.specs.Keeping.{IsKeeping}
use Rattle.revisions.specs.Maps.{revision}

-- whether two lists have the same moments in the same order
abbrev pub same_moments : List Moment → List Moment → Bool
same_moments [] [] = true
same_moments (x ∷ xs) (y ∷ ys) = same_moment x y && same_moments xs ys
same_moments _ _ = false

-- whether two outcomes are the same
abbrev pub same_outcome : Outcome → Outcome → Bool
same_outcome (fires ks) (fires ls) = same_moments ks ls
same_outcome (blocked m) (blocked n) = m == n
same_outcome (barred m) (barred n) = m == n
same_outcome beyond beyond = true
same_outcome _ _ = false

-- whether the decision of the new map is none of the old one, or had another outcome there
abbrev pub is_changed : TimeMap → TimeMap → Moment × List ℕ → Bool
is_changed old new e =
    not (is_decision old e)
    || not (same_outcome (outcome old.list old.far old.believed e.0 e.1) (outcome new.list new.far new.believed e.0 e.1))

-- **The number of decisions that an edit changes**
abbrev pub changed : Standing → Standing → ℕ
changed old new = count_by (is_changed (built old) (built new)) (decisions new (built new).believed)

-- **The bounds on how many decisions are made**: never more than are touched, and in the end all
-- that are changed.
abbrev pub EditsAreCounted : Type 0
EditsAreCounted =
    (old : Standing) (edit : Edit) → IsSound old → IsSound (next_list old edit)
    → (b : List Moment) (kept : Moment → List ℕ → Outcome) (queue taken : List (Moment × List ℕ)) (d : ℤ)
    → IsKeeping (revision (built old) (built (next_list old edit))) b kept (λ t r. In (t, r) queue) taken d
    → (length taken ≤ touched old (next_list old edit)) × (queue ≡ [] → changed old (next_list old edit) ≤ length taken)

-- the nodes with which the loop begins: the new roots, and the old derived ones that still occur
pub record AreSeeds (old new : Standing) (b : List Moment) : Type 0 where
  pub root : (p : PointName) → Contains b (At p) ↔ Contains (roots new) (At p)
  pub derived : (t : Moment) (r : List ℕ) → Contains b (After t r) ↔ (Contains (built old).believed (After t r) × Occurs new (After t r))

-- what is not touched as the nodes are at the beginning has its outcome still, and what is touched
-- then is touched in the end
abbrev pub SeedsAreRight : Type 0
SeedsAreRight =
    (old : Standing) (edit : Edit) → IsSound old → IsSound (next_list old edit)
    → (b : List Moment) → AreSeeds old (next_list old edit) b
    → (t : Moment) (r : List ℕ) → Contains (rules_at (next_list old edit) t) r
    → (is_touched (built old) (map_of (next_list old edit) b) (t, r) ≡ false
    → outcome old (far_in old.premises) (built old).believed t r ≡ outcome (next_list old edit) (far_in (next_list old edit).premises) b t r)
    × (is_touched (built old) (map_of (next_list old edit) b) (t, r) ≡ true → is_touched (built old) (built (next_list old edit)) (t, r) ≡ true)
