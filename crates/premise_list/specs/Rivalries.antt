-- The facts that premises set against each other.
use Rattle.std.specs.Prelude.{◌⊎◌, ℕ, Bool, not, ◌&&◌, ◌||◌, List, Option, Some, None}
use Rattle.std.specs.List.{list_any, filter_map}
use Rattle.tmm_model.specs.declared.premise.Premise.{Premise}
use Rattle.tmm_model.specs.declared.premise.Premise.TheVariants.{Against}
use Rattle.tmm_model.specs.Points.{same_name}
use Rattle.tmm_model.specs.Standing.{Standing}
use Rattle.list_theory.proofs.Elements.{In}

-- the two facts that a premise sets against each other; none for another premise
abbrev pub rivalry_of : Premise → Option (List ℕ × List ℕ)
rivalry_of (Against name one other) = Some (one, other)
rivalry_of _ = None

-- the pairs of facts that premises set against each other, in the order of the premises
abbrev pub rivalries : List Premise → List (List ℕ × List ℕ)
rivalries premises = filter_map rivalry_of premises

-- whether the pair is of these two facts, in either order
abbrev pub is_pair_of : List ℕ → List ℕ → List ℕ × List ℕ → Bool
is_pair_of f g pair = (same_name pair.0 f && same_name pair.1 g) || (same_name pair.0 g && same_name pair.1 f)

-- whether the pair is of the fact and another one
abbrev pub sets_against : List ℕ → List ℕ × List ℕ → Bool
sets_against f pair = (same_name pair.0 f || same_name pair.1 f) && not (same_name pair.0 pair.1)

-- whether a premise sets the fact against another one
abbrev pub has_rivals : Standing → List ℕ → Bool
has_rivals s f = list_any (sets_against f) (rivalries s.premises)

-- **Each pair that stands in one of two lists stands in the other one too, or is among these**, and
-- these are pairs of the lists.
pub record AreChanges (before now pairs : List (List ℕ × List ℕ)) : Type 0 where
  pub gone : (pair : List ℕ × List ℕ) → In pair before → In pair now ⊎ In pair pairs
  pub come : (pair : List ℕ × List ℕ) → In pair now → In pair before ⊎ In pair pairs
  pub of_lists : (pair : List ℕ × List ℕ) → In pair pairs → In pair before ⊎ In pair now

-- pairs of facts now and at the last commit, and how many there is room for in each of both lists
pub record Pairs : Type 0 where
  pub present : List (List ℕ × List ℕ)
  pub committed : List (List ℕ × List ℕ)
  pub room : ℕ
