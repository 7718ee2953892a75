-- Which decisions an edit touches: those for which it may matter. A map that keeps its beliefs
-- current needs to make no others again.
use Rattle.std.specs.Prelude.{ℕ, Bool, true, false, not, ◌&&◌, ◌||◌, ◌==◌, List, [], ◌∷◌, ◌++◌, map, filter, count_by}
use Rattle.std.specs.List.{list_any, list_all, filter_map, flat_map}
use Rattle.std.specs.Option.{option_eq}
use Rattle.std.specs.Ordering.{int_eq}
use Rattle.tmm_model.specs.declared.bound.Bound.{Bound}
use Rattle.tmm_model.specs.declared.bound.Bound.TheVariants.{Finite, Free}
use Rattle.tmm_model.specs.declared.point.PointName.TheVariants.{Start}
use Rattle.tmm_model.specs.declared.token.TokenRow.{TokenRow}
use Rattle.tmm_model.specs.declared.premise.Premise.{Premise}
use Rattle.tmm_model.specs.declared.premise.Premise.TheVariants.{Against}
use Rattle.tmm_model.specs.Beliefs.{class_of, are_rivals}
use Rattle.belief_theory.specs.Outcomes.{decisions}
use Rattle.tmm_model.specs.Maps.{TimeMap, built, gap, believed_tokens}
use Rattle.tmm_model.specs.Moments.{Moment, At, same_moment, read_by, rule_of}
use Rattle.tmm_model.specs.Points.{same_name}
use Rattle.tmm_model.specs.Standing.{Standing}

-- whether two bounds are the same
abbrev pub same_bound : Bound → Bound → Bool
same_bound (Finite x) (Finite y) = int_eq x y
same_bound Free Free = true
same_bound _ _ = false

-- whether both are true, or neither is
abbrev pub same_bool : Bool → Bool → Bool
same_bool true b = b
same_bool false b = not b

-- whether two tokens are the same in all
abbrev pub same_token : TokenRow Moment → TokenRow Moment → Bool
same_token k c = same_moment k.spot c.spot && option_eq same_moment k.end c.end && same_name k.fact c.fact && same_name k.class c.class

-- whether all tokens are among the others
abbrev pub are_within : List (TokenRow Moment) → List (TokenRow Moment) → Bool
are_within xs ys = list_all (λ k. list_any (same_token k) ys) xs

-- the same members
abbrev pub same_tokens : List (TokenRow Moment) → List (TokenRow Moment) → Bool
same_tokens xs ys = are_within xs ys && are_within ys xs

-- whether the token bears on what supports the fact: it is of the class of the fact, or a premise
-- says that its fact contradicts it
abbrev pub bears_on : Standing → List ℕ → TokenRow Moment → Bool
bears_on s fact k = same_name (class_of s fact) k.class || are_rivals s fact k.fact

-- whether it bears on what supports an antecedent or an exception of the rule
abbrev pub is_watched : Standing → List ℕ → TokenRow Moment → Bool
is_watched s r k = list_any (λ fact. bears_on s fact k) (read_by (rule_of s r))

-- the believed tokens that do
abbrev pub watched : TimeMap → List ℕ → List (TokenRow Moment)
watched m r = filter (is_watched m.list r) (believed_tokens m)

-- whether two facts contradict each other: one class declares both, or a premise says so
abbrev pub contradict : Standing → List ℕ → List ℕ → Bool
contradict s f g = (same_name (class_of s f) (class_of s g) && not (same_name f g)) || are_rivals s f g

-- the facts of which the premise says that they contradict each other
abbrev pub facts_said : Premise → List (List ℕ)
facts_said (Against name one other) = one ∷ other ∷ []
facts_said _ = []

-- whether the same facts contradict this one in both lists. A class declares the same facts as long
-- as it stands, so only those matter of which a premise speaks.
abbrev pub same_rivals : Standing → Standing → List ℕ → Bool
same_rivals old new f = list_all (λ g. same_bool (contradict old f g) (contradict new f g)) (flat_map facts_said (old.premises ++ new.premises))

-- the points on whose distances a rule at t depends: `start`, t, and the begins and ends of those
-- tokens
abbrev pub watched_points : TimeMap → Moment → List ℕ → List Moment
watched_points m t r = At Start ∷ t ∷ map (λ k. k.spot) (watched m r) ++ filter_map (λ k. k.end) (watched m r)

-- whether these points are as far apart in both maps
abbrev pub same_gaps : TimeMap → TimeMap → List Moment → Bool
same_gaps old new points = list_all (λ p. list_all (λ q. same_bound (gap old p q) (gap new p q)) points) points

-- whether the rule is one on a believed event
abbrev pub is_decision : TimeMap → Moment × List ℕ → Bool
is_decision m d = list_any (λ e. same_moment e.0 d.0 && same_name e.1 d.1) (decisions m.list m.believed)

module _ (old new : TimeMap) where
  -- **A decision of the new map is touched** where it is none of the old one, where the horizons
  -- differ, where other facts contradict one that it reads, where the tokens that it watches
  -- differ, or where a distance among them, its event and `start` does.
  abbrev pub is_touched : Moment × List ℕ → Bool
  is_touched d =
      not (is_decision old d)
      || not (old.list.horizon == new.list.horizon)
      || not (list_all (same_rivals old.list new.list) (read_by (rule_of new.list d.1)))
      || not (same_tokens (watched old d.1) (watched new d.1))
      || not (same_gaps old new (watched_points new d.0 d.1))

  -- how many of the new map's decisions are touched
  abbrev pub touched_decisions : ℕ
  touched_decisions = count_by is_touched (decisions new.list new.believed)

-- **The number of decisions that are touched** from one standing list to another.
abbrev pub touched : Standing → Standing → ℕ
touched old new = touched_decisions (built old) (built new)
