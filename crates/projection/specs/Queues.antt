-- Decisions that wait for their dates, and how many occurrences with their rules a map may have.
use Rattle.std.specs.Prelude.{◌≡◌, ◌⊎◌, ℕ, ◌+◌, ◌<◌, ◌≤◌, pos, ◌≤ℤ◌, cond, ◌&&◌, ◌==◌, List, length, sum_by}
use Rattle.std.specs.List.{count_by}
use Rattle.tmm_model.specs.declared.refusal.Refusal.TheVariants.{LimitSize}
use Rattle.tmm_model.specs.declared.refusal.Stop.{Stop}
use Rattle.tmm_model.specs.declared.refusal.Stop.TheVariants.{Refused, NoMemory}
use Rattle.tmm_model.specs.Answers.{weight, most_size}
use Rattle.tmm_model.specs.Beliefs.{due}
use Rattle.tmm_model.specs.Maps.{built}
use Rattle.tmm_model.specs.Points.{same_name}
use Rattle.tmm_model.specs.Standing.{Standing, far_in}
use Rattle.list_theory.proofs.Elements.{In}
use Rattle.spots.specs.Forest.{Forest, moment_at}
use Rattle.projection.specs.declared.pending.Pending.{Pending}
use Rattle.projection.specs.Counted.{is_due}
use Rattle.projection.specs.Places.{IsRuleAt, rule_at}

-- how often the rule at the node waits in an entry: once or not
abbrev pub is_for : Standing → ℕ → List ℕ → Pending → ℕ
is_for s x r p = cond ((p.trigger == x) && same_name (rule_at s p) r) 1 0

-- one where the names are the same, else nothing
abbrev pub is_name : List ℕ → List ℕ → ℕ
is_name r name = cond (same_name name r) 1 0

-- an entry for one of the rules at the node, with the date at which its effect begins
pub record IsDue (s : Standing) (f : Forest) (x : ℕ) (names : List (List ℕ)) (p : Pending) : Type 0 where
  pub trigger : p.trigger ≡ x
  pub place : IsRuleAt s p.rule
  pub rule : In (rule_at s p) names
  pub date : due s (far_in s.premises) (moment_at f x) (rule_at s p) ≡ pos p.due.0
  pub in_time : p.due.0 ≤ s.horizon

-- beside the entries that waited, each of the rules at the node that is due by the horizon waits,
-- once
pub record Queues (s : Standing) (f : Forest) (x : ℕ) (names : List (List ℕ)) (old new : List Pending) : Type 0 where
  pub kept : (p : Pending) → In p old → In p new
  pub own : (p : Pending) → In p new → In p old ⊎ IsDue s f x names p
  pub all : (r : List ℕ) → In r names → due s (far_in s.premises) (moment_at f x) r ≤ℤ pos s.horizon → (p : Pending) × In p new × (p.trigger ≡ x) × (rule_at s p ≡ r)
  pub count : length new ≡ length old + count_by (is_due s (moment_at f x)) names
  pub once : (y : ℕ) (r : List ℕ) → sum_by (is_for s y r) new ≤ sum_by (is_for s y r) old + cond (x == y) (sum_by (is_name r) names) 0

-- what the occurrence at a node counts
abbrev pub weight_at : Standing → Forest → ℕ → ℕ
weight_at s f x = weight (built s) (moment_at f x)

-- the size is refused, for it is too large, or there is no memory
abbrev pub IsTooLarge : ℕ → Stop → Type 0
IsTooLarge size (Refused LimitSize) = most_size < size
IsTooLarge size (Refused _) = ⊥
IsTooLarge size NoMemory = Unit {0}
