-- What has entered of a list, and what waits, as its projection grows.
use Rattle.std.specs.Prelude.{◌≡◌, ℕ, ◌+◌, ◌-◌, ◌≤◌, pos, ◌≤ℤ◌, List, ◌∷◌, length, sum_by, IsTrue}
use Rattle.std.specs.List.{All, Contains, filter_map}
use Rattle.std.specs.List.Sorted.{IsPermutation}
use Rattle.tmm_model.specs.Answers.{weight, most_size}
use Rattle.tmm_model.specs.Beliefs.{due, is_free, rules_at, root_of}
use Rattle.tmm_model.specs.Maps.{built}
use Rattle.tmm_model.specs.Moments.{Moment, After}
use Rattle.list_theory.specs.WellNamed.{IsSound}
use Rattle.tmm_model.specs.Standing.{Standing, far_in}
use Rattle.tmm_model.specs.declared.premise.Premise.{Premise}
use Rattle.list_theory.proofs.Distinct.{Distinct}
use Rattle.list_theory.proofs.Elements.{In}
use Rattle.belief_theory.proofs.Settling.{Settling}
use Rattle.belief_theory.proofs.SoundBeliefs.{sound_timed}
use Rattle.dist_net.specs.Net.{Net}
use Rattle.spots.specs.Forest.{Forest, IsLive, moment_at}
use Rattle.spots.specs.OfLists.{IsForestOf, HasOccurrences}
use Rattle.occ_tree.specs.Places.{forest}
use Rattle.projection.specs.declared.growth.Growing.{Growing}
use Rattle.projection.specs.declared.pending.Pending.{Pending}
use Rattle.projection.specs.Counted.{due_rules}
use Rattle.projection.specs.Places.{IsRuleAt, rule_at}
use Rattle.projection.specs.Queues.{is_for}

-- the entry is of a standing rule at an event, with the date at which its effect begins
pub record IsEntry (s : Standing) (f : Forest) (p : Pending) : Type 0 where
  pub live : IsLive f p.trigger
  pub place : IsRuleAt s p.rule
  pub stands : Contains (rules_at s (moment_at f p.trigger)) (rule_at s p)
  pub date : due s (far_in s.premises) (moment_at f p.trigger) (rule_at s p) ≡ pos p.due.0
  pub in_time : p.due.0 ≤ s.horizon

-- the rule at the event waits
abbrev pub Pends : Standing → Forest → List Pending → Moment → List ℕ → Type 0
Pends s f queue t r = (p : Pending) × In p queue × (moment_at f p.trigger ≡ t) × (rule_at s p ≡ r)

-- the occurrences b have entered, each once, and the rules that wait are undecided
pub record IsGrown (s : Standing) (net : Net) (b : List Moment) (f : Forest) (queue : List Pending) (size : ℕ) : Type 0 where
  pub seen : IsForestOf s net f
  pub holds : HasOccurrences b f
  pub distinct : Distinct b
  pub sized : size ≡ sum_by (weight (built s)) b
  pub small : size ≤ most_size
  pub entries : (p : Pending) → In p queue → IsEntry s f p
  pub once : (x : ℕ) (r : List ℕ) → sum_by (is_for s x r) queue ≤ 1
  pub undecided : (p : Pending) → In p queue → In (After (moment_at f p.trigger) (rule_at s p)) b → ⊥

-- what these premises declare has entered, and all rules on it that are due by the horizon wait,
-- each once
pub record IsStarted (s : Standing) (net : Net) (front : List Premise) (f : Forest) (queue : List Pending) (size : ℕ) : Type 0 where
  pub grown : IsGrown s net (filter_map root_of front) f queue size
  pub queued : (t : Moment) (r : List ℕ) → In t (filter_map root_of front) → Contains (rules_at s t) r → due s (far_in s.premises) t r ≤ℤ pos s.horizon → Pends s f queue t r
  pub waiting : length queue ≡ sum_by (due_rules s) (filter_map root_of front)

-- all that is due before what waits is decided, up to some date; so many decisions have been made
pub record IsGrowing (s : Standing) (net : Net) (f : Forest) (queue : List Pending) (size made : ℕ) : Type 0 where
  pub entered : List Moment
  pub date : ℕ
  pub sound : IsSound s
  pub grown : IsGrown s net entered f queue size
  pub settling : Settling s (far_in s.premises) (sound_timed s sound) s.horizon date entered (Pends s f queue)
  pub each : made + length queue ≡ sum_by (due_rules s) entered

-- of what waits, this is due first, and the rest goes on waiting
pub record IsFirstOf (queue : List Pending) (p : Pending) (rest : List Pending) : Type 0 where
  pub taken : IsPermutation queue (p ∷ rest)
  pub first : All (λ q. p.due.0 ≤ q.due.0) rest

-- so it stands where p has been taken out
pub record IsGrowingWith (s : Standing) (net : Net) (f : Forest) (p : Pending) (rest : List Pending) (size made : ℕ) : Type 0 where
  pub queue : List Pending
  pub next : IsFirstOf queue p rest
  pub growing : IsGrowing s net f queue size made

-- with the decision p made, one more has been made than before
abbrev pub Settles : Standing → Net → Growing → Pending → Growing → Type 0
Settles s net old p new = (made : ℕ) → IsGrowingWith s net (forest old.tree) p old.queue old.size made → IsGrowing s net (forest new.tree) new.queue new.size (made + 1)

-- among the occurrences that the nodes are, the rule that waits is free
abbrev pub FiresAmong : Standing → Forest → Pending → Type 0
FiresAmong s f p = (b : List Moment) → HasOccurrences b f → IsTrue (is_free s (far_in s.premises) b (moment_at f p.trigger) (rule_at s p))

-- how much there is left to do at most
abbrev pub left : List Pending → ℕ → ℕ
left queue size = (most_size - size) + length queue
