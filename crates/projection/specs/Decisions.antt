-- What the code's decision says of a rule at an event.
use Rattle.std.specs.Prelude.{◌≡◌, ℕ, ◌≤◌, ℤ, pos, ◌≤ℤ◌, ◌<ℤ◌, List, map, length, Option, MatchOption}
use Rattle.std.specs.List.{All}
use Rattle.belief_theory.specs.Outcomes.{Outcome, fires, blocked, barred, beyond, tried}
use Rattle.tmm_model.specs.Beliefs.{due, holder}
use Rattle.tmm_model.specs.Moments.{Moment, rule_of}
use Rattle.tmm_model.specs.Standing.{Standing, far_in}
use Rattle.spots.specs.Forest.{Forest, IsLive, moment_at}
use Rattle.supports.specs.declared.rule.RuleText.{RuleText}
use Rattle.projection.specs.declared.decision.Decision.{Decision}
use Rattle.projection.specs.declared.decision.Decision.TheVariants.{Fires, Blocked, Barred, Beyond}

-- the outcome that the decision tells, where the tree's nodes are these
abbrev pub outcome_at : Forest → Decision → Outcome
outcome_at f (Fires supports) = fires (map (moment_at f) supports.items)
outcome_at f (Blocked antecedent) = blocked antecedent
outcome_at f (Barred exception) = barred exception
outcome_at f Beyond = beyond

-- the supporters are nodes
abbrev pub AreLive : Forest → Decision → Type 0
AreLive f (Fires supports) = All (IsLive f) supports.items
AreLive f _ = Unit {0}

-- what becomes of a rule in time, of which these facts are the antecedents and those the exceptions
abbrev pub tried_at : Standing → List Moment → Moment → List (List ℕ) → List (List ℕ) → Outcome
tried_at s b t given exceptions =
    tried (map (λ fact. holder s (far_in s.premises) b fact t t) given) (map (λ fact. holder s (far_in s.premises) b fact t t) exceptions)

-- the date, none where it is after the horizon
abbrev pub IsDueBy : ℕ → ℤ → Option ℕ → Type 0
IsDueBy horizon date result = MatchOption result (pos horizon <ℤ date) (λ d. (date ≡ pos d) × (d ≤ horizon))

-- the effect of the rule at the event is due by the horizon, and this is what the rule says
pub record IsInTime (s : Standing) (t : Moment) (r : List ℕ) (text : RuleText) : Type 0 where
  pub in_time : due s (far_in s.premises) t r ≤ℤ pos s.horizon
  pub given : text.given.now ≡ (rule_of s r).given
  pub exceptions : text.exceptions.now ≡ (rule_of s r).exceptions
  pub few : length text.given.now ≤ 4
