-- How many decisions a projection makes.
use Rattle.std.specs.Prelude.{ℕ, pos, Bool, List, sum_by, int_le}
use Rattle.std.specs.List.{count_by}
use Rattle.tmm_model.specs.Beliefs.{due, rules_at}
use Rattle.tmm_model.specs.Maps.{built}
use Rattle.tmm_model.specs.Moments.{Moment}
use Rattle.tmm_model.specs.Standing.{Standing, far_in}

-- whether the effect of the rule on the event begins by the horizon
abbrev pub is_due : Standing → Moment → List ℕ → Bool
is_due s t r = int_le (due s (far_in s.premises) t r) (pos s.horizon)

-- how many of the rules at the event are due by the horizon
abbrev pub due_rules : Standing → Moment → ℕ
due_rules s t = count_by (is_due s t) (rules_at s t)

-- **How many decisions are due by the horizon**: the rules that are, at each believed occurrence.
abbrev pub decisions_due : Standing → ℕ
decisions_due s = sum_by (due_rules s) (built s).believed
