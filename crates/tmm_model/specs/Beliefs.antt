-- What is believed of a standing list: its events, tokens and spans, and what rules bring about.
use Rattle.std.specs.Prelude.{ℕ, suc, zero, ℤ, pos, ◌+ℤ◌, Bool, true, false, not, ◌&&◌, ◌||◌, List, [], ◌++◌, map, filter, Option, Some, None}
use Rattle.std.specs.List.{list_any, list_all, filter_map, flat_map}
use Rattle.std.specs.Option.{option_map}
use Rattle.std.specs.Ordering.{int_eq, on}
use Rattle.tmm_model.specs.declared.point.PointName.TheVariants.{Begin, End}
use Rattle.tmm_model.specs.declared.premise.Premise.{Premise}
use Rattle.tmm_model.specs.declared.premise.Premise.TheVariants.{Event, Token, Span, Rule, Against}
use Rattle.tmm_model.specs.declared.token.Shape.{Shape}
use Rattle.tmm_model.specs.declared.token.Shape.TheVariants.{Event as AnEvent, Persistence as APersistence, Span as ASpan}
use Rattle.tmm_model.specs.declared.token.TokenRow.{TokenRow}
use Rattle.tmm_model.specs.Firsts.{first}
use Rattle.tmm_model.specs.Moments.{Moment, At, After, Distances, distance, early, occ_cmp, rule_of}
use Rattle.tmm_model.specs.Points.{same_name}
use Rattle.tmm_model.specs.Sorts.{Sort, is_kind, sort_in, class_in}
use Rattle.tmm_model.specs.Standing.{Standing, premise_in}
use Rattle.tmm_model.specs.Tokens.{of_one_class, supports}

-- ---- what occurs

-- what a premise declares to occur: its shape, and its kind or fact
abbrev pub as_root : Option Premise → Option (Shape × List ℕ)
as_root (Some (Event name kind)) = Some (AnEvent, kind)
as_root (Some (Token name fact)) = Some (APersistence, fact)
as_root (Some (Span name fact)) = Some (ASpan, fact)
as_root _ = None

-- a rule whose effect is a kind brings about an event, and one whose effect is a fact a persistence
abbrev pub as_effect : List ℕ → Option Sort → Shape × List ℕ
as_effect x None = (APersistence, x)
as_effect x (Some sort) = elim (is_kind sort) [ true ↦ (AnEvent, x) | false ↦ (APersistence, x) ]

-- the shape of an occurrence, and its kind or fact; none for a point that is no occurrence
abbrev pub is_of : Standing → Moment → Option (Shape × List ℕ)
is_of s (At (Begin k)) = as_root (premise_in s.premises k)
is_of s (At _) = None
is_of s (After t r) = Some (as_effect (rule_of s r).effect (sort_in s.premises (rule_of s r).effect))

-- what a premise declares to occur: an event, a token or a span
abbrev pub root_of : Premise → Option Moment
root_of (Event name kind) = Some (At (Begin name))
root_of (Token name fact) = Some (At (Begin name))
root_of (Span name fact) = Some (At (Begin name))
root_of _ = None

-- the declared events, tokens and spans
abbrev pub roots : Standing → List Moment
roots s = filter_map root_of s.premises

-- ---- tokens among occurrences

-- the class of a fact; no name where none declares it
abbrev pub class_of : Standing → List ℕ → List ℕ
class_of s fact = elim (class_in s.premises fact) [ Some class ↦ class | None ↦ [] ]

-- the end of a span that begins at the point
abbrev pub end_of : Moment → Moment
end_of (At (Begin k)) = At (End k)
end_of x = x

-- the token that begins at k; it ends where it is a span
abbrev pub token_at : Standing → Moment → Shape × List ℕ → Option (TokenRow Moment)
token_at s k (AnEvent, kind) = None
token_at s k (APersistence, fact) = Some (record { spot = k; end = None; fact = fact; class = class_of s fact })
token_at s k (ASpan, fact) = Some (record { spot = k; end = Some (end_of k); fact = fact; class = class_of s fact })

-- the token that an occurrence is; none for an event
abbrev pub token_of : Standing → Moment → Option (TokenRow Moment)
token_of s k = elim (is_of s k) [ None ↦ None | Some x ↦ token_at s k x ]

-- the tokens among the occurrences b
abbrev pub tokens : Standing → List Moment → List (TokenRow Moment)
tokens s b = filter_map (token_of s) b

-- whether the premise says, in either order, that the two facts contradict each other
abbrev pub says_against : List ℕ → List ℕ → Premise → Bool
says_against f g (Against name one other) = (same_name one f && same_name other g) || (same_name one g && same_name other f)
says_against f g _ = false

-- whether a premise says that the two facts, which differ, contradict each other
abbrev pub are_rivals : Standing → List ℕ → List ℕ → Bool
are_rivals s f g = not (same_name f g) && list_any (says_against f g) s.premises

-- **Which tokens contradict each other**: those of two different facts of one class, and those of
-- two facts of which a premise says so.
abbrev pub contradicts_in : Standing → TokenRow Moment → TokenRow Moment → Bool
contradicts_in s k c = of_one_class k c || are_rivals s k.fact c.fact

-- ---- rules at an event

-- the name of a rule on this kind
abbrev pub on_kind : List ℕ → Premise → Option (List ℕ)
on_kind kind (Rule name trigger lo hi effect given unless_facts) = elim (same_name trigger kind) [ true ↦ Some name | false ↦ None ]
on_kind kind _ = None

-- the standing rules on a kind
abbrev pub rules_on : Standing → List ℕ → List (List ℕ)
rules_on s kind = filter_map (on_kind kind) s.premises

-- the rules on an event of a kind, none on a token
abbrev pub rules_for : Standing → Option (Shape × List ℕ) → List (List ℕ)
rules_for s (Some (AnEvent, kind)) = rules_on s kind
rules_for s _ = []

-- the standing rules on the kind of t, where t is an event
abbrev pub rules_at : Standing → Moment → List (List ℕ)
rules_at s t = rules_for s (is_of s t)

-- ---- belief

module _ (s : Standing) (far : Distances) where
  -- among the occurrences b, whether a token supports the fact throughout p to q
  abbrev pub has_support : List Moment → List ℕ → Moment → Moment → Bool
  has_support b fact p q = list_any (supports (contradicts_in s) (distance s far) (tokens s b) fact p q) (tokens s b)

  -- among the occurrences b, whether a token supports the fact at t
  abbrev pub supported : List Moment → Moment → List ℕ → Bool
  supported b t fact = has_support b fact t t

  -- **What frees a rule at an event**: each of its antecedents has a supporter there, and no
  -- exception has one.
  abbrev pub is_free : List Moment → Moment → List ℕ → Bool
  is_free b t r = list_all (supported b t) (rule_of s r).given && not (list_any (supported b t) (rule_of s r).exceptions)

  -- the earliest date of the effect of r on t
  abbrev pub due : Moment → List ℕ → ℤ
  due t r = early s far t +ℤ (rule_of s r).lo

  -- whether by the occurrences b the effect of r on t begins at date n at the earliest
  abbrev pub enters : List Moment → ℕ → Moment → List ℕ → Bool
  enters b n t r = elim (int_eq (due t r) (pos n)) [ true ↦ is_free b t r | false ↦ false ]

  -- what by the occurrences b the rules on t bring about at date n
  abbrev pub effects : List Moment → ℕ → Moment → List Moment
  effects b n t = map (After t) (filter (enters b n t) (rules_at s t))

  -- the occurrences b, and what by them begins at date n
  abbrev pub next_level : List Moment → ℕ → List Moment
  next_level b n = b ++ flat_map (effects b n) b

  -- what is believed to begin up to date n, beside all roots
  abbrev pub level : ℕ → List Moment
  level zero = roots s
  level (suc n) = next_level (level n) (suc n)

  -- **The believed occurrences**: all that begins up to the horizon, and all roots.
  abbrev pub beliefs : List Moment
  beliefs = level s.horizon

-- ---- decisions

module _ (s : Standing) (far : Distances) where
  -- the first of the tokens among b that pass
  abbrev pub first_token : List Moment → (TokenRow Moment → Bool) → Option Moment
  first_token b test = option_map (λ k. k.spot) (first (on (λ k. k.spot) (occ_cmp s far)) (filter test (tokens s b)))

  -- the first supporter of the fact throughout p to q
  abbrev pub holder : List Moment → List ℕ → Moment → Moment → Option Moment
  holder b fact p q = first_token b (supports (contradicts_in s) (distance s far) (tokens s b) fact p q)

  -- for each antecedent of r, its first supporter at t
  abbrev pub supporters : List Moment → Moment → List ℕ → List (Option Moment)
  supporters b t r = map (λ fact. holder b fact t t) (rule_of s r).given

  -- for each exception of r, its first supporter at t
  abbrev pub against : List Moment → Moment → List ℕ → List (Option Moment)
  against b t r = map (λ fact. holder b fact t t) (rule_of s r).exceptions
