-- The names that a premise declares, as the code parts them: its own, and a class its facts.
use Rattle.std.specs.Prelude.{ℕ, Bool, List, []}
use Rattle.tmm_model.specs.declared.premise.Premise.{Premise}
use Rattle.tmm_model.specs.declared.premise.Premise.TheVariants.{Class, Kind, Point, Event, Token, Span, Dist, Rule, Protect, Against}
use Rattle.tmm_model.specs.Sorts.{Sort, a_class, a_fact, a_kind, a_point, an_event, a_token, a_span, a_dist, a_rule, a_protection, a_rivalry, is_fact, is_kind, is_effect, is_place}
use Rattle.premise_list.specs.declared.premise.Sort.{Sort as Code}
use Rattle.premise_list.specs.declared.premise.Sort.TheVariants as code
use Rattle.premise_list.specs.declared.check.Wanted.{Wanted}
use Rattle.premise_list.specs.declared.check.Wanted.TheVariants as wanted

-- the facts of a class
abbrev pub facts_of : Premise → List (List ℕ)
facts_of (Class name facts) = facts.items
facts_of _ = []

-- what a premise declares its own name as
abbrev pub own_sort : Premise → Sort
own_sort (Class name facts) = a_class
own_sort (Kind name) = a_kind
own_sort (Point name) = a_point
own_sort (Event name kind) = an_event
own_sort (Token name fact) = a_token
own_sort (Span name fact) = a_span
own_sort (Dist name from to lo hi) = a_dist
own_sort (Rule name trigger lo hi effect given unless_facts) = a_rule
own_sort (Protect name fact from to) = a_protection
own_sort (Against name one other) = a_rivalry

-- the sort that the code's value stands for
abbrev pub sort_seen : Code → Sort
sort_seen code.Class = a_class
sort_seen code.Fact = a_fact
sort_seen code.Kind = a_kind
sort_seen code.Point = a_point
sort_seen code.Event = an_event
sort_seen code.Token = a_token
sort_seen code.Span = a_span
sort_seen code.Dist = a_dist
sort_seen code.Rule = a_rule
sort_seen code.Protection = a_protection
sort_seen code.Rivalry = a_rivalry

-- what may be wanted of a name that an edit uses
abbrev pub wants : Wanted → Sort → Bool
wants wanted.Fact sort = is_fact sort
wants wanted.Kind sort = is_kind sort
wants wanted.Effect sort = is_effect sort
wants wanted.Place sort = is_place sort
