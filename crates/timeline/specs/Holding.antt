-- What holds on a day, as the code has it: each token that holds once.
use Rattle.std.specs.Prelude.{◌⊎◌, ◌↔◌, ℕ, ℤ, pos, int_lt, Bool, not, ◌&&◌, List, filter, Option, Some, None}
use Rattle.std.specs.List.{list_any, list_all}
use Rattle.std.specs.Option.{option_eq}
use Rattle.std.specs.Ordering.{int_eq}
use Rattle.tmm_model.specs.Points.{same_name}
use Rattle.tmm_model.specs.Standing.{Standing}
use Rattle.list_theory.proofs.Elements.{In}
use Rattle.timeline.specs.declared.row.Held.{Held}
use Rattle.timeline.specs.Rows.{clashes}

-- whether a token of the fact holds
abbrev pub is_held : List Held → List ℕ → Bool
is_held holding fact = list_any (λ h. same_name h.fact fact) holding

-- whether each of the first facts is held, and none of the second
abbrev pub is_open : List Held → List (List ℕ) → List (List ℕ) → Bool
is_open holding given exceptions = list_all (is_held holding) given && not (list_any (is_held holding) exceptions)

-- whether one of the tokens contradicts k
abbrev pub is_contradicted : Standing → List Held → Held → Bool
is_contradicted s coming k = list_any (clashes s k) coming

-- whether a token with this end or none, which held the day before, holds on the day on which these
-- tokens come
abbrev pub goes_on_to : Standing → ℕ → List Held → Held → Option ℤ → Bool
goes_on_to s day coming k (Some e) = int_lt (pos day) e
goes_on_to s day coming k None = not (is_contradicted s coming k)

-- whether it does, with its own end
abbrev pub goes_on : Standing → ℕ → List Held → Held → Bool
goes_on s day coming k = goes_on_to s day coming k k.end

-- whether two tokens are of one fact, one class and one end
abbrev pub same_held : Held → Held → Bool
same_held a b = same_name a.fact b.fact && same_name a.class b.class && option_eq int_eq a.end b.end

-- what holds on the day on which these tokens come: they do, and those that held before and go on
abbrev pub IsHeldOn : Standing → ℕ → List Held → List Held → List Held → Type 0
IsHeldOn s day coming before holding = (h : Held) → In h holding ↔ (In h (filter (goes_on s day coming) before) ⊎ In h coming)
