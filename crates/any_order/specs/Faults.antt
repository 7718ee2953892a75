-- Clips and causes, by their places among tokens.
use Rattle.std.specs.Prelude.{ℕ, Bool, List, length, Option, IsSome, IsNone, IsTrue, IsFalse, MatchOption}
use Rattle.std.specs.declared.cmp.Ordering.{Ordering}
use Rattle.std.specs.Ordering.{on}
use Rattle.tmm_model.specs.declared.bound.Bound.{Bound}
use Rattle.tmm_model.specs.declared.token.TokenRow.{TokenRow}
use Rattle.tmm_model.specs.Tokens.{clips, cuts, is_by}
use Rattle.belief_theory.specs.FirstPlaces.{IsFirstPlace, IsFirstAmong}
use Rattle.any_order.specs.declared.Fault.{Fault}
use Rattle.any_order.specs.declared.Fault.TheVariants.{Late, Clipped, Ends}

module _ {P : Type 0} (contradicts : TokenRow P → TokenRow P → Bool) (far : P → P → Bound) (order : P → P → Ordering) (tokens : List (TokenRow P)) (k : TokenRow P) where
  -- the place of the first token that clips k; none for a span
  abbrev pub IsClipPlace : Option ℕ → Type 0
  IsClipPlace place = MatchOption k.end (IsFirstPlace (on (λ k. k.spot) order) (clips contradicts far k) tokens place) (λ _. IsNone place)

  -- the cause for which k does not support its fact throughout p to q
  abbrev pub IsFault : P → P → Fault → Type 0
  IsFault p q Late = IsFalse (is_by far k.spot p)
  IsFault p q (Clipped c) = IsTrue (is_by far k.spot p) × IsNone k.end × IsFirstAmong (on (λ k. k.spot) order) (cuts contradicts far k q) tokens (length tokens) c
  IsFault p q Ends = IsTrue (is_by far k.spot p) × IsSome k.end
