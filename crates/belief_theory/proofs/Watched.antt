-- A token is of the class that declares its fact.
use Rattle.std.proofs.Common.{◌≡◌, ℕ, List, refl, subst}
use Rattle.std.specs.Prelude.{Option, Some, None}
use Rattle.tmm_model.specs.declared.token.Shape.{Shape}
use Rattle.tmm_model.specs.declared.token.Shape.TheVariants.{Event as AnEvent, Persistence as APersistence, Span as ASpan}
use Rattle.tmm_model.specs.declared.token.TokenRow.{TokenRow}
use Rattle.tmm_model.specs.Moments.{Moment}
use Rattle.tmm_model.specs.Standing.{Standing}
use Rattle.tmm_model.specs.Beliefs.{class_of, is_of, end_of, token_at, token_of}

pub class-token_of : (s : Standing) (x : Moment) (k : TokenRow Moment) → token_of s x ≡ Some k → k.class ≡ class_of s k.fact
class-token_of s x k h = by (is_of s x) h
  where
    told : (f : List ℕ) (o : Option Moment) → record { spot = x; end = o; fact = f; class = class_of s f } ≡ k → k.class ≡ class_of s k.fact
    told f o q = subst (λ (z : TokenRow Moment). z.class ≡ class_of s z.fact) q refl

    by : (o : Option (Shape × List ℕ)) → (elim o [ None ↦ None | Some y ↦ token_at s x y ]) ≡ Some k → k.class ≡ class_of s k.fact
    by None h = cc
    by (Some (AnEvent, f)) h = cc
    by (Some (APersistence, f)) h = told f None cc
    by (Some (ASpan, f)) h = told f (Some (end_of x)) cc
