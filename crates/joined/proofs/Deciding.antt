-- What decisions tell, and tests of them.
use Rattle.std.proofs.Common.{◌≡◌, ◌∙◌, ℕ, Bool, true, false, refl, sym, ap, inl, inr}
use Rattle.std.specs.Prelude.{◌⊎◌, Option, Some, None, IsSome}
use Rattle.belief_theory.specs.Outcomes.{Outcome, fires, blocked, barred, beyond}
use Rattle.spots.specs.Forest.{Forest, Member, member, IsLive}
use Rattle.decision_rows.specs.declared.row.Decision.{Decision}
use Rattle.revisions.specs.Revisions.{is_firing}
use Rattle.joined.specs.Rows.{Row, fires_by, decision_of}

-- what is kept of an outcome tells whether it fires
fires_is : (o : Outcome) → fires_by (decision_of o) ≡ is_firing o
fires_is (fires ks) = refl
fires_is (blocked place) = refl
fires_is (barred place) = refl
fires_is beyond = refl

pub fires_told : (d : Decision) (o : Outcome) → d ≡ decision_of o → fires_by d ≡ is_firing o
fires_told d o is = ap fires_by is ∙ fires_is o

pub true_false : {P : Type 0} → true ≡ false → P
true_false e = cc

pub not_both : {P : Type 0} (v : Bool) → v ≡ true → v ≡ false → P
not_both v h e = true_false (sym h ∙ e)

pub some_row : (o : Option Row) → IsSome o → (q : Row) × (o ≡ Some q)
some_row (Some q) h = (q, refl)
some_row None h = cc

pub live_or : (f : Forest) (y : ℕ) → IsLive f y ⊎ (IsLive f y → ⊥)
live_or f y = by (member f y)
  where
    by : (o : Option Member) → IsSome o ⊎ (IsSome o → ⊥)
    by (Some m) = inl refl
    by None = inr (λ h. cc)
