-- The constraint that might help against a blame, by the token and the cause.
use Rattle.std.proofs.Common.{◌≡◌, ◌≢◌, ◌∙◌, ℕ, List, [], ◌∷◌, refl, ap, sym, pos, Bool, true, false, length, arith}
use Rattle.std.specs.Prelude.{◌==◌}
use Rattle.std.proofs.lemmas.Bool.Decides.{nat_tests}
use Rattle.std.proofs.lemmas.List.{nil_from_length}
use Rattle.tmm_model.specs.declared.answer.Blame.{Blame}
use Rattle.tmm_model.specs.declared.answer.Cause.{Cause}
use Rattle.tmm_model.specs.declared.answer.Cause.TheVariants.{Late, Clipped, Ends}
use Rattle.tmm_model.specs.declared.fix.Fix.TheVariants.{Add as AddConstraint}
use Rattle.tmm_model.specs.declared.point.Occ.{Occ}
use Rattle.tmm_model.specs.declared.point.PointName.{PointName}
use Rattle.tmm_model.specs.declared.point.PointName.TheVariants.{Begin, End}
use Rattle.tmm_model.specs.Answers.{Fault, fault_of, blame_of}
use Rattle.tmm_model.specs.Moments.{Moment, At, After, along}
use Rattle.repairs.specs.Repairs.{added_against}

-- none for what a rule brings about
against_derived : (p q : PointName) (t : Moment) (r : List ℕ) (rs : List (List ℕ)) (f : Fault) → added_against p q (along (After t r) rs, f) ≡ []
against_derived p q t r [] f = refl
against_derived p q t r (next ∷ rs) f = against_derived p q (After t r) next rs f

pub none_for_derived : (p q : PointName) (b : Blame) → b.token.rules.items ≢ [] → added_against p q (blame_of b) ≡ []
none_for_derived p q b some = by b.token.rules.items some
  where
    by : (rs : List (List ℕ)) → rs ≢ [] → added_against p q (along (At (Begin b.token.root)) rs, fault_of b.cause) ≡ []
    by [] some = absurd (some refl)
    by (r ∷ rs) some = against_derived p q (At (Begin b.token.root)) r rs (fault_of b.cause)

module _ (p q : PointName) (b : Blame) (root : b.token.rules.items ≡ []) where
  of_root : added_against p q (blame_of b) ≡ added_against p q (At (Begin b.token.root), fault_of b.cause)
  of_root = ap (λ (rs : List (List ℕ)). added_against p q (along (At (Begin b.token.root)) rs, fault_of b.cause)) root

  of_cause : (cause : Cause) → b.cause ≡ cause → added_against p q (blame_of b) ≡ added_against p q (At (Begin b.token.root), fault_of cause)
  of_cause cause is = of_root ∙ ap (λ (c : Cause). added_against p q (At (Begin b.token.root), fault_of c)) is

  pub one_for_late : b.cause ≡ Late → added_against p q (blame_of b) ≡ AddConstraint (Begin b.token.root) p (pos 0) ∷ []
  one_for_late is = of_cause Late is

  pub one_for_ends : b.cause ≡ Ends → added_against p q (blame_of b) ≡ AddConstraint q (End b.token.root) (pos 1) ∷ []
  one_for_ends is = of_cause Ends is

  pub none_for_clipped : (by : Occ) → b.cause ≡ Clipped by → added_against p q (blame_of b) ≡ []
  none_for_clipped by is = of_cause (Clipped by) is

-- what the test of a slice tells of a list
pub is_nil : {A : Type 0} (shown xs : List A) (b : Bool) → b ≡ (length shown == 0) → shown ≡ xs → b ≡ true → xs ≡ []
is_nil shown xs b is same passes =
    let none : length shown ≡ 0 = grind (arith, nat_tests, is, passes) in
    sym same ∙ nil_from_length shown none

pub not_nil : {A : Type 0} (shown xs : List A) (b : Bool) → b ≡ (length shown == 0) → shown ≡ xs → b ≡ false → xs ≢ []
not_nil shown xs b is same fails nil =
    let none : length shown ≡ 0 = ap length (same ∙ nil) in
    grind (arith, nat_tests, is, fails, none)
