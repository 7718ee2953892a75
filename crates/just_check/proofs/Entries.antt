-- The entries of what is expected, one by one.
use Rattle.std.proofs.Common.{◌≡◌, ◌≢◌, ◌∙◌, ◌+◌, inl, inr, ℕ, Bool, true, false, cond, List, [], ◌∷◌, take, refl, ap, subst, add-one}
use Rattle.std.specs.Prelude.{Option, Some, None, IsSome, is_some, slice_get}
use Rattle.std.specs.Map.{lookup}
use Rattle.list_theory.proofs.Elements.{In, In-cases}
use Rattle.spots.proofs.Grown.{taken}
use Rattle.just_check.specs.declared.expected.Origin.{Origin}

-- what is expected under each of these stands
abbrev pub AllStand : List (Origin × Option ℕ) → Type 0
AllStand es = (p : Origin × Option ℕ) → In p es → IsSome p.1

not_both : (v : Option ℕ) → IsSome v → Some v ≡ Some None → ⊥
not_both None some e = cc
not_both (Some x) some e = cc

-- where they do, none is awaited
pub none_awaited : (test : Origin → Bool) (es : List (Origin × Option ℕ)) → AllStand es → lookup test es ≢ Some None
none_awaited test [] all e = cc
none_awaited test (p ∷ es) all e = by (test p.0) (λ h. none_awaited test es (λ q at. all q (inr at)) h) e
  where
    by : (t : Bool) → (lookup test es ≡ Some None → ⊥) → cond t (Some p.1) (lookup test es) ≡ Some None → ⊥
    by true rest h = not_both p.1 (all p (inl refl)) h
    by false rest h = rest h

-- one more
pub more_stand : (es : List (Origin × Option ℕ)) (i : ℕ) (p : Origin × Option ℕ) → slice_get es i ≡ Some p → is_some p.1 ≡ true → AllStand (take i es) → AllStand (take (i + 1) es)
more_stand es i p here stands all q at = elim (In-cases (take i es) (p ∷ []) q (subst (In q) (ap (λ n. take n es) (add-one i) ∙ taken es i p here) at)) [
  | inl before ↦ all q before
  | inr (inl same) ↦ subst (λ z. IsSome z.1) same stands
  | inr (inr never) ↦ absurd never
]
