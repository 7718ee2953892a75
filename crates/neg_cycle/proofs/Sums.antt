-- A sum of two distances fits.
use Rattle.std.proofs.Common.{sym, subst, arith, ℤ, ◌+ℤ◌, w64, to_z, of_z}
use Rattle.std.specs.Int.RustNames.{FitsSigned}
use Rattle.std.proofs.lemmas.Int.{ints, to_z-of_z}
use Rattle.tmm_model.specs.Bounds.{IsWithin}

far_fits : (x : ℤ) → IsWithin 255000000000 x → FitsSigned w64 x
far_fits x h = omega (arith, ints)

sum_within : (x y : ℤ) → IsWithin 255000000000 x → IsWithin 255000000000 y → FitsSigned w64 (x +ℤ y)
sum_within x y h k = omega (arith, ints)

pub sum_fits : (x y : ℤ) → IsWithin 255000000000 x → IsWithin 255000000000 y → FitsSigned w64 (to_z w64 (of_z w64 x) +ℤ to_z w64 (of_z w64 y))
sum_fits x y h k =
    subst (λ (z : ℤ). FitsSigned w64 (z +ℤ to_z w64 (of_z w64 y))) (sym (to_z-of_z w64 x (far_fits x h)))
    (subst (λ (z : ℤ). FitsSigned w64 (x +ℤ z)) (sym (to_z-of_z w64 y (far_fits y k))) (sum_within x y h k))
