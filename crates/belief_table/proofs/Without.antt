-- Lists without a row.
use Rattle.std.proofs.Common.{◌≡◌, ◌∙◌, ℕ, suc, ◌+◌, ◌≤◌, Bool, true, false, cond, eqb, List, [], ◌∷◌, length, refl, sym, ap, arith}
use Rattle.std.specs.Prelude.{◌||◌}
use Rattle.std.specs.List.{list_any}
use Rattle.row_links.specs.Lists.{IsOn, without}

-- a list is no longer without a row, and shorter without one of its rows
pub without_no_longer : (x : ℕ) (rows : List ℕ) → length (without x rows) ≤ length rows
without_no_longer x [] = omega arith
without_no_longer x (y ∷ rows) = by (without_no_longer x rows) (eqb x y)
  where
    by : length (without x rows) ≤ length rows → (b : Bool) → length (cond b rows (y ∷ without x rows)) ≤ suc (length rows)
    by less true = omega arith
    by less false = omega (arith, less)

pub without_shorter : (x : ℕ) (rows : List ℕ) → IsOn rows x → length (without x rows) + 1 ≤ length rows
without_shorter x [] on = (let never : false ≡ true = on in cc)
without_shorter x (y ∷ rows) on = by (without_shorter x rows) (eqb x y) refl
  where
    by : (IsOn rows x → length (without x rows) + 1 ≤ length rows) → (b : Bool) → eqb x y ≡ b → length (cond b rows (y ∷ without x rows)) + 1 ≤ suc (length rows)
    by shorter true e = omega arith
    by shorter false e = let less = shorter (sym (ap (λ b. b || list_any (eqb x) rows) e) ∙ on) in omega (arith, less)
