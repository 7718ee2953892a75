-- A list that is walked from its first row to its last.
use Rattle.std.proofs.Common.{◌≡◌, ℕ, Bool, true, false, cond, eqb, ◌||◌, List, [], ◌∷◌, Option, Some, None, refl, sym, ap, ◌∙◌, subst, eqb-true, eq-eqb}
use Rattle.std.specs.List.{list_any}
use Rattle.row_links.specs.Lists.{IsOn, AreOnce, first_or, row_after}

-- the rows from the one that is named on; none where none is
abbrev pub from_on : Option ℕ → List ℕ → List ℕ
from_on None rows = []
from_on (Some x) [] = []
from_on (Some x) (y ∷ rows) = cond (eqb x y) (y ∷ rows) (from_on (Some x) rows)

same_eqb : (x : ℕ) → eqb x x ≡ true
same_eqb x = eq-eqb x x refl

pub from_first : (rows : List ℕ) → from_on (first_or None rows) rows ≡ rows
from_first [] = refl
from_first (y ∷ rows) = ap (λ b. cond b (y ∷ rows) (from_on (Some y) rows)) (same_eqb y)

on_more : (rows : List ℕ) (y z : ℕ) → IsOn rows z → IsOn (y ∷ rows) z
on_more rows y z on = by (eqb z y)
  where
    by : (b : Bool) → (b || list_any (eqb z) rows) ≡ true
    by true = refl
    by false = on

on_first : (rows : List ℕ) (y : ℕ) → IsOn (y ∷ rows) y
on_first rows y = ap (λ b. b || list_any (eqb y) rows) (same_eqb y)

on_rest : (rows : List ℕ) (y z : ℕ) → eqb z y ≡ false → IsOn (y ∷ rows) z → IsOn rows z
on_rest rows y z other on = sym (ap (λ b. b || list_any (eqb z) rows) other) ∙ on

apart : (rows : List ℕ) (y z : ℕ) → list_any (eqb y) rows ≡ false → IsOn rows z → eqb z y ≡ false
apart rows y z none on = by (eqb z y) refl
  where
    by : (b : Bool) → eqb z y ≡ b → b ≡ false
    by false e = refl
    by true e =
        let both : true ≡ false = sym on ∙ ap (λ w. list_any (eqb w) rows) (eqb-true z y e) ∙ none in
        cc

pub first_is_on : (rows : List ℕ) (z : ℕ) → first_or None rows ≡ Some z → IsOn rows z
first_is_on [] z is = cc
first_is_on (y ∷ rows) z is = let same : y ≡ z = cc in subst (IsOn (y ∷ rows)) same (on_first rows y)

pub next_is_on : (rows : List ℕ) (x z : ℕ) → row_after x rows ≡ Some z → IsOn rows z
next_is_on [] x z is = cc
next_is_on (y ∷ rows) x z is = by (next_is_on rows x z) (eqb x y) is
  where
    by : (row_after x rows ≡ Some z → IsOn rows z) → (b : Bool) → cond b (first_or None rows) (row_after x rows) ≡ Some z → IsOn (y ∷ rows) z
    by again true is = on_more rows y z (first_is_on rows z is)
    by again false is = on_more rows y z (again is)

-- what is named on the rest of a list is found there
from_rest : (rows : List ℕ) (y : ℕ) → list_any (eqb y) rows ≡ false → (o : Option ℕ) → ((z : ℕ) → o ≡ Some z → IsOn rows z) → from_on o (y ∷ rows) ≡ from_on o rows
from_rest rows y none None on = refl
from_rest rows y none (Some z) on = ap (λ b. cond b (y ∷ rows) (from_on (Some z) rows)) (apart rows y z none (on z refl))

-- **Behind a row of the list stands what comes from the next one on.**
pub from_next : (rows : List ℕ) (x : ℕ) → AreOnce rows → IsOn rows x → from_on (Some x) rows ≡ x ∷ from_on (row_after x rows) rows
from_next [] x once on = cc
from_next (y ∷ rows) x (none, once) on = by (λ there. from_next rows x once there) (eqb x y) refl
  where
    by : (IsOn rows x → from_on (Some x) rows ≡ x ∷ from_on (row_after x rows) rows) → (b : Bool) → eqb x y ≡ b
        → cond b (y ∷ rows) (from_on (Some x) rows) ≡ x ∷ from_on (cond b (first_or None rows) (row_after x rows)) (y ∷ rows)
    by again true same =
        let one : y ≡ x = sym (eqb-true x y same) in
        (λ i. one i ∷ sym (from_rest rows y none (first_or None rows) (first_is_on rows) ∙ from_first rows) i)
    by again false other =
        again (on_rest rows y x other on) ∙ ap (λ l. x ∷ l) (sym (from_rest rows y none (row_after x rows) (next_is_on rows x)))
