-- The first row of a list.
use Rattle.std.proofs.Common.{◌≡◌, ℕ, suc, eqb, ◌<◌, List, [], ◌∷◌, length, Option, Some, None, IsSome, refl, sym, subst, eq-eqb, arith}
use Rattle.std.proofs.lemmas.Bool.{cond-true, or_left}
use Rattle.std.specs.List.{list_any}
use Rattle.row_links.specs.Lists.{IsOn, first_or, without}
use Rattle.undo_rows.specs.declared.row.Row.{Row}
use Rattle.undo_rows.specs.Tables.{Table, AreListed, live}

-- it is on the list
pub first_is_on : (x : ℕ) (rows : List ℕ) → Some x ≡ first_or None rows → IsOn rows x
first_is_on x [] is = absurd cc
first_is_on x (y ∷ rows) is = let same : x ≡ y = cc in or_left (eqb x y) (list_any (eqb x) rows) (eq-eqb x y same)

-- the list is shorter without it
pub shorter_without_first : (x : ℕ) (rows : List ℕ) → Some x ≡ first_or None rows → length (without x rows) < length rows
shorter_without_first x [] is = absurd cc
shorter_without_first x (y ∷ rows) is =
    let same : x ≡ y = cc in
    subst (λ (l : List ℕ). length l < suc (length rows)) (sym (cond-true (eqb x y) rows (y ∷ without x rows) (eq-eqb x y same))) (omega arith)

module _ {T : Type 0} {F : ℕ} where
  there_if_live : (o : Option (Row T F)) (r : Row T F) → live o ≡ Some r → IsSome o
  there_if_live None r is = absurd (let e : None ≡ Some r = is in cc)
  there_if_live (Some s) r is = refl

  -- there is such a row
  pub first_is_there : (t : Table T F) (f h x : ℕ) → AreListed t → Some x ≡ first_or None (t.list f h) → IsSome (t.row x)
  first_is_there t f h x listed is =
      let (r, stands, head) = (listed.each x f h).0 (first_is_on x (t.list f h) is) in
      there_if_live (t.row x) r stands
