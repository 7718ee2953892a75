-- Which tokens are of a list's class.
use Rattle.std.proofs.Common.{◌≡◌, ℕ, ◌<◌, Bool, true, false, List, length, refl, sym, subst, eq-eqb}
use Rattle.std.specs.Prelude.{slice_index_or, nat_eq}
use Rattle.std.specs.List.{All, Contains}
use Rattle.std.specs.Cmp.Lexicographic.{bytes_decides}
use Rattle.std.proofs.lemmas.Bool.{false_from_ne_true, both_ways, eqb-true}
use Rattle.std.proofs.lemmas.List.Elements.{Contains-get_or}
use Rattle.tmm_model.specs.declared.token.TokenRow.{TokenRow}
use Rattle.tmm_model.specs.Points.{same_name}
use Rattle.clipping.specs.Across.{list_at, IsClassList}

-- a token is of the class exactly where it stands in this list
pub class_agrees : {P : Type 0} (lists : List (List (TokenRow P))) (own : ℕ) → IsClassList lists own → (first : TokenRow P) → Contains (list_at lists own) first → (i : ℕ) → i < length lists → All (λ k. same_name k.class first.class ≡ nat_eq i own) (list_at lists i)
class_agrees {P} lists own is first at i lt j d within = by (nat_eq i own) refl
  where
    k : TokenRow P
    k = slice_index_or (list_at lists i) j d

    here : Contains (list_at lists i) k
    here = Contains-get_or (list_at lists i) j d within

    by : (b : Bool) → nat_eq i own ≡ b → same_name k.class first.class ≡ b
    by true e = (bytes_decides k.class first.class).1 (is.same k first (subst (λ m. Contains (list_at lists m) k) (eqb-true i own e) here) at)
    by false e = false_from_ne_true (same_name k.class first.class)
        (λ t. is.apart i first k lt (λ same. both_ways (nat_eq i own) e (eq-eqb i own same)) at here (sym ((bytes_decides k.class first.class).0 t)))
