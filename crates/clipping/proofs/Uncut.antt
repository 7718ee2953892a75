-- A persistence that begins in time and is not cut supports its fact.
use Rattle.std.proofs.Common.{◌≡◌, Bool, true, false, not, ◌&&◌, List, ap, ◌∙◌}
use Rattle.std.specs.Prelude.{None}
use Rattle.std.specs.List.{list_any}
use Rattle.std.specs.Cmp.Lexicographic.{nat_list_eq_equiv}
use Rattle.tmm_model.specs.declared.bound.Bound.{Bound}
use Rattle.tmm_model.specs.declared.token.TokenRow.{TokenRow}
use Rattle.tmm_model.specs.Tokens.{supports, cuts, is_by, lasts_to}

module _ {P : Type 0} (contradicts : TokenRow P → TokenRow P → Bool) (far : P → P → Bound) (tokens : List (TokenRow P)) (k : TokenRow P) (p q : P) (by : is_by far k.spot p ≡ true) (no_end : k.end ≡ None) where
  -- it does exactly where no token cuts it
  pub supports_uncut : supports contradicts far tokens k.fact p q k ≡ not (list_any (cuts contradicts far k q) tokens)
  supports_uncut = λ i. nat_list_eq_equiv.refl k.fact i && by i && lasts_to contradicts far tokens k q (no_end i)

  -- no token cuts it
  pub none_cut : list_any (cuts contradicts far k q) tokens ≡ false → supports contradicts far tokens k.fact p q k ≡ true
  none_cut uncut = supports_uncut ∙ ap not uncut
