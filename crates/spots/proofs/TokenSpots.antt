-- Where the token of a node begins and ends.
use Rattle.std.proofs.Common.{◌≡◌, ℕ, List, sym, ap}
use Rattle.std.specs.Prelude.{Option, Some, None}
use Rattle.std.specs.Option.{option_map}
use Rattle.tmm_model.specs.declared.token.TokenRow.{TokenRow}
use Rattle.spots.specs.declared.spot.Spot.{Spot}
use Rattle.spots.specs.declared.spot.Spot.TheVariants.{Declared, Node}
use Rattle.spots.specs.Forest.{Member}
use Rattle.spots.specs.Spots.{token_row}

-- the token of a node begins at it, and ends where it does
pub token_row_spots : (x : ℕ) (m : Member) (row : TokenRow Spot) → token_row x m ≡ Some row → (row.spot ≡ Node x) × (row.end ≡ option_map Declared m.end)
token_row_spots x m row e = by m.class e
  where
    by : (o : Option (List ℕ)) → option_map (λ class. record { spot = Node x; end = option_map Declared m.end; fact = m.what; class = class }) o ≡ Some row → (row.spot ≡ Node x) × (row.end ≡ option_map Declared m.end)
    by None e = cc
    by (Some class) e =
        let begins : Some row.spot ≡ Some (Node x) = ap (option_map (λ k. k.spot)) (sym e) in
        let ends : Some row.end ≡ Some (option_map Declared m.end) = ap (option_map (λ k. k.end)) (sym e) in
        (cc, cc)
