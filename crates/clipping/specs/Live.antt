-- Tokens whose spots are live.
use Rattle.std.specs.Option.{ForSome}
use Rattle.tmm_model.specs.declared.token.TokenRow.{TokenRow}

-- a token whose begin and end are live
pub record IsLive {P : Type 0} (live : P → Type 0) (k : TokenRow P) : Type 0 where
  pub begin : live k.spot
  pub «end» : ForSome k.end (λ e. live e)
