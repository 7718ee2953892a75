-- Facts that contradict each other though no class declares both.
use Rattle.std.specs.Prelude.{ℕ, Bool, ◌||◌, List}
use Rattle.tmm_model.specs.declared.token.TokenRow.{TokenRow}
use Rattle.tmm_model.specs.Tokens.{of_one_class}

module _ {P : Type 0} (against : List ℕ → List ℕ → Bool) where
  -- the facts of the tokens are against each other
  abbrev pub are_rivals : TokenRow P → TokenRow P → Bool
  are_rivals k c = against k.fact c.fact

  -- the facts of the tokens contradict each other: one class declares both, or they are against
  -- each other
  abbrev pub of_rivals : TokenRow P → TokenRow P → Bool
  of_rivals k c = of_one_class k c || are_rivals k c
