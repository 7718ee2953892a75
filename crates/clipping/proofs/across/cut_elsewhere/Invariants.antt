use Rattle.std.proofs.Common.{◌≡◌, ◌≢◌, ◌<◌, ℕ, false}
use Rattle.std.specs.List.{list_any}
use Rattle.tmm_model.specs.Tokens.{cuts}
use Rattle.clipping.specs.Across.{list_at}
use Rattle.clipping.specs.Rivals.{of_rivals}
use Rattle.clipping.proofs.across.cut_elsewhere.Given as goal

abbrev pub invariant-loop-i : goal.invariant-loop-i
invariant-loop-i g l = (j : ℕ) → j < l.i → j ≢ l.own → list_any (cuts (of_rivals (g.R.Rivals.against l.rivals)) (g.S.Sure.distance l.order) l.k l.q) (list_at (g.T.Tokens.lists l.tokens) j) ≡ false
