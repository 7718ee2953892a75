-- A count of decisions does not fall.
use Rattle.std.proofs.Common.{ℕ, ◌≤◌, inl, inr, arith}
use Rattle.belief_table.specs.declared.state.Beliefs.{Beliefs}
use Rattle.belief_turns.specs.Turns.{CountsOne}

-- a turn counts no less than what was counted, and no more than the greatest count
pub counts_on : (b : Beliefs) (before old new : ℕ) → (before ≤ old) × (old ≤ 18446744073709551615) → CountsOne b old new → (before ≤ new) × (new ≤ 18446744073709551615)
counts_on b before old new (more, few) (inl (same, none)) = (omega (arith, more, same), omega (arith, few, same))
counts_on b before old new (more, few) (inr (one, first)) = (omega (arith, more, few, one), omega (arith, one))
