use Rattle.std.proofs.Common.{◌≡◌, vec_capacity, vec_len}
use Rattle.dist_net.proofs.fill_up.Given as goal

abbrev pub invariant-loop : goal.invariant-loop
invariant-loop l = (vec_len l.room ≡ l.counter) × (vec_capacity l.room ≡ 65536)
