use Rattle.std.proofs.Common.{◌≡◌, ◌++◌, map, take}
use Rattle.supports.proofs.entries.put_under.Given as goal

abbrev pub invariant-loop-i : goal.invariant-loop-i
invariant-loop-i l = l.entries.items ≡ l.fn.entries.items ++ map (λ x. record { node = x; place = l.place }) (take l.i l.nodes)
