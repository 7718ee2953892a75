use Rattle.std.proofs.Common.{◌≡◌, ◌+◌, ◌*◌, ◌≤◌, take, sum_by}
use Rattle.belief_list.specs.Sizes.{weight_kept}
use Rattle.belief_list.proofs.size.told_size.Given as goal

-- each sum stays within as many times a number of 64 bits as there were differences
abbrev pub invariant-loop-d : goal.invariant-loop-d
invariant-loop-d l =
    (l.gone ≡ sum_by (λ d. weight_kept d.was) (take l.d-index l.differences))
    × (l.counted ≡ l.before + sum_by (λ d. weight_kept d.now) (take l.d-index l.differences))
    × (l.gone ≤ 18446744073709551615 * l.d-index)
    × (l.counted ≤ 18446744073709551615 * l.d-index + 18446744073709551615)
