-- The believed occurrences of worked scripts, in order.
use Rattle.std.proofs.Common.{◌≡◌, ◌++◌, [], ◌∷◌, pos}
use Rattle.std.specs.Prelude.{codes, Some, None}
use Rattle.tmm_model.specs.Answers.{rows}
use Rattle.tmm_model.specs.Maps.{built}
use Rattle.tmm_model.specs.Standing.{Standing}
use Rattle.belief_theory.proofs.FarTables.{of_map}
use Rattle.tmm_examples.proofs.WorkedScripts.{within, root, lamp, shut_at_five, push_at_ten}

-- the door was shut before the push
abbrev dark : Standing
dark = within 1000 (lamp ++ push_at_ten ++ shut_at_five)

listed : rows (built dark)
    ≡ record { date = pos 0; occ = root (codes "k"); what = codes "open"; clip = Some (root (codes "m")) }
    ∷ record { date = pos 0; occ = root (codes "n"); what = codes "dark"; clip = None }
    ∷ record { date = pos 5; occ = root (codes "m"); what = codes "shut"; clip = None }
    ∷ record { date = pos 10; occ = root (codes "e"); what = codes "push"; clip = None }
    ∷ []
listed = of_map rows dark
