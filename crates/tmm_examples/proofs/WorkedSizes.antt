-- Sizes of maps, and the largest that is kept.
use Rattle.std.proofs.Common.{◌≡◌}
use Rattle.tmm_model.specs.Answers.{size}
use Rattle.tmm_model.specs.Maps.{built}
use Rattle.belief_theory.proofs.FarTables.{of_map}
use Rattle.tmm_examples.proofs.WorkedScripts.{within, chain}

-- a chain of effects 10 apart: at horizon 35 the event and its 3 effects with 0 to 3 rules, and a
-- rule on each of the 4; at horizon 20 one less
of_a_chain : size (built (within 35 (chain 10))) ≡ 14
of_a_chain = of_map size (within 35 (chain 10))

of_a_shorter : size (built (within 20 (chain 10))) ≡ 9
of_a_shorter = of_map size (within 20 (chain 10))

-- effects 1 apart: at horizon h the size is (h + 1) * (h + 4) / 2, so 99,680 at 444 and 100,127 at
-- 445
of_a_dense_chain : size (built (within 44 (chain 1))) ≡ 1080
of_a_dense_chain = of_map size (within 44 (chain 1))
