-- How many decisions edits touch.
use Rattle.std.proofs.Common.{◌≡◌, ◌++◌, []}
use Rattle.std.specs.Prelude.{codes}
use Rattle.tmm_model.specs.declared.premise.Premise.TheVariants.{Point}
use Rattle.tmm_model.specs.declared.premise.Edit.TheVariants.{Add, Erase}
use Rattle.tmm_model.specs.Standing.{Standing}
use Rattle.tmm_model.specs.Edits.{next_list}
use Rattle.belief_theory.specs.Touched.{touched, touched_decisions}
use Rattle.belief_theory.proofs.FarTables.{of_maps}
use Rattle.tmm_examples.proofs.WorkedScripts.{within, chain, lamp, push, shut_at_five, push_at_ten}

-- a chain of effects: a new rule makes four decisions; a nearer horizon touches the three that are
-- left
four_new : touched (within 35 []) (within 35 (chain 10)) ≡ 4
four_new = of_maps touched_decisions (within 35 []) (within 35 (chain 10))

three_left : touched (within 35 (chain 10)) (within 20 (chain 10)) ≡ 3
three_left = of_maps touched_decisions (within 35 (chain 10)) (within 20 (chain 10))

-- a point that nothing relates touches none, and so does its erasure
abbrev pushed : Standing
pushed = within 1000 push

a_point_touches_none : touched pushed (next_list pushed (Add (Point (codes "p")))) ≡ 0
a_point_touches_none = of_maps touched_decisions pushed (next_list pushed (Add (Point (codes "p"))))

-- a token of a class that the rule does not ask for touches none; one of the class touches it
abbrev lamp_pushed : Standing
lamp_pushed = within 1000 (lamp ++ shut_at_five ++ push_at_ten)

the_lamp_touches_none : touched lamp_pushed (next_list lamp_pushed (Erase (codes "n"))) ≡ 0
the_lamp_touches_none = of_maps touched_decisions lamp_pushed (next_list lamp_pushed (Erase (codes "n")))

the_door_touches_it : touched lamp_pushed (next_list lamp_pushed (Erase (codes "m"))) ≡ 1
the_door_touches_it = of_maps touched_decisions lamp_pushed (next_list lamp_pushed (Erase (codes "m")))
