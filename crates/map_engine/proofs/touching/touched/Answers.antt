use Rattle.std.proofs.Common.{ℕ, List, sym, subst}
use Rattle.std.specs.List.{Contains}
use Rattle.occ_tree.specs.Places.{forest}
use Rattle.belief_net.specs.MarkLaws.{added_by as name_added}
use Rattle.map_engine.proofs.Apart.{others_apart}
use Rattle.map_engine.proofs.Finding.{takes_more}
use Rattle.map_engine.proofs.touching.touched.Goals as goal

pub returns-clause-takes : goal.returns-clause-takes
returns-clause-takes c =
    takes_more (forest c.args.map.now.tree.now) c.args.told.now (name_added c.args.edit.now) c.args.others.now c.in_ok-nodes.nodes.items c.push_numbers.new.found.items
    c.in_ok-push_numbers.ensures.kept c.in_ok-nodes.ensures

pub returns-clause-moved : goal.returns-clause-moved
returns-clause-moved c = λ x m here at.
    c.in_ok-push_numbers.ensures.pushed x (subst (λ (l : List ℕ). Contains l x) (sym c.as_slice.ensures.value) (c.in_ok-moved.ensures.nodes x m here at))

pub returns-clause-classes : goal.returns-clause-classes
returns-clause-classes c =
    others_apart c.args.map.now.standing.now c.args.map.now.net.now c.args.map.now.tree.now c.in_ok-moved.moved.classes.items c.in_ok-classes.classes.items c.in_ok-classes.ensures c.in_ok-moved.ensures.classes
