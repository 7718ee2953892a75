use Rattle.std.proofs.Common.{◌≡◌, ◌+◌, true, IsSome}
use Rattle.occ_tree.specs.Standing.{nodes_in, present_rows}
use Rattle.occ_tree.proofs.Indexed.{IsIndexTo, index_skip, index_more}
use Rattle.occ_tree.proofs.by_name.ByName.of.Goals as goal
use Rattle.occ_tree.proofs.by_name.ByName.of.Goals.{then-is_live+in-Ok, else-is_live}

pub loop-x-preserved : goal.loop-x-preserved
loop-x-preserved c =
    let node = nodes_in (present_rows c.nodes-nodes.result.now) in
    let n = c.loop-x.x in
    let old = c.loop-x.numbers.entries in
    elim c.if-is_live.branch [
      | then-is_live+in-Ok w ↦
          let more : IsIndexTo node (n + 1) w.insert.new.self.entries = index_more node n w.get.result.now w.of.result old w.insert.new.self.entries c.limit-limit.ensures.stands.placed w.get.ensures.node w.of.ensures w.in-Ok.ensures.updates.0 c.loop-x.invariant in
          rw w.numbers-is more
      | else-is_live w ↦
          let dead : IsSome (node n) → ⊥ = λ live. let t : c.is_live.result ≡ true = c.is_live.ensures.1 live in cc in
          rw w.numbers-is (index_skip node n old dead c.loop-x.invariant)
    ]
