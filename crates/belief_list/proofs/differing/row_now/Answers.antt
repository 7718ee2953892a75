use Rattle.std.proofs.Common.{w64, rules, ◌∙◌}
use Rattle.std.specs.Int.RustNames.{FitsSigned}
use Rattle.std.proofs.lemmas.Int.{to_z-of_z}
use Rattle.spots.specs.Forest.{IsLive}
use Rattle.spots.proofs.Nodes.{node_at}
use Rattle.occ_tree.specs.Places.{forest}
use Rattle.belief_list.proofs.differing.row_now.Goals as goal

pub returns-clause-now : goal.returns-clause-now
returns-clause-now c = λ net classes other.
    let f = forest c.args.tree.now in
    let live : IsLive f c.args.x = search rules in
    let fits : FitsSigned w64 c.early.result = search rules in
    let (m, here) = node_at f c.args.x live in (
      m,
      here,
      record {
        date = to_z-of_z w64 c.early.result fits ∙ c.early.ensures.date;
        weight = c.weight_after.ensures.value;
        clip = c.clip_before.ensures c.args.standing.now.present net classes m here (λ class of there. other m class here of there);
      },
    )
