use Rattle.std.specs.List.{All}
use Rattle.tt_query.specs.Firsts.{IsPlaced, placed_nodes}
use Rattle.tt_query.proofs.FirstNodes.{Keeps}
use Rattle.tt_query.proofs.firsts.first_tokens.Given as goal

abbrev pub invariant-loop-place : goal.invariant-loop-place
invariant-loop-place l = record {
  nodes : Keeps l.fact l.rows l.place (placed_nodes l.tokens.items) l.count;
  places : All (IsPlaced l.rows) l.tokens.items;
}
