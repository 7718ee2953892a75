use Rattle.std.proofs.Common.{◌≤◌, length, take}
use Rattle.std.specs.Prelude.{IfSome}
use Rattle.premise_list.specs.Rivalries.{rivalries}
use Rattle.occ_tree.specs.Places.{forest}
use Rattle.occ_tree.specs.Tokens.{number_of}
use Rattle.spots.specs.Forest.{IsLive}
use Rattle.supports.specs.Clips.{of_pairs, IsClipBy}
use Rattle.supports.proofs.rivals.clip.Given as goal

abbrev pub invariant-loop-i : goal.invariant-loop-i
invariant-loop-i l = record {
  few : l.i ≤ length (rivalries l.standing.present.premises);
  live : IfSome l.clip (IsLive (forest l.tree));
  clip : IsClipBy (of_pairs (take l.i (rivalries l.standing.present.premises))) l.standing.present l.net.present (forest l.tree) (number_of l.k.spot) l.clip;
}
