use Rattle.std.proofs.Common.{◌≡◌, map, take, length, Some}
use Rattle.tmm_model.specs.Beliefs.{class_of}
use Rattle.occ_tree.specs.Classes.{place_in, HaveMore}
use Rattle.belief_turns.proofs.rows.numbers_of.Given as goal

abbrev pub invariant-loop-i : goal.invariant-loop-i
invariant-loop-i l = record {
  numbers : map (λ fact. place_in l.classes (class_of l.standing.present fact)) (take l.i l.facts) ≡ map Some l.numbers.items;
  long : length l.numbers.items ≡ l.i;
  more : HaveMore l.fn.classes l.classes;
}
